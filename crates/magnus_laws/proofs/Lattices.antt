-- The free abelian group on the generators as the proof uses it: an abelian group in which equality can be tested, with an
-- element for each generator.
use Rattle.std.proofs.Common.{◌≡◌, ℕ, Bool, refl, sym, ap, subst, ◌∙◌, IsTrue, true, false}
use Rattle.formal_sums.specs.Keys.{IsEqualityTest}

pub record Lattice : Type 1 where
  pub Z : Type 0
  pub plus : Z → Z → Z
  pub none : Z
  pub minus : Z → Z
  pub one_at : ℕ → Z
  pub same : Z → Z → Bool
  pub plus_assoc : (a b c : Z) → plus (plus a b) c ≡ plus a (plus b c)
  pub plus_comm : (a b : Z) → plus a b ≡ plus b a
  pub none-plus : (a : Z) → plus none a ≡ a
  pub minus-plus : (a : Z) → plus (minus a) a ≡ none
  pub test : IsEqualityTest same

bool_same : (a b : Bool) → (IsTrue a → IsTrue b) → (IsTrue b → IsTrue a) → a ≡ b
bool_same true b f g = sym (f refl)
bool_same false true f g = g refl
bool_same false false f g = refl

module _ (L : Lattice) where
  pub plus-none : (a : L.Z) → L.plus a L.none ≡ a
  plus-none a = L.plus_comm a L.none ∙ L.none-plus a

  pub plus-minus : (a : L.Z) → L.plus a (L.minus a) ≡ L.none
  plus-minus a = L.plus_comm a (L.minus a) ∙ L.minus-plus a

  -- there and back
  pub back : (t a : L.Z) → L.plus (L.minus t) (L.plus t a) ≡ a
  back t a = sym (L.plus_assoc (L.minus t) t a) ∙ ap (λ z. L.plus z a) (L.minus-plus t) ∙ L.none-plus a

  pub forth : (t a : L.Z) → L.plus t (L.plus (L.minus t) a) ≡ a
  forth t a = sym (L.plus_assoc t (L.minus t) a) ∙ ap (λ z. L.plus z a) (plus-minus t) ∙ L.none-plus a

  pub less_and_more : (a b : L.Z) → L.plus (L.plus a (L.minus b)) b ≡ a
  less_and_more a b = L.plus_assoc a (L.minus b) b ∙ ap (L.plus a) (L.minus-plus b) ∙ plus-none a

  pub minus_unique : (a b : L.Z) → L.plus a b ≡ L.none → b ≡ L.minus a
  minus_unique a b e = sym (back a b) ∙ ap (L.plus (L.minus a)) e ∙ plus-none (L.minus a)

  pub minus-minus : (a : L.Z) → L.minus (L.minus a) ≡ a
  minus-minus a = sym (minus_unique (L.minus a) a (L.minus-plus a))

  pub minus-none : L.minus L.none ≡ L.none
  minus-none = sym (minus_unique L.none L.none (L.none-plus L.none))

  pub minus_of_plus : (a b : L.Z) → L.minus (L.plus a b) ≡ L.plus (L.minus b) (L.minus a)
  minus_of_plus a b = sym (minus_unique (L.plus a b) (L.plus (L.minus b) (L.minus a))
      (L.plus_assoc a b (L.plus (L.minus b) (L.minus a)) ∙ ap (L.plus a) (forth b (L.minus a)) ∙ plus-minus a))

  -- an element is m after a step by t exactly where it was m less t
  pub same-plus : (t a m : L.Z) → L.same (L.plus t a) m ≡ L.same a (L.plus (L.minus t) m)
  same-plus t a m = bool_same _ _
      (λ e. subst (λ z. IsTrue (L.same a (L.plus (L.minus t) z))) (L.test.sound _ _ e) (subst (λ z. IsTrue (L.same a z)) (sym (back t a)) (L.test.reflexive a)))
      (λ e. subst (λ z. IsTrue (L.same (L.plus t z) m)) (sym (L.test.sound _ _ e)) (subst (λ z. IsTrue (L.same z m)) (sym (forth t m)) (L.test.reflexive m)))
