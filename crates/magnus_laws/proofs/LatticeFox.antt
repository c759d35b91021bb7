-- Fox vectors with exponents in a lattice, where the product rule is an equation of lists (Fox 1953).
use Rattle.std.proofs.Common.{◌≡◌, ℕ, zero, suc, Bool, true, false, not, cond, ◌&&◌, nat_eq, ℤ, pos, negsuc, ◌+ℤ◌, ◌*ℤ◌, List, [], ◌∷◌, ◌++◌, refl, sym, ap}
use Rattle.std.proofs.Common.{◌∙◌, arith, append_assoc}
use borrow.Author.Differences.{ints}
use Rattle.free_words.specs.declared.letter.Letter.{Letter}
use Rattle.free_words.specs.Words.{flipped, inverse, commutator, copies}
use Rattle.free_words.proofs.WordLemmas.{inverse-cons}
use Rattle.formal_sums.specs.FormalSum.{FormalSum, coefficient, Same, scale, rename}
use Rattle.formal_sums.specs.Keys.{IsEqualityTest}
use Rattle.formal_sums.proofs.Keys.{pair_test, nat_test}
use Rattle.formal_sums.proofs.Coefficients.{coefficient-append, coefficient-scale}
use Rattle.magnus_laws.proofs.Lattices.{Lattice, plus-none, plus-minus, minus-minus, minus-none, minus_of_plus, same-plus}

module _ (L : Lattice) where
  -- ---- definitions

  -- an element of the lattice and a component
  abbrev pub Point : Type 0
  Point = L.Z × ℕ

  abbrev pub same_point : Point → Point → Bool
  same_point a b = L.same a.0 b.0 && nat_eq a.1 b.1

  -- the point t·m
  abbrev pub shifted : L.Z → Point → Point
  shifted t m = (L.plus t m.0, m.1)

  abbrev pub shift : L.Z → FormalSum Point → FormalSum Point
  shift t v = rename (shifted t) v

  -- the exponents of a generator, or of its inverse
  abbrev pub step_by : Bool → ℕ → L.Z
  step_by true g = L.minus (L.one_at g)
  step_by false g = L.one_at g

  abbrev pub step : Letter → L.Z
  step l = step_by l.inv l.g

  -- the exponents of a word
  abbrev pub exponents : List Letter → L.Z
  exponents [] = L.none
  exponents (l ∷ w) = L.plus (step l) (exponents w)

  -- the term of a letter that stands after a word with the exponents a
  abbrev pub term_by : Bool → L.Z → ℕ → ℤ × Point
  term_by true a g = (negsuc 0, (L.plus a (L.minus (L.one_at g)), g))
  term_by false a g = (pos 1, (a, g))

  abbrev pub fox_from : L.Z → List Letter → FormalSum Point
  fox_from a [] = []
  fox_from a (l ∷ w) = term_by l.inv a l.g ∷ fox_from (L.plus a (step l)) w

  abbrev pub fox_in : List Letter → FormalSum Point
  fox_in w = fox_from L.none w

  abbrev pub at : FormalSum Point → Point → ℤ
  at v m = coefficient same_point v m

  abbrev pub Alike : FormalSum Point → FormalSum Point → Type 0
  Alike v w = Same same_point v w

  pub point_test : IsEqualityTest same_point
  point_test = pair_test L.test nat_test

  -- ---- exponents
  pub exponents-append : (u w : List Letter) → exponents (u ++ w) ≡ L.plus (exponents u) (exponents w)
  exponents-append [] w = sym (L.none-plus (exponents w))
  exponents-append (l ∷ u) w = ap (L.plus (step l)) (exponents-append u w) ∙ sym (L.plus_assoc (step l) (exponents u) (exponents w))

  step_by-not : (b : Bool) (g : ℕ) → step_by (not b) g ≡ L.minus (step_by b g)
  step_by-not true g = sym (minus-minus L (L.one_at g))
  step_by-not false g = refl

  pub step-flipped : (l : Letter) → step (flipped l) ≡ L.minus (step l)
  step-flipped l = step_by-not l.inv l.g

  pub exponents-inverse : (w : List Letter) → exponents (inverse w) ≡ L.minus (exponents w)
  exponents-inverse [] = sym (minus-none L)
  exponents-inverse (l ∷ w) =
      ap exponents (inverse-cons l w)
      ∙ exponents-append (inverse w) (flipped l ∷ [])
      ∙ ap (λ z. L.plus (exponents (inverse w)) z) (plus-none L (step (flipped l)) ∙ step-flipped l)
      ∙ ap (λ z. L.plus z (L.minus (step l))) (exponents-inverse w)
      ∙ sym (minus_of_plus L (step l) (exponents w))

  pub exponents-cancel : (w : List Letter) → exponents (w ++ inverse w) ≡ L.none
  exponents-cancel w = exponents-append w (inverse w) ∙ ap (L.plus (exponents w)) (exponents-inverse w) ∙ plus-minus L (exponents w)

  pub exponents-commutator : (u v : List Letter) → exponents (commutator u v) ≡ L.none
  exponents-commutator u v =
      let a : L.Z = exponents u in
      let b : L.Z = exponents v in
      exponents-append (u ++ v ++ inverse u) (inverse v)
      ∙ ap (λ z. L.plus z (exponents (inverse v))) (exponents-append (u ++ v) (inverse u)
      ∙ ap (λ z. L.plus z (exponents (inverse u))) (exponents-append u v ∙ L.plus_comm a b) ∙ ap (L.plus (L.plus b a)) (exponents-inverse u)
      ∙ L.plus_assoc b a (L.minus a) ∙ ap (L.plus b) (plus-minus L a) ∙ plus-none L b)
      ∙ ap (L.plus b) (exponents-inverse v) ∙ plus-minus L b

  pub exponents-copies : (k : ℕ) (w : List Letter) → exponents w ≡ L.none → exponents (copies k w) ≡ L.none
  exponents-copies zero w e = refl
  exponents-copies (suc k) w e = exponents-append (copies k w) w ∙ ap (L.plus (exponents (copies k w))) e ∙ plus-none L (exponents (copies k w))
      ∙ exponents-copies k w e

  -- ---- coefficients
  pub at-append : (v w : FormalSum Point) (m : Point) → at (v ++ w) m ≡ at v m +ℤ at w m
  at-append v w m = coefficient-append same_point v w m

  pub at-scale : (q : ℤ) (v : FormalSum Point) (m : Point) → at (scale q v) m ≡ q *ℤ at v m
  at-scale q v m = coefficient-scale same_point q v m

  pub at-shift : (t : L.Z) (v : FormalSum Point) (m : Point) → at (shift t v) m ≡ at v (L.plus (L.minus t) m.0, m.1)
  at-shift t [] m = refl
  at-shift t (c ∷ v) m = λ i. cond (same-plus L t c.1.0 m.0 i && nat_eq c.1.1 m.1) c.0 (pos 0) +ℤ at-shift t v m i

  pub shift-none : (v : FormalSum Point) → shift L.none v ≡ v
  shift-none [] = refl
  shift-none (c ∷ v) = λ i. (c.0, (L.none-plus c.1.0 i, c.1.1)) ∷ shift-none v i

  -- ---- the product rule
  pub fox_from-append : (a : L.Z) (u w : List Letter) → fox_from a (u ++ w) ≡ fox_from a u ++ fox_from (L.plus a (exponents u)) w
  fox_from-append a [] w = ap (λ z. fox_from z w) (sym (plus-none L a))
  fox_from-append a (l ∷ u) w =
      ap (λ z. term_by l.inv a l.g ∷ z) (fox_from-append (L.plus a (step l)) u w)
      ∙ ap (λ z. term_by l.inv a l.g ∷ (fox_from (L.plus a (step l)) u ++ fox_from z w)) (L.plus_assoc a (step l) (exponents u))

  abbrev shifted_term : L.Z → ℤ × Point → ℤ × Point
  shifted_term t c = (c.0, shifted t c.1)

  term_by-shift : (b : Bool) (t a : L.Z) (g : ℕ) → term_by b (L.plus t a) g ≡ shifted_term t (term_by b a g)
  term_by-shift true t a g = ap (λ z. (negsuc 0, (z, g))) (L.plus_assoc t a (L.minus (L.one_at g)))
  term_by-shift false t a g = refl

  fox_from-shift : (t a : L.Z) (w : List Letter) → fox_from (L.plus t a) w ≡ shift t (fox_from a w)
  fox_from-shift t a [] = refl
  fox_from-shift t a (l ∷ w) =
      ap (λ z. z ∷ fox_from (L.plus (L.plus t a) (step l)) w) (term_by-shift l.inv t a l.g)
      ∙ ap (λ z. shifted_term t (term_by l.inv a l.g) ∷ fox_from z w) (L.plus_assoc t a (step l))
      ∙ ap (λ z. shifted_term t (term_by l.inv a l.g) ∷ z) (fox_from-shift t (L.plus a (step l)) w)

  pub fox_from-at : (a : L.Z) (w : List Letter) → fox_from a w ≡ shift a (fox_in w)
  fox_from-at a w = ap (λ z. fox_from z w) (sym (plus-none L a)) ∙ fox_from-shift a L.none w

  -- fox (u w) is fox u and [u]·fox w
  pub fox_in-append : (u w : List Letter) → fox_in (u ++ w) ≡ fox_in u ++ shift (exponents u) (fox_in w)
  fox_in-append u w =
      fox_from-append L.none u w
      ∙ ap (λ z. fox_in u ++ fox_from z w) (L.none-plus (exponents u))
      ∙ ap (λ z. fox_in u ++ z) (fox_from-at (exponents u) w)

  -- ---- words with Fox vector 0
  pair_gone : (b : Bool) → cond b (pos 1) (pos 0) +ℤ (cond b (negsuc 0) (pos 0) +ℤ pos 0) ≡ pos 0
  pair_gone true = refl
  pair_gone false = refl

  pair_gone_back : (b : Bool) → cond b (negsuc 0) (pos 0) +ℤ (cond b (pos 1) (pos 0) +ℤ pos 0) ≡ pos 0
  pair_gone_back true = refl
  pair_gone_back false = refl

  fox_from-pair_by : (b : Bool) (g : ℕ) (a : L.Z) (m : Point) → at (term_by b a g ∷ term_by (not b) (L.plus a (step_by b g)) g ∷ []) m ≡ pos 0
  fox_from-pair_by true g a m = pair_gone_back (same_point (L.plus a (L.minus (L.one_at g)), g) m)
  fox_from-pair_by false g a m =
      let e : L.plus (L.plus a (L.one_at g)) (L.minus (L.one_at g)) ≡ a =
      L.plus_assoc a (L.one_at g) (L.minus (L.one_at g)) ∙ ap (L.plus a) (plus-minus L (L.one_at g)) ∙ plus-none L a in
      ap (λ z. cond (same_point (a, g) m) (pos 1) (pos 0) +ℤ (cond (same_point (z, g) m) (negsuc 0) (pos 0) +ℤ pos 0)) e ∙ pair_gone (same_point (a, g) m)

  -- a letter and its inverse
  pub fox_from-pair : (a : L.Z) (l : Letter) (m : Point) → at (fox_from a (l ∷ flipped l ∷ [])) m ≡ pos 0
  fox_from-pair a l m = fox_from-pair_by l.inv l.g a m

  -- a word and its inverse
  fox_from-cancel : (a : L.Z) (w : List Letter) (m : Point) → at (fox_from a (w ++ inverse w)) m ≡ pos 0
  fox_from-cancel a [] m = refl
  fox_from-cancel a (l ∷ w) m =
      let b : L.Z = L.plus a (step l) in
      let inner : FormalSum Point = fox_from b (w ++ inverse w) in
      let regroup : w ++ inverse (l ∷ w) ≡ (w ++ inverse w) ++ flipped l ∷ [] = ap (λ z. w ++ z) (inverse-cons l w)
      ∙ sym (append_assoc w (inverse w) (flipped l ∷ [])) in
      let split : fox_from b (w ++ inverse (l ∷ w)) ≡ inner ++ fox_from b (flipped l ∷ []) =
      ap (fox_from b) regroup ∙ fox_from-append b (w ++ inverse w) (flipped l ∷ [])
      ∙ ap (λ z. inner ++ fox_from z (flipped l ∷ [])) (ap (L.plus b) (exponents-cancel w) ∙ plus-none L b) in
      let rest : at (fox_from b (w ++ inverse (l ∷ w))) m ≡ at inner m +ℤ at (fox_from b (flipped l ∷ [])) m =
      ap (λ v. at v m) split ∙ at-append inner (fox_from b (flipped l ∷ [])) m in
      let gone : at inner m ≡ pos 0 = fox_from-cancel b w m in
      let pair : cond (same_point (term_by l.inv a l.g).1 m) (term_by l.inv a l.g).0 (pos 0) +ℤ at (fox_from b (flipped l ∷ [])) m ≡ pos 0 =
      fox_from-pair a l m in
      omega (arith, ints, rest, gone, pair)

  pub fox_in-inverse : (w : List Letter) (m : Point) → at (fox_in w) m +ℤ at (shift (exponents w) (fox_in (inverse w))) m ≡ pos 0
  fox_in-inverse w m =
      sym (at-append (fox_in w) (shift (exponents w) (fox_in (inverse w))) m) ∙ ap (λ v. at v m) (sym (fox_in-append w (inverse w)))
      ∙ fox_from-cancel L.none w m

  -- ---- where exponents are 0, Fox vectors add up
  fox_in-level : (u w : List Letter) → exponents u ≡ L.none → (m : Point) → at (fox_in (u ++ w)) m ≡ at (fox_in u) m +ℤ at (fox_in w) m
  fox_in-level u w e m =
      ap (λ v. at v m) (fox_in-append u w ∙ ap (λ z. fox_in u ++ shift z (fox_in w)) e ∙ ap (λ z. fox_in u ++ z) (shift-none (fox_in w)))
      ∙ at-append (fox_in u) (fox_in w) m

  fox_in-inverse_level : (w : List Letter) → exponents w ≡ L.none → (m : Point) → at (fox_in w) m +ℤ at (fox_in (inverse w)) m ≡ pos 0
  fox_in-inverse_level w e m =
      ap (λ z. at (fox_in w) m +ℤ at z m) (sym (ap (λ z. shift z (fox_in (inverse w))) e ∙ shift-none (fox_in (inverse w)))) ∙ fox_in-inverse w m

  one_more : (k : ℕ) (z : ℤ) → pos k *ℤ z +ℤ z ≡ pos (suc k) *ℤ z
  one_more k z = omega (arith, ints)

  pub fox_in-copies : (k : ℕ) (w : List Letter) → exponents w ≡ L.none → (m : Point) → at (fox_in (copies k w)) m ≡ pos k *ℤ at (fox_in w) m
  fox_in-copies zero w e m = omega (arith, ints)
  fox_in-copies (suc k) w e m =
      fox_in-level (copies k w) w (exponents-copies k w e) m ∙ ap (λ z. z +ℤ at (fox_in w) m) (fox_in-copies k w e m) ∙ one_more k (at (fox_in w) m)

  -- a commutator of words whose exponents are 0
  pub fox_in-commutator : (u v : List Letter) → exponents u ≡ L.none → exponents v ≡ L.none → (m : Point) → at (fox_in (commutator u v)) m ≡ pos 0
  fox_in-commutator u v e f m =
      let uv : exponents (u ++ v) ≡ L.none = exponents-append u v ∙ ap (λ z. L.plus z (exponents v)) e ∙ L.none-plus (exponents v) ∙ f in
      let uvu : exponents (u ++ v ++ inverse u) ≡ L.none =
      exponents-append (u ++ v) (inverse u) ∙ ap (λ z. L.plus z (exponents (inverse u))) uv ∙ L.none-plus (exponents (inverse u)) ∙ exponents-inverse u
      ∙ ap L.minus e
      ∙ minus-none L in
      omega (
        arith,
        ints,
        fox_in-level (u ++ v ++ inverse u) (inverse v) uvu m,
        fox_in-level (u ++ v) (inverse u) uv m,
        fox_in-level u v e m,
        fox_in-inverse_level u e m,
        fox_in-inverse_level v f m,
      )
