-- Modulo the unit binomials x_g y_g - 1 a monomial counts by the differences of its exponents alone.
use Rattle.std.proofs.Common.{◌≡◌, ℕ, zero, suc, ◌+◌, ◌-◌, ◌*◌, ◌<◌, ◌≤◌, Bool, true, false, cond, ℤ, pos, negsuc, ◌+ℤ◌, ◌*ℤ◌, neg_ℤ, List, [], ◌∷◌, ◌++◌}
use Rattle.std.proofs.Common.{replicate, length, refl, sym, ap, subst, ◌∙◌, arith, append_assoc, append-nil}
use Rattle.std.proofs.lemmas.List.{length-append, length-replicate}
use borrow.Author.Differences.{ints}
use Rattle.free_words.specs.declared.TheConstants.{GENERATORS}
use Rattle.presentation.specs.Presented.{Presented}
use Rattle.formal_sums.specs.FormalSum.{FormalSum, scale}
use Rattle.formal_sums.specs.Span.{multiple}
use Rattle.formal_sums.specs.IntegerTuple.{IntegerTuple, plus}
use Rattle.laurent_terms.specs.declared.TheConstants.{VARIABLES}
use Rattle.laurent_terms.specs.Monomials.{product, positive_part, negative_part}
use Rattle.module_vec.specs.declared.places.Place.{Place}
use Rattle.module_vec.specs.Places.{same_place, moved}
use Rattle.fox_calculus.specs.Generators.{binomial, unit_monomial}
use Rattle.fox_calculus.specs.Module.{HasVariables, IsMember}
use Rattle.fox_calculus.specs.Module.IsGenerator.{unit_binomial}
use Rattle.magnus_laws.proofs.Members.{member_same, member_nothing, member_sum, member_scale, member_of_generator}
use Rattle.magnus_laws.proofs.Monomials.{product-append, product-zeros, length-product, parts, written, length-parts, written-parts, length-written, read}
use Rattle.magnus_laws.proofs.Monomials.{read-parts, read-product, unit_monomial-is}

-- (s - t)·e_c
abbrev pub difference : List ℕ → List ℕ → ℕ → FormalSum Place
difference s t c = (pos 1, record { m = s; c = c }) ∷ (negsuc 0, record { m = t; c = c }) ∷ []

-- what the monomial m, in the component c, has at x
abbrev here : List ℕ → ℕ → Place → Bool
here m c x = same_place (record { m = m; c = c }) x

-- x_g y_g in front of other variables puts one more to both exponents
product-unit : (g : ℕ) (front : List ℕ) (a b : ℕ) (back : List ℕ) → length front ≡ 2 * g → HasVariables (front ++ a ∷ b ∷ back)
    → product (front ++ a ∷ b ∷ back) (unit_monomial g) ≡ front ++ suc a ∷ suc b ∷ back
product-unit g front a b back e long =
    let m : ℕ = length back in
    let whole : 2 * g + suc (suc m) ≡ VARIABLES = omega (arith, e, long, length-append front (a ∷ b ∷ back)) in
    let first : a + 1 ≡ suc a = omega arith in
    let second : b + 1 ≡ suc b = omega arith in
    ap (product (front ++ a ∷ b ∷ back)) (unit_monomial-is g m whole)
    ∙ product-append front (replicate (2 * g) 0) (a ∷ b ∷ back) (1 ∷ 1 ∷ replicate m 0) (e ∙ sym (length-replicate (2 * g) 0))
    ∙ (λ i. product-zeros (2 * g) front e i ++ first i ∷ second i ∷ product-zeros m back refl i)

module _ (p : Presented) (few : length p.names ≤ GENERATORS) where
  abbrev pub n : ℕ
  n = length p.names

  -- s and t count alike
  abbrev pub CountAlike : List ℕ → List ℕ → Type 0
  CountAlike s t = (c : ℕ) → c < n → IsMember p (difference s t c)

  between : (a b d : Bool)
      → cond a (pos 1) (pos 0) +ℤ (cond d (negsuc 0) (pos 0) +ℤ pos 0) ≡ cond a (pos 1) (pos 0)
      +ℤ (cond b (negsuc 0) (pos 0) +ℤ (cond b (pos 1) (pos 0) +ℤ (cond d (negsuc 0) (pos 0) +ℤ pos 0)))
  between true true true = refl
  between true true false = refl
  between true false true = refl
  between true false false = refl
  between false true true = refl
  between false true false = refl
  between false false true = refl
  between false false false = refl

  pub alike_on : (s t u : List ℕ) → CountAlike s t → CountAlike t u → CountAlike s u
  alike_on s t u h k c below =
      member_same p (difference s u c) (difference s t c ++ difference t u c) (λ x. between (here s c x) (here t c x) (here u c x))
      (member_sum p (difference s t c) (difference t u c) (h c below) (k c below))

  swapped : (a b : Bool)
      → cond a (pos 1) (pos 0) +ℤ (cond b (negsuc 0) (pos 0) +ℤ pos 0) ≡ cond b (negsuc 0 *ℤ pos 1) (pos 0) +ℤ (cond a (negsuc 0 *ℤ negsuc 0) (pos 0) +ℤ pos 0)
  swapped true true = refl
  swapped true false = refl
  swapped false true = refl
  swapped false false = refl

  pub alike_back : (s t : List ℕ) → CountAlike s t → CountAlike t s
  alike_back s t h c below =
      member_same p (difference t s c) (scale (negsuc 0) (difference s t c)) (λ x. swapped (here t c x) (here s c x))
      (member_scale p (negsuc 0) (difference s t c) (h c below))

  cancelled : (b : Bool) → cond b (pos 1) (pos 0) +ℤ (cond b (negsuc 0) (pos 0) +ℤ pos 0) ≡ pos 0
  cancelled true = refl
  cancelled false = refl

  pub alike_self : (s : List ℕ) → CountAlike s s
  alike_self s c below = member_same p (difference s s c) [] (λ x. cancelled (here s c x)) (member_nothing p)

  times_one : (a b : Bool)
      → cond a (pos 1) (pos 0) +ℤ (cond b (negsuc 0) (pos 0) +ℤ pos 0) ≡ cond a (pos 1 *ℤ pos 1) (pos 0) +ℤ (cond b (pos 1 *ℤ negsuc 0) (pos 0) +ℤ pos 0)
  times_one true true = refl
  times_one true false = refl
  times_one false true = refl
  times_one false false = refl

  alike_unit : (t : List ℕ) (g : ℕ) → HasVariables t → g < n → CountAlike (product t (unit_monomial g)) t
  alike_unit t g long small c below =
      member_same p (difference (product t (unit_monomial g)) t c) (multiple moved (pos 1) t (binomial (unit_monomial g) c))
      (λ x.
      times_one (here (product t (unit_monomial g)) c x) (here t c x)
      ∙ (λ i. cond (here (product t (unit_monomial g)) c x) (pos 1 *ℤ pos 1) (pos 0)
      +ℤ (cond (here (sym (product-zeros VARIABLES t long) i) c x) (pos 1 *ℤ negsuc 0) (pos 0) +ℤ pos 0)))
      (member_of_generator p (pos 1) t (binomial (unit_monomial g) c) long (unit_binomial g c small below))

  -- the two exponents of a generator, of which one becomes 0
  pub alike_pair : (g : ℕ) → g < n → (front : List ℕ) (a b : ℕ) (back : List ℕ) → length front ≡ 2 * g → HasVariables (front ++ a ∷ b ∷ back)
      → CountAlike (front ++ a ∷ b ∷ back) (front ++ positive_part (pos a +ℤ neg_ℤ (pos b)) ∷ negative_part (pos a +ℤ neg_ℤ (pos b)) ∷ back)
  alike_pair g small front zero zero back e long = alike_self (front ++ 0 ∷ 0 ∷ back)
  alike_pair g small front (suc a) zero back e long =
      let z : pos (suc a) +ℤ neg_ℤ (pos 0) ≡ pos (suc a) = omega (arith, ints) in
      subst (λ y. CountAlike (front ++ suc a ∷ 0 ∷ back) (front ++ positive_part y ∷ negative_part y ∷ back)) (sym z) (alike_self (front ++ suc a ∷ 0 ∷ back))
  alike_pair g small front zero (suc b) back e long =
      let z : pos 0 +ℤ neg_ℤ (pos (suc b)) ≡ negsuc b = omega (arith, ints) in
      subst (λ y. CountAlike (front ++ 0 ∷ suc b ∷ back) (front ++ positive_part y ∷ negative_part y ∷ back)) (sym z) (alike_self (front ++ 0 ∷ suc b ∷ back))
  alike_pair g small front (suc a) (suc b) back e long =
      let less : List ℕ = front ++ a ∷ b ∷ back in
      let z : pos (suc a) +ℤ neg_ℤ (pos (suc b)) ≡ pos a +ℤ neg_ℤ (pos b) = omega (arith, ints) in
      let length_less : HasVariables less = omega (arith, long, length-append front (a ∷ b ∷ back), length-append front (suc a ∷ suc b ∷ back)) in
      alike_on (front ++ suc a ∷ suc b ∷ back) less (front ++ positive_part (pos (suc a) +ℤ neg_ℤ (pos (suc b)))
      ∷ negative_part (pos (suc a) +ℤ neg_ℤ (pos (suc b))) ∷ back)
      (subst (λ y. CountAlike y less) (product-unit g front a b back e length_less) (alike_unit less g length_less small))
      (subst (λ y. CountAlike less (front ++ positive_part y ∷ negative_part y ∷ back)) (sym z) (alike_pair g small front a b back e length_less))

  -- the exponents of the generators from g on
  alike_parts : (g k : ℕ) → g + k ≡ n → (front s back : List ℕ) → length front ≡ 2 * g → length s ≡ 2 * k → HasVariables (front ++ (s ++ back))
      → CountAlike (front ++ (s ++ back)) (front ++ (parts k (read k s) ++ back))
  unfolding read
  alike_parts g zero all front [] back e f long = alike_self (front ++ back)
  alike_parts g zero all front (a ∷ s) back e f long = absurd (omega (arith, f))
  alike_parts g (suc k) all front [] back e f long = absurd (omega (arith, f))
  alike_parts g (suc k) all front (a ∷ []) back e f long = absurd (omega (arith, f))
  alike_parts g (suc k) all front (a ∷ b ∷ s) back e f long =
      let z : ℤ = pos a +ℤ neg_ℤ (pos b) in
      let x : ℕ = positive_part z in
      let y : ℕ = negative_part z in
      let more : List ℕ = front ++ x ∷ y ∷ [] in
      let first : CountAlike (front ++ a ∷ b ∷ (s ++ back)) (front ++ x ∷ y ∷ (s ++ back)) = alike_pair g (omega (arith, all)) front a b (s ++ back) e long in
      let long_more : HasVariables (more ++ (s ++ back)) =
      ap length (append_assoc front (x ∷ y ∷ []) (s ++ back))
      ∙ omega (arith, long, length-append front (a ∷ b ∷ (s ++ back)), length-append front (x ∷ y ∷ (s ++ back))) in
      let rest : CountAlike (more ++ (s ++ back)) (more ++ (parts k (read k s) ++ back)) =
      alike_parts (suc g) k (omega (arith, all)) more s back (omega (arith, e, length-append front (x ∷ y ∷ []))) (omega (arith, f)) long_more in
      alike_on (front ++ a ∷ b ∷ (s ++ back)) (front ++ x ∷ y ∷ (s ++ back)) (front ++ x ∷ y ∷ (parts k (read k s) ++ back)) first
      (subst (λ u. CountAlike u (front ++ x ∷ y ∷ (parts k (read k s) ++ back))) (append_assoc front (x ∷ y ∷ []) (s ++ back))
      (subst (λ u. CountAlike (more ++ (s ++ back)) u) (append_assoc front (x ∷ y ∷ []) (parts k (read k s) ++ back)) rest))

  read_product_of_parts : (a b : IntegerTuple n) → read n (product (parts n a) (parts n b)) ≡ plus n a b
  read_product_of_parts a b =
      read-product n (parts n a) (parts n b) (length-parts n a ∙ sym (length-parts n b))
      ∙ (λ i. plus n ((ap (read n) (sym (append-nil (parts n a))) ∙ read-parts n a []) i) ((ap (read n) (sym (append-nil (parts n b))) ∙ read-parts n b []) i))

  -- the monomial of a sum counts like the product of the monomials
  pub alike_product : (a b : IntegerTuple n) → CountAlike (written n (plus n a b)) (product (written n a) (written n b))
  alike_product a b =
      let k : ℕ = VARIABLES - 2 * n in
      let back : List ℕ = replicate k 0 in
      let s : List ℕ = product (parts n a) (parts n b) in
      let split : product (written n a) (written n b) ≡ s ++ back =
      (λ i. product (written-parts n a i) (written-parts n b i)) ∙ product-append (parts n a) (parts n b) back back (length-parts n a ∙ sym (length-parts n b))
      ∙ ap (λ z. s ++ z) (product-zeros k back (length-replicate k 0)) in
      let long : HasVariables (s ++ back) =
      ap length (sym split) ∙ length-product VARIABLES (written n a) (written n b) (length-written n a few) (length-written n b few) in
      let to : CountAlike (s ++ back) (parts n (read n s) ++ back) =
      alike_parts 0 n (omega arith) [] s back refl (length-product (2 * n) (parts n a) (parts n b) (length-parts n a) (length-parts n b)) long in
      subst (λ z. CountAlike (written n (plus n a b)) z) (sym split)
      (subst (λ z. CountAlike z (s ++ back)) (ap (λ z. parts n z ++ back) (read_product_of_parts a b)
      ∙ sym (written-parts n (plus n a b))) (alike_back (s ++ back) (parts n (read n s) ++ back) to))
