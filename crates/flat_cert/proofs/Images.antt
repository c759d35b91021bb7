-- Vectors with one flat image differ by multiples of unit binomials.
use Rattle.std.proofs.Common.{◌≡◌, ℕ, zero, suc, ◌+◌, ◌-◌, ◌*◌, ◌<◌, ◌≤◌, nat_lt, Bool, true, false, pos, negsuc, ◌+ℤ◌, neg_ℤ, List, [], ◌∷◌, ◌++◌, length}
use Rattle.std.proofs.Common.{slice_index, refl, ap, subst, ◌∙◌, arith, append_assoc}
use Rattle.std.specs.Prelude.{Contains}
use Rattle.std.proofs.lemmas.List.{length-append}
use borrow.Author.Differences.{ints}
use Rattle.free_words.specs.declared.letter.Letter.{Letter}
use Rattle.free_words.specs.declared.TheConstants.{GENERATORS}
use Rattle.presentation.specs.Presented.{Presented, IsPresented}
use Rattle.formal_sums.specs.FormalSum.{FormalSum, Same, scale}
use Rattle.formal_sums.specs.Span.{SumOfMultiples}
use Rattle.formal_sums.specs.Span.SumOfMultiples.{nothing, more}
use Rattle.laurent_terms.specs.Monomials.{positive_part, negative_part}
use Rattle.module_vec.specs.declared.places.Place.{Place}
use Rattle.module_vec.specs.Places.{same_place, moved}
use Rattle.vector_text.specs.Over.{MonoIsOver}
use Rattle.fox_calculus.specs.Module.{HasVariables, IsGenerator, IsMember}
use Rattle.fox_calculus.specs.Module.IsGenerator.{relator_vector, relator_binomial, unit_binomial, modulus_vector}
use Rattle.magnus_laws.specs.Congruence.{AreCongruent}
use Rattle.magnus_laws.proofs.Members.{member_nothing, congruent_same, congruent_back, congruent_on}
use Rattle.magnus_laws.proofs.UnitBinomials.{CountAlike, alike_on, alike_self, alike_pair}
use Rattle.magnus_laws.proofs.Upward.{congruent_next}
use Rattle.flat_cert.specs.Images.{cancelled, flat_image, IsSumOver, IsUnitBinomial, IsSumOfUnits}
use Rattle.flat_cert.specs.Images.IsUnitBinomial.{of_generator}

pub positive_cancelled : (a b : ℕ) → positive_part (pos a +ℤ neg_ℤ (pos b)) ≡ a - b
positive_cancelled zero zero = refl
positive_cancelled (suc a) zero = let z : pos (suc a) +ℤ neg_ℤ (pos 0) ≡ pos (suc a) = omega (arith, ints) in ap positive_part z ∙ omega arith
positive_cancelled zero (suc b) = let z : pos 0 +ℤ neg_ℤ (pos (suc b)) ≡ negsuc b = omega (arith, ints) in ap positive_part z ∙ omega arith
positive_cancelled (suc a) (suc b) =
    let z : pos (suc a) +ℤ neg_ℤ (pos (suc b)) ≡ pos a +ℤ neg_ℤ (pos b) = omega (arith, ints) in
    ap positive_part z ∙ positive_cancelled a b ∙ omega arith

pub negative_cancelled : (a b : ℕ) → negative_part (pos a +ℤ neg_ℤ (pos b)) ≡ b - a
negative_cancelled zero zero = refl
negative_cancelled (suc a) zero = let z : pos (suc a) +ℤ neg_ℤ (pos 0) ≡ pos (suc a) = omega (arith, ints) in ap negative_part z ∙ omega arith
negative_cancelled zero (suc b) = let z : pos 0 +ℤ neg_ℤ (pos (suc b)) ≡ negsuc b = omega (arith, ints) in ap negative_part z ∙ omega arith
negative_cancelled (suc a) (suc b) =
    let z : pos (suc a) +ℤ neg_ℤ (pos (suc b)) ≡ pos a +ℤ neg_ℤ (pos b) = omega (arith, ints) in
    ap negative_part z ∙ negative_cancelled a b ∙ omega arith

-- the presentation of the free group on the same generators: its module is that of the unit binomials
abbrev free : Presented → Presented
free p = record { names = p.names; relators = []; modulus = 0 }

module _ (p : Presented) (few : length p.names ≤ GENERATORS) where
  abbrev n : ℕ
  n = length p.names

  -- the two exponents of a generator
  alike_two : (g : ℕ) (front : List ℕ) (a b : ℕ) (back : List ℕ) (less : Bool) → nat_lt g n ≡ less → length front ≡ 2 * g
      → HasVariables (front ++ a ∷ b ∷ back)
      → ((v : ℕ) → 2 * n ≤ 2 * g + v → slice_index (a ∷ b ∷ back) v ≡ 0)
      → CountAlike p few (front ++ a ∷ b ∷ back) (front ++ (a - b) ∷ (b - a) ∷ back)
  alike_two g front a b back true t e long over =
      let below : g < n = grind arith in
      subst (λ x. CountAlike p few (front ++ a ∷ b ∷ back) (front ++ x ∷ (b - a) ∷ back)) (positive_cancelled a b)
      (subst (λ y. CountAlike p few (front ++ a ∷ b ∷ back) (front ++ positive_part (pos a +ℤ neg_ℤ (pos b)) ∷ y ∷ back)) (negative_cancelled a b)
      (alike_pair p few g below front a b back e long))
  alike_two g front a b back false t e long over =
      let above : n ≤ g = grind arith in
      let first : a ≡ 0 = over 0 (omega (arith, above)) in
      let second : b ≡ 0 = over 1 (omega (arith, above)) in
      let x : a ≡ a - b = omega (arith, first, second) in
      let y : b ≡ b - a = omega (arith, first, second) in
      subst (λ z. CountAlike p few (front ++ a ∷ b ∷ back) z) (λ i. front ++ x i ∷ y i ∷ back) (alike_self p few (front ++ a ∷ b ∷ back))

  alike_from : (g : ℕ) (front s : List ℕ) → length front ≡ 2 * g → HasVariables (front ++ s) → ((v : ℕ) → 2 * n ≤ 2 * g + v → slice_index s v ≡ 0)
      → CountAlike p few (front ++ s) (front ++ cancelled s)
  alike_from g front [] e long over = alike_self p few (front ++ [])
  alike_from g front (a ∷ []) e long over = alike_self p few (front ++ a ∷ [])
  alike_from g front (a ∷ b ∷ s) e long over =
      let more : List ℕ = front ++ (a - b) ∷ (b - a) ∷ [] in
      let long_more : HasVariables (more ++ s) =
      ap length (append_assoc front ((a - b) ∷ (b - a) ∷ []) s)
      ∙ omega (arith, long, length-append front (a ∷ b ∷ s), length-append front ((a - b) ∷ (b - a) ∷ s)) in
      let rest : CountAlike p few (more ++ s) (more ++ cancelled s) =
      alike_from (suc g) more s (omega (arith, e, length-append front ((a - b) ∷ (b - a) ∷ []))) long_more
      (λ v h. over (suc (suc v)) (omega (arith, h))) in
      alike_on p few (front ++ a ∷ b ∷ s) (front ++ (a - b) ∷ (b - a) ∷ s) (front ++ (a - b) ∷ (b - a) ∷ cancelled s)
      (alike_two g front a b s (nat_lt g n) refl e long over)
      (subst (λ u. CountAlike p few u (front ++ (a - b) ∷ (b - a) ∷ cancelled s)) (append_assoc front ((a - b) ∷ (b - a) ∷ []) s)
      (subst (λ u. CountAlike p few (more ++ s) u) (append_assoc front ((a - b) ∷ (b - a) ∷ []) (cancelled s)) rest))

  -- a monomial counts like the one that is cancelled
  pub alike_cancelled : (s : List ℕ) → HasVariables s → MonoIsOver n s → CountAlike p few s (cancelled s)
  alike_cancelled s long over = alike_from 0 [] s refl long (λ v h. over v (omega (arith, h)))

  -- so a vector is congruent to its flat image
  flat_congruent : (v : FormalSum Place) → IsSumOver n v → AreCongruent p v (flat_image v)
  flat_congruent [] over = member_nothing p
  flat_congruent ((q, x) ∷ v) over =
      congruent_next p few q x.m (cancelled x.m) x.c v (flat_image v)
      (alike_cancelled x.m over.0.variables over.0.over.mono x.c over.0.over.component) (flat_congruent v over.1)

  pub images_congruent : (v w : FormalSum Place) → IsSumOver n v → IsSumOver n w → Same same_place (flat_image v) (flat_image w) → AreCongruent p v w
  images_congruent v w ov ow same =
      congruent_on p v (flat_image v) w (flat_congruent v ov)
      (congruent_on p (flat_image v) (flat_image w) w (congruent_same p (flat_image v) (flat_image w) same)
      (congruent_back p w (flat_image w) (flat_congruent w ow)))

module _ (p : Presented) where
  unit_of : (g : FormalSum Place) → IsGenerator (free p) g → IsUnitBinomial p g
  unit_of _ (relator_vector r listed) = absurd (none r listed)
    where
      none : (r : List Letter) → Contains [] r → ⊥
      none r listed = absurd (omega (arith, listed.1))
  unit_of _ (relator_binomial r c listed below) = absurd (none r listed)
    where
      none : (r : List Letter) → Contains [] r → ⊥
      none r listed = absurd (omega (arith, listed.1))
  unit_of _ (unit_binomial g c small below) = of_generator g c small below
  unit_of _ (modulus_vector c some below) = absurd (omega (arith, some))

  units_of : (v : FormalSum Place) → SumOfMultiples moved HasVariables (IsGenerator (free p)) v → SumOfMultiples moved HasVariables (IsUnitBinomial p) v
  units_of _ (nothing) = nothing
  units_of _ (more q t g v long is sum) = more q t g v long (unit_of g is) (units_of v sum)

pub images_determine : (p : Presented) (v w : FormalSum Place) → IsPresented p → IsSumOver (length p.names) v → IsSumOver (length p.names) w
    → Same same_place (flat_image v) (flat_image w) → IsSumOfUnits p (v ++ scale (negsuc 0) w)
images_determine p v w known ov ow same = by (images_congruent (free p) known.few_names v w ov ow same)
  where
    by : IsMember (free p) (v ++ scale (negsuc 0) w) → IsSumOfUnits p (v ++ scale (negsuc 0) w)
    by (s, sum, e) = (s, units_of p s sum, e)
