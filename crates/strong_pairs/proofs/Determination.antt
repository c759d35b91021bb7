-- A pair has one S-vector and one G-vector; and a G task may be closed from the start.
use Rattle.std.proofs.Common.{◌≡◌, ℕ, suc, zero, ◌<◌, ◌≤◌, true, ℤ, pos, negsuc, ◌+ℤ◌, ◌*ℤ◌, List, length, ◌⊎◌, inl, inr, refl, sym, ap, ◌∙◌, arith}
use borrow.Author.Differences.{ints}
use Rattle.std.specs.Prelude.{unsigned_abs, ◌<ℤ◌, ◌≤ℤ◌}
use Rattle.std.proofs.lemmas.Nat.Gcd.{same_from_IsGcd}
use Rattle.laurent_terms.specs.Monomials.{divides}
use Rattle.module_vec.specs.declared.places.Term.{Term}
use Rattle.module_vec.specs.declared.steps.Step.{Step}
use Rattle.module_vec.specs.Reducers.{AreEntries}
use Rattle.outcomes.specs.declared.kinds.PairKind.{PairKind}
use Rattle.outcomes.specs.declared.kinds.PairKind.TheVariants.{S, G}
use Rattle.strong_pairs.specs.Covering.{Divides}
use Rattle.strong_pairs.specs.Generating.{BeginsWith, Holds}
use Rattle.strong_pairs.specs.Pairs.{lead_at, IsPair, pair_place, AreFactors, ArePairSteps}
use Rattle.strong_pairs.specs.Tasks.{IsClosed, IsClosedFromStart}
use Rattle.strong_pairs.proofs.Coverage.{divides_itself}
use Rattle.strong_pairs.proofs.Entered.{lead_length, lead_positive}
use Rattle.strong_pairs.proofs.Exchanges.{cancel}
use Rattle.strong_pairs.proofs.LeadTerms.{divides_common}

-- ---- the factors

positive_same : (d e : ℤ) → pos 0 <ℤ d → pos 0 <ℤ e → unsigned_abs d ≡ unsigned_abs e → d ≡ e
positive_same (pos d) (pos e) h g s = ap pos s
positive_same (negsuc d) e h g s = absurd (omega (arith, ints, h))
positive_same (pos d) (negsuc e) h g s = absurd (omega (arith, ints, g))

from_product : (u d l : ℤ) → pos 0 <ℤ l → u *ℤ pos 0 ≡ l → ⊥
from_product u d l h e = absurd (omega (arith, ints, e, h))

some_divisor : (u : ℤ) (d : ℕ) (l : ℤ) → pos 0 <ℤ l → u *ℤ pos d ≡ l → pos 0 <ℤ pos d
some_divisor u zero l h e = absurd (from_product u (pos 0) l h e)
some_divisor u (suc d) l h e = omega (arith, ints)

antisymmetric : (u x : ℤ) → u ≤ℤ x → x ≤ℤ u → u ≡ x
antisymmetric u x h g = omega (arith, ints, h, g)

same_rest : (a y z d : ℤ) → a +ℤ y ≡ d → a +ℤ z ≡ d → y ≡ z
same_rest a y z d e f = omega (arith, ints, e, f)

same_factors : (kind : PairKind) (k l u v x y : ℤ) → pos 0 <ℤ k → pos 0 <ℤ l → AreFactors kind k l u v → AreFactors kind k l x y → (u ≡ x) × (v ≡ y)
same_factors S k l u v x y hk hl (d, g, first, second) (e, h, third, fourth) =
    let same : e ≡ d = same_from_IsGcd (unsigned_abs k) (unsigned_abs l) e d h g in
    let some : pos 0 <ℤ pos d = some_divisor u d l hl first in (
      cancel u x (pos d) some (first ∙ sym third ∙ ap (λ n. x *ℤ pos n) same),
      cancel v y (pos d) some (second ∙ sym fourth ∙ ap (λ n. y *ℤ pos n) same),
    )
same_factors G k l u v x y hk hl (d, g) (e, h) =
    let same : d ≡ e = positive_same d e g.positive h.positive (same_from_IsGcd (unsigned_abs k) (unsigned_abs l) (unsigned_abs d) (unsigned_abs e)
    g.divisor h.divisor) in
    let one : u ≡ x = antisymmetric u x (g.least x y h.natural (h.sum ∙ sym same)) (h.least u v g.natural (g.sum ∙ same)) in (
      one,
      cancel v y l hl (same_rest (u *ℤ k) (v *ℤ l) (y *ℤ l) d g.sum (ap (λ z. z *ℤ k +ℤ y *ℤ l) one ∙ h.sum ∙ sym same)),
    )

module _ (b : List (List Term)) (entries : AreEntries b) (kind : PairKind) (i j : ℕ) (pair : IsPair b i j) where
  i_in : i < length b
  i_in = let o : i < j = pair.order in let w : j < length b = pair.within in omega (arith, o, w)

  pub same_steps : (first second third fourth : Step) → ArePairSteps kind b i j first second → ArePairSteps kind b i j third fourth
      → (first ≡ third) × (second ≡ fourth)
  same_steps first second third fourth a c =
      let factors : (first.q ≡ third.q) × (second.q ≡ fourth.q) = same_factors kind (lead_at b i).k (lead_at b j).k first.q second.q third.q fourth.q
      (lead_positive b entries i i_in) (lead_positive b entries j pair.within) a.factors c.factors in
      let t = a.first_monomial ∙ sym c.first_monomial in
      let s = a.second_monomial ∙ sym c.second_monomial in
      let m = a.first_number ∙ sym c.first_number in
      let n = a.second_number ∙ sym c.second_number in
      ((λ x. record { q = factors.0 x; t = t x; by = m x }), λ x. record { q = factors.1 x; t = s x; by = n x })

-- ---- closed from the start

pub closed_from_start : (b : List (List Term)) → AreEntries b → (kind : PairKind) (i j : ℕ) → IsPair b i j → IsClosedFromStart b kind i j → IsClosed b kind i j
closed_from_start b entries S i j pair h = absurd h
closed_from_start b entries G i j pair h = by h
  where
    i_there : i < length b
    i_there = let o : i < j = pair.order in let w : j < length b = pair.within in omega (arith, o, w)

    both : (divides (lead_at b i).at.m (pair_place b i j).m ≡ true) × (divides (lead_at b j).at.m (pair_place b i j).m ≡ true)
    both = divides_common (lead_at b i).at.m (lead_at b j).at.m (lead_length b entries i i_there ∙ sym (lead_length b entries j pair.within))

    by : Divides (lead_at b i).k (lead_at b j).k ⊎ Divides (lead_at b j).k (lead_at b i).k → IsClosed b G i j
    by (inl d) = (i, (i_there, record { reduces = (refl, both.0); first = divides_itself (lead_at b i).k; second = d }))
    by (inr d) = (j, (pair.within, record { reduces = (sym pair.component, both.1); first = d; second = divides_itself (lead_at b j).k }))

pub begins_holds : (gens b : List (List Term)) → BeginsWith gens b → Holds gens b
begins_holds gens b begins i h = (i, (let r : length gens ≤ length b = begins.room in omega (arith, h, r)), begins.same i h)
