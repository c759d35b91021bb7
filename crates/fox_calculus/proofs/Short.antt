-- Sums of few small terms, as the Fox vector of a word that isn't too long, are within all limits.
use Rattle.std.proofs.Common.{◌≡◌, ℕ, suc, ◌+◌, ◌≤◌, Bool, true, false, if◌then◌else◌, ℤ, pos, ◌+ℤ◌, unsigned_abs, List, [], ◌∷◌, ◌++◌, length, drop, sum_by}
use Rattle.std.proofs.Common.{Err, refl, sym, subst, ap, ◌∙◌, arith}
use borrow.Author.Differences.{ints}
use Rattle.std.proofs.lemmas.List.{length-map}
use Rattle.free_words.specs.declared.letter.Letter.{Letter}
use Rattle.std.proofs.lemmas.List.Sums.{sum_by-cons}
use Rattle.std.specs.List.{AllByRecursion}
use Rattle.formal_sums.specs.FormalSum.{FormalSum, NonZero}
use Rattle.formal_sums.proofs.Shortest.{falling_shortest}
use Rattle.module_vec.specs.declared.places.Place.{Place}
use Rattle.module_vec.specs.declared.places.Term.{Term}
use Rattle.module_vec.specs.declared.faults.Stop.{Stop}
use Rattle.module_vec.specs.declared.faults.Stop.TheVariants.{Wide, Long, Deep, Steep}
use Rattle.module_vec.specs.declared.faults.VecFault.{VecFault}
use Rattle.module_vec.specs.declared.faults.VecFault.TheVariants as faults
use Rattle.module_vec.specs.Places.{same_place}
use Rattle.module_vec.specs.declared.TheConstants.{COEFFICIENT, TERMS}
use Rattle.module_vec.specs.Vectors.{sum_of, coefficient_at, IsTerm, IsSparse}
use Rattle.module_vec.specs.Results.{Has, SumIsWide, StopsBy, Makes}
use Rattle.module_vec.proofs.Order.{test, order}
use Rattle.fox_calculus.specs.Fox.{letter_term, fox_after, fox}

sign_by : (u : List Letter) (l : Letter) (b : Bool) → l.inv ≡ b → unsigned_abs (letter_term u l).0 ≡ 1
sign_by u l true e = rw e refl
sign_by u l false e = rw e refl

pub fox_length : (u w : List Letter) → length (fox_after u w) ≡ length w
fox_length u [] = refl
fox_length u (l ∷ w) = ap (λ n. suc n) (fox_length (u ++ l ∷ []) w)

grows : (b : Bool) (q c : ℤ) (n : ℕ) → unsigned_abs c ≤ n → unsigned_abs ((if b then q else pos 0) +ℤ c) ≤ unsigned_abs q + n
grows true q c n le = omega (arith, ints)
grows false q c n le = omega (arith, ints)

-- each coefficient of the sum is at most what the coefficients of its terms make together
coefficient_small : (v : List Term) (x : Place) → unsigned_abs (coefficient_at v x) ≤ sum_by (λ t. unsigned_abs t.k) v
coefficient_small [] x = omega arith
coefficient_small (t ∷ v) x =
    subst (λ n. unsigned_abs (coefficient_at (t ∷ v) x) ≤ n) (sym (sum_by-cons (λ t. unsigned_abs t.k) t v))
    (grows (same_place t.at x) t.k (coefficient_at v x) (sum_by (λ t. unsigned_abs t.k) v) (coefficient_small v x))

pub nonzero : (v : List Term) → AllByRecursion IsTerm v → NonZero (sum_of v)
nonzero [] h = tt
nonzero (t ∷ v) h = (h.0.nonzero, nonzero v h.1)

first_number : FormalSum Place → ℤ
first_number [] = pos 0
first_number (t ∷ v) = t.0

sum_length : (v : List Term) → length (sum_of v) ≡ length v
sum_length v = length-map {B = ℤ × Place} v (λ t. (t.k, t.at))

-- a vector that is the sum of these terms has no more of them
fewer : (made v : List Term) → IsSparse v → Has v (coefficient_at made) → length v ≤ length made
fewer made v sparse is =
    let le = falling_shortest test order (sum_of v) (sum_of made) sparse.falling (nonzero v sparse.terms) is in
    let a = sum_length v in
    let b = sum_length made in
    omega (arith, le, a, b)

-- few small terms pass no limit
no_stop : (v : List Term) (s : Stop) → length v ≤ TERMS → sum_by (λ t. unsigned_abs t.k) v ≤ COEFFICIENT
    → StopsBy 0 (SumIsWide (coefficient_at v)) (coefficient_at v) s → ⊥
no_stop v (Wide p n) few small stop = omega (arith, coefficient_small v p, small, stop.1.here)
no_stop v (Long terms n) few small stop =
    let le : length stop.2.v ≤ length v = fewer v stop.2.v stop.2.sparse stop.2.is in
    omega (arith, stop.3, le, few, stop.2.count)
no_stop v Deep few small stop = absurd stop
no_stop v (Steep d) few small stop = absurd stop

pub no_fault : (v : List Term) (e : VecFault) (s : Stop) → e ≡ faults.Stop s → length v ≤ TERMS → sum_by (λ t. unsigned_abs t.k) v ≤ COEFFICIENT
    → Makes (SumIsWide (coefficient_at v)) (coefficient_at v) (Err e) → ⊥
no_fault v e s is few small makes =
    no_stop v s few small (subst (λ (x : VecFault). Makes (SumIsWide (coefficient_at v)) (coefficient_at v) (Err x)) is makes)

-- so the terms of a word that isn't too long
pub terms_few : (made : List Term) (w : List Letter) → sum_of made ≡ fox w → length made ≡ length w
terms_few made w is = sym (sum_length made) ∙ (ap length is ∙ fox_length [] w)

all_ones : (v : List Term) (u w : List Letter) → sum_of v ≡ fox_after u w → sum_by (λ t. unsigned_abs t.k) v ≡ length w
unfolding first_number
all_ones [] u [] e = refl
all_ones [] u (l ∷ w) e = cc
all_ones (t ∷ v) u [] e = cc
all_ones (t ∷ v) u (l ∷ w) e =
    let first : t.k ≡ (letter_term u l).0 = ap first_number e in
    let rest : sum_of v ≡ fox_after (u ++ l ∷ []) w = ap (drop 1) e in
    sum_by-cons (λ t. unsigned_abs t.k) t v
    ∙ omega (arith, all_ones v (u ++ l ∷ []) w rest, ap unsigned_abs first ∙ sign_by u l l.inv refl)

pub terms_small : (made : List Term) (w : List Letter) → sum_of made ≡ fox w → sum_by (λ t. unsigned_abs t.k) made ≡ length w
terms_small made w is = all_ones made [] w is
