-- The numbers that are kept, and their places.
use Rattle.std.proofs.Common.{◌≡◌, ◌↔◌, ℕ, zero, suc, ◌+◌, ◌≤◌, Bool, true, false, if◌then◌else◌, List, [], ◌∷◌, ◌++◌, length, take, slice_get, length-append}
use Rattle.std.proofs.Common.{Some, None, refl, sym, ap, subst, ◌∙◌, arith}
use Rattle.report_reading.specs.declared.data.ReportData.{ReportData}
use Rattle.report_reading.specs.declared.entry.EntryData.{EntryData}
use Rattle.report_trimming.specs.Used.{Name, NamedInProof, steps_in, IsNeeded, IsUsed}
use Rattle.report_trimming.specs.Kept.{kept_from, kept_by, place_of, IsMarked}
use Rattle.report_trimming.specs.Trimming.{IsRising, IsKept}
use Rattle.report_trimming.proofs.Marking.{some_same}

none_some : {X : Type 0} {x : X} → None ≡ Some x → ⊥
none_some e = cc

pub false_true : false ≡ true → ⊥
false_true e = cc

-- a number that is marked stands behind those that are kept before it
kept_at : (b : ℕ) (ms : List Bool) (k : ℕ) → IsMarked ms k → slice_get (kept_from b ms) (length (kept_from b (take k ms))) ≡ Some (b + k)
kept_at b [] k h = absurd (none_some h)
kept_at b (true ∷ ms) zero h = let e : b ≡ b + 0 = omega arith in ap Some e
kept_at b (false ∷ ms) zero h = absurd (false_true (some_same h))
kept_at b (true ∷ ms) (suc k) h = let e : b + 1 + k ≡ b + suc k = omega arith in kept_at (b + 1) ms k h ∙ ap Some e
kept_at b (false ∷ ms) (suc k) h = let e : b + 1 + k ≡ b + suc k = omega arith in kept_at (b + 1) ms k h ∙ ap Some e

pub kept_place : (ms : List Bool) (k : ℕ) → IsMarked ms k → slice_get (kept_by ms) (place_of ms k) ≡ Some k
kept_place ms k h = let e : 0 + k ≡ k = omega arith in kept_at 0 ms k h ∙ ap Some e

-- what is kept is marked
pub record IsMarkedAt (b : ℕ) (ms : List Bool) (k : ℕ) : Type 0 where
  pub at : ℕ
  pub is : k ≡ b + at
  pub marked : IsMarked ms at

one_more : (b : ℕ) (m : Bool) (ms : List Bool) (k : ℕ) → IsMarkedAt (b + 1) ms k → IsMarkedAt b (m ∷ ms) k
one_more b m ms k h = record { at = suc h.at; is = (let e = h.is in omega (arith, e)); marked = h.marked }

kept_marked : (b : ℕ) (ms : List Bool) (i k : ℕ) → slice_get (kept_from b ms) i ≡ Some k → IsMarkedAt b ms k
kept_marked b [] i k h = absurd (none_some h)
kept_marked b (true ∷ ms) zero k h = record { at = 0; is = (let e = some_same h in omega (arith, e)); marked = refl }
kept_marked b (true ∷ ms) (suc i) k h = one_more b true ms k (kept_marked (b + 1) ms i k h)
kept_marked b (false ∷ ms) i k h = one_more b false ms k (kept_marked (b + 1) ms i k h)

pub kept_are_marked : (ms : List Bool) (k : ℕ) → IsKept (kept_by ms) k ↔ IsMarked ms k
kept_are_marked ms k = (
  λ h. (let m = kept_marked 0 ms h.0 k h.1 in subst (IsMarked ms) (let e = m.is in omega (arith, e)) m.marked),
  λ h. (place_of ms k, kept_place ms k h),
)

-- they rise
rising_from : (b : ℕ) (ms : List Bool) → IsRising (kept_from b ms)
rising_from b [] i j x y lt h k = absurd (none_some h)
rising_from b (true ∷ ms) zero zero x y lt h k = absurd (omega (arith, lt))
rising_from b (true ∷ ms) zero (suc j) x y lt h k = let m = kept_marked (b + 1) ms j y k in let e = some_same h in let is = m.is in omega (arith, e, is)
rising_from b (true ∷ ms) (suc i) zero x y lt h k = absurd (omega (arith, lt))
rising_from b (true ∷ ms) (suc i) (suc j) x y lt h k = rising_from (b + 1) ms i j x y (omega (arith, lt)) h k
rising_from b (false ∷ ms) i j x y lt h k = rising_from (b + 1) ms i j x y lt h k

pub rising : (ms : List Bool) → IsRising (kept_by ms)
rising ms = rising_from 0 ms

-- ---- counting

-- as many stand before a number as are kept before it
counted : (b : ℕ) (ms : List Bool) (k : ℕ) → length (kept_from b (take k ms)) ≤ k
counted b ms zero = omega arith
counted b [] (suc k) = omega arith
counted b (true ∷ ms) (suc k) = let l = counted (b + 1) ms k in omega (arith, l)
counted b (false ∷ ms) (suc k) = let l = counted (b + 1) ms k in omega (arith, l)

pub place_within : (ms : List Bool) (k : ℕ) → place_of ms k ≤ k
place_within ms k = counted 0 ms k

-- what is kept of one more mark
kept_more : (b : ℕ) (ms : List Bool) (k : ℕ) (m : Bool) → slice_get ms k ≡ Some m
    → kept_from b (take (k + 1) ms) ≡ kept_from b (take k ms) ++ (if m then (b + k) ∷ [] else [])
kept_more b [] k m h = absurd (none_some h)
kept_more b (x ∷ ms) zero m h = by x m (some_same h)
  where
    at : b ≡ b + 0
    at = omega arith

    by : (x m : Bool) → x ≡ m → (if x then b ∷ [] else []) ++ [] ≡ (if m then (b + 0) ∷ [] else [])
    by true true e = ap (λ n. n ∷ []) at
    by true false e = absurd (false_true (sym e))
    by false true e = absurd (false_true e)
    by false false e = refl
kept_more b (x ∷ ms) (suc k) m h =
    let next : suc (k + 1) ≡ suc k + 1 = omega arith in
    let at : b + 1 + k ≡ b + suc k = omega arith in
    subst (λ n. kept_from b (take n (x ∷ ms)) ≡ kept_from b (take (suc k) (x ∷ ms)) ++ (if m then (b + suc k) ∷ [] else [])) next
    (by x (kept_more (b + 1) ms k m h ∙ ap (λ n. kept_from (b + 1) (take k ms) ++ (if m then n ∷ [] else [])) at))
  where
    by : (x : Bool) → kept_from (b + 1) (take (k + 1) ms) ≡ kept_from (b + 1) (take k ms) ++ (if m then (b + suc k) ∷ [] else [])
        → (if x then b ∷ [] else []) ++ kept_from (b + 1) (take (k + 1) ms)
        ≡ ((if x then b ∷ [] else []) ++ kept_from (b + 1) (take k ms)) ++ (if m then (b + suc k) ∷ [] else [])
    by true e = ap (λ l. b ∷ l) e
    by false e = e

pub kept_next : (ms : List Bool) (k : ℕ) (m : Bool) → slice_get ms k ≡ Some m → kept_by (take (k + 1) ms) ≡ kept_by (take k ms) ++ (if m then k ∷ [] else [])
kept_next ms k m h =
    let e : 0 + k ≡ k = omega arith in
    kept_more 0 ms k m h ∙ ap (λ n. kept_by (take k ms) ++ (if m then n ∷ [] else [])) e

-- ---- places, one more at a time

pub place_next : (ms : List Bool) (k : ℕ) (m : Bool) → slice_get ms k ≡ Some m → place_of ms (k + 1) ≡ place_of ms k + (if m then 1 else 0)
place_next ms k m h = ap length (kept_next ms k m h) ∙ (length-append (kept_by (take k ms)) (if m then k ∷ [] else []) ∙ by m)
  where
    by : (m : Bool) → place_of ms k + length (if m then k ∷ [] else []) ≡ place_of ms k + (if m then 1 else 0)
    by true = refl
    by false = refl

pub at_most_one : (m : Bool) → (if m then 1 else 0) ≤ 1
at_most_one true = omega arith
at_most_one false = omega arith

-- what stands in a list with one more element
more : {X : Type 0} (P : ℕ → X → Type 0) (xs : List X) (y : X) → ((i : ℕ) (x : X) → slice_get xs i ≡ Some x → P i x) → P (length xs) y
    → (i : ℕ) (x : X) → slice_get (xs ++ y ∷ []) i ≡ Some x → P i x
more P [] y each last zero x h = subst (P 0) (some_same h) last
more P [] y each last (suc i) x h = absurd (none_some h)
more P (z ∷ xs) y each last zero x h = each 0 x h
more P (z ∷ xs) y each last (suc i) x h = more (λ j. P (suc j)) xs y (λ j w k. each (suc j) w k) last i x h

pub places_next : (ms : List Bool) (k count : ℕ) (old new : List ℕ) → length old ≡ k → count ≡ place_of ms k
    → ((i x : ℕ) → slice_get old i ≡ Some x → x ≡ place_of ms i) → new ≡ old ++ count ∷ [] → (i x : ℕ) → slice_get new i ≡ Some x → x ≡ place_of ms i
places_next ms k count old new size here each pushed i x h =
    more (λ j y. y ≡ place_of ms j) old count each (here ∙ ap (place_of ms) (sym size)) i x (ap (λ l. slice_get l i) (sym pushed) ∙ h)

-- ---- the used entries

pub used_kept : (d : ReportData) (ms kept : List Bool) → kept ≡ ms → ((k : ℕ) → IsMarked ms k ↔ IsUsed d k) → (k : ℕ) → IsMarked kept k ↔ IsUsed d k
used_kept d ms kept same is k = subst (λ l. IsMarked l k ↔ IsUsed d k) (sym same) (is k)

pub closed_kept : (d : ReportData) (kept : List Bool) → ((k : ℕ) → IsMarked kept k ↔ IsUsed d k) → (j k : ℕ) (e : EntryData) → IsMarked kept j
    → slice_get d.entries j ≡ Some e → Name (steps_in e.recipe) k → IsMarked kept k
closed_kept d kept is j k e m at n = (is k).1 (IsNeeded.named j k e ((is j).0 m) at n)

pub shown_kept : (d : ReportData) (kept : List Bool) → ((k : ℕ) → IsMarked kept k ↔ IsUsed d k) → (k : ℕ) → NamedInProof d.replies k → IsMarked kept k
shown_kept d kept is k n = (is k).1 (IsNeeded.start k n)

pub kept_used : (d : ReportData) (kept : List Bool) → ((k : ℕ) → IsMarked kept k ↔ IsUsed d k) → (k : ℕ) → IsKept (kept_by kept) k ↔ IsUsed d k
kept_used d kept is k =
    let m = kept_are_marked kept k in
    (λ h. (is k).0 (m.0 h), λ u. m.1 ((is k).1 u))
