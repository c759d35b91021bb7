-- Exponent sums of a word that grows by a letter.
use Rattle.std.proofs.Common.{◌≡◌, ◌≢◌, ℕ, zero, suc, ◌+◌, ◌<◌, ◌≤◌, ◌==◌, Bool, true, false, ℤ, pos, negsuc, ◌+ℤ◌, unsigned_abs, List, [], ◌∷◌, ◌++◌, length}
use Rattle.std.proofs.Common.{take, get_or, sum_by, refl, sym, ap, subst, ◌∙◌, arith, if◌then◌else◌}
use borrow.Author.Differences.{ints}
use Rattle.std.proofs.lemmas.Bool.Decides.{nat_tests}
use Rattle.std.proofs.lemmas.List.{take_all, get_or_default, same_lists, get_or-set_same, get_or-set_other, length-set, take_more}
use Rattle.std.proofs.lemmas.List.Sums.{sum_by-set}
use Rattle.std.proofs.lemmas.List.FromFn.{length-map-range_with_len, get_or-map-range_with_len}
use Rattle.free_words.specs.declared.letter.Letter.{Letter}
use Rattle.free_words.specs.Words.{IsOver, exponent_sum}
use Rattle.free_words.proofs.OverLemmas.{IsOver-get_or}
use Rattle.free_words.proofs.SumLemmas.{exponent_at, exponent_sum-append, exponent_sum-cons}
use Rattle.fox_calculus.specs.Fox.{exponent_sums}
use Rattle.fox_calculus.specs.Running.{added}

pub sums_length : (u : List Letter) → length (exponent_sums u) ≡ 24
sums_length u = length-map-range_with_len (λ g. exponent_sum g u) 0 24

pub sums_at : (u : List Letter) (g : ℕ) (d : ℤ) → g < 24 → get_or (exponent_sums u) g d ≡ exponent_sum g u
sums_at u g d lt = get_or-map-range_with_len (λ g. exponent_sum g u) 0 24 g g d lt (omega arith)

no_letters : (g : ℕ) → exponent_sum g [] ≡ pos 0
unfolding exponent_sum
no_letters g = refl

letter_alone : (g : ℕ) (l : Letter) → exponent_sum g (l ∷ []) ≡ exponent_at g l
letter_alone g l = omega (arith, ints, exponent_sum-cons g l [], no_letters g)

abbrev sign : Letter → ℤ
sign l = if l.inv then negsuc 0 else pos 1

-- one entry of the sums with one more letter
entry_by : (u : List Letter) (l : Letter) (k : ℕ) (d : ℤ) (same : Bool) → (l.g == k) ≡ same → k < 24 → l.g < 24
    → get_or (exponent_sums (u ++ l ∷ [])) k d ≡ get_or (added (exponent_sums u) l) k d
entry_by u l k d true e lt known =
    let is : l.g ≡ k = grind (arith, nat_tests) in
    let old : get_or (exponent_sums u) l.g (pos 0) ≡ exponent_sum l.g u = sums_at u l.g (pos 0) known in
    let new : get_or (added (exponent_sums u) l) l.g d ≡ get_or (exponent_sums u) l.g (pos 0) +ℤ sign l =
    get_or-set_same (exponent_sums u) l.g (get_or (exponent_sums u) l.g (pos 0) +ℤ sign l) d (rw (sums_length u) known) in
    let more : exponent_at k l ≡ sign l = rw e refl in
    let whole : get_or (exponent_sums (u ++ l ∷ [])) k d ≡ exponent_sum k u +ℤ sign l =
    sums_at (u ++ l ∷ []) k d lt ∙ (exponent_sum-append k u (l ∷ []) ∙ ap (λ z. exponent_sum k u +ℤ z) (letter_alone k l ∙ more)) in
    whole ∙ sym (rw (← is) (new ∙ ap (λ z. z +ℤ sign l) old))
entry_by u l k d false e lt known =
    let away : k ≢ l.g = grind (arith, nat_tests) in
    let new : get_or (added (exponent_sums u) l) k d ≡ get_or (exponent_sums u) k d =
    get_or-set_other (exponent_sums u) l.g k (get_or (exponent_sums u) l.g (pos 0) +ℤ sign l) d away in
    let more : exponent_at k l ≡ pos 0 = rw e refl in
    let whole : get_or (exponent_sums (u ++ l ∷ [])) k d ≡ exponent_sum k u =
    sums_at (u ++ l ∷ []) k d lt ∙ (exponent_sum-append k u (l ∷ []) ∙ omega (arith, ints, letter_alone k l, more)) in
    whole ∙ sym (new ∙ sums_at u k d lt)

pub sums_more : (u : List Letter) (l : Letter) → l.g < 24 → exponent_sums (u ++ l ∷ []) ≡ added (exponent_sums u) l
sums_more u l known =
    same_lists (exponent_sums (u ++ l ∷ [])) (added (exponent_sums u) l)
    (sums_length (u ++ l ∷ []) ∙ sym (length-set (exponent_sums u) l.g (get_or (exponent_sums u) l.g (pos 0) +ℤ sign l) ∙ sums_length u))
    (λ k d lt. entry_by u l k d (l.g == k) refl (rw (sums_length (u ++ l ∷ [])) at lt) known)

sign_small : (z : ℤ) (l : Letter) → unsigned_abs (z +ℤ sign l) ≤ unsigned_abs z + 1
sign_small z l = by l.inv
  where
    by : (b : Bool) → unsigned_abs (z +ℤ (if b then negsuc 0 else pos 1)) ≤ unsigned_abs z + 1
    by true = omega (arith, ints)
    by false = omega (arith, ints)

total_added : (s : List ℤ) (l : Letter) → l.g < length s → sum_by unsigned_abs (added s l) ≤ sum_by unsigned_abs s + 1
total_added s l lt =
    omega (arith, sum_by-set unsigned_abs s l.g (get_or s l.g (pos 0) +ℤ sign l) (pos 0) lt, sign_small (get_or s l.g (pos 0)) l)

total_none : sum_by unsigned_abs (exponent_sums []) ≡ 0
unfolding exponent_sum
total_none = refl

below : {a b c i : ℕ} → b ≤ a + 1 → a ≤ i → c ≡ b → c ≤ suc i
below p q e = omega (arith, p, q, e)

-- so many letters have sums of at most so much in all
pub total_below : (w : List Letter) (i : ℕ) → IsOver 24 w → i ≤ length w → sum_by unsigned_abs (exponent_sums (take i w)) ≤ i
total_below w zero over le = omega (arith, total_none)
total_below w (suc i) over le =
    let d : Letter = record { g = 0; inv = false } in
    let l : Letter = get_or w i d in
    let known : l.g < 24 = IsOver-get_or 24 w i d over (omega (arith, le)) in
    let more : take (i + 1) w ≡ take i w ++ l ∷ [] = take_more w i d (omega (arith, le)) in
    let one : i + 1 ≡ suc i = omega arith in
    let grown : exponent_sums (take (suc i) w) ≡ added (exponent_sums (take i w)) l =
    ap (λ k. exponent_sums (take k w)) (sym one) ∙ (ap exponent_sums more ∙ sums_more (take i w) l known) in
    let known' : l.g < length (exponent_sums (take i w)) = subst (λ (n : ℕ). l.g < n) (sym (sums_length (take i w))) known in
    below (total_added (exponent_sums (take i w)) l known') (total_below w i over (omega (arith, le))) (ap (sum_by unsigned_abs) grown)

within : {a b n : ℕ} → b ≤ n → n ≤ 32768 → a ≡ b → a ≤ 60000
within p q e = omega (arith, p, q, e)

-- a table with these sums is the list of them
pub sums_are : (e : List ℤ) (w : List Letter) → length e ≡ 24 → ((g : ℕ) → g < 24 → get_or e g (pos 0) ≡ exponent_sum g w) → e ≡ exponent_sums w
sums_are e w long each =
    same_lists e (exponent_sums w) (long ∙ sym (sums_length w))
    (λ k d lt. let lt' : k < 24 = omega (arith, lt, long) in get_or_default e k d (pos 0) lt ∙ (each k lt' ∙ sym (sums_at w k d lt')))

pub image_small : (e : List ℤ) (w : List Letter) → e ≡ exponent_sums w → IsOver 24 w → length w ≤ 32768 → sum_by unsigned_abs e ≤ 60000
image_small e w is over short =
    let all = total_below w (length w) over (omega arith) in
    let whole : take (length w) w ≡ w = take_all (length w) w (omega arith) in
    within (subst (λ (l : List Letter). sum_by unsigned_abs (exponent_sums l) ≤ length w) whole all) short (ap (sum_by unsigned_abs) is)
