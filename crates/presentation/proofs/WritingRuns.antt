-- Runs of letters.
use Rattle.std.proofs.Common.{◌≡◌, ℕ, suc, ◌<◌, ◌+◌, ◌==◌, ◌&&◌, not, Bool, true, false, if◌then◌else◌, List, [], ◌∷◌, length, drop, take_while, refl, subst}
use Rattle.std.proofs.Common.{ap, ◌∙◌, arith, add-one}
use Rattle.std.proofs.lemmas.Bool.Decides.{nat_tests}
use Rattle.std.proofs.lemmas.List.Sums.{take_while-cons}
use Rattle.free_words.specs.declared.letter.Letter.{Letter}
use Rattle.free_words.specs.Words.{IsOver}
use Rattle.presentation.specs.declared.runs.Run.{Run}
use Rattle.presentation.specs.Writing.{is_same, once, behind, runs, AreOver}

and_is : (p q : Bool) → (p && q) ≡ true → (p ≡ true) × (q ≡ true)
and_is true true e = (refl, refl)
and_is true false e = cc
and_is false q e = cc

same_sign : (a b : Bool) → (if a then b else not b) ≡ true → a ≡ b
same_sign true true e = refl
same_sign true false e = cc
same_sign false true e = cc
same_sign false false e = refl

same_number : (m n : ℕ) → (m == n) ≡ true → m ≡ n
same_number m n e = grind (arith, nat_tests)

-- letters of which the test says that they are the same
pub same_letter : (l m : Letter) → is_same l m ≡ true → l ≡ m
same_letter l m e =
    let p = and_is (l.g == m.g) (if l.inv then m.inv else not m.inv) e in
    let g : l.g ≡ m.g = same_number l.g m.g p.0 in
    let i : l.inv ≡ m.inv = same_sign l.inv m.inv p.1 in
    ap (λ (n : ℕ). let r : Letter = record { g = n; inv = l.inv } in r) g ∙ ap (λ (b : Bool). let r : Letter = record { g = m.g; inv = b } in r) i

-- how many letters at the head are this one
abbrev repeats : Letter → List Letter → ℕ
repeats l ls = length (take_while (is_same l) ls)

abbrev run_of : Letter → ℕ → Run
run_of l n = record { letter = l; count = n }

abbrev Starts : Letter → List Letter → Type 0
Starts l ls = runs (l ∷ ls) ≡ run_of l (suc (repeats l ls)) ∷ runs (drop (repeats l ls) ls)

again : (l : Letter) (ls : List Letter) → is_same l l ≡ true → Starts l ls → Starts l (l ∷ ls)
again l ls e h = rw (take_while-cons (is_same l) l ls, e, h, e) refl

goes_on : (l m : Letter) (ms : List Letter) (t : Bool) → is_same l m ≡ t → Starts m ms → Starts l (m ∷ ms)
goes_on l m ms true e h = subst (λ (x : Letter). is_same l x ≡ true → Starts x ms → Starts l (x ∷ ms)) (same_letter l m e) (again l ms) e h
goes_on l m ms false e h = rw (take_while-cons (is_same l) m ms, e) (rw h (rw e refl))

-- the first run has as many letters as follow one another at the head
pub runs_first : (l : Letter) (ls : List Letter) → Starts l ls
runs_first l [] = refl
runs_first l (m ∷ ms) = goes_on l m ms (is_same l m) refl (runs_first m ms)

pub run_taken : (all : List Letter) (l : Letter) (ls rest : List Letter) (n : ℕ) → all ≡ l ∷ ls → n ≡ repeats l ls → rest ≡ drop n ls
    → runs all ≡ record { letter = l; count = n + 1 } ∷ runs rest
run_taken all l ls rest n a k r = rw (a, r, k, add-one) (runs_first l ls)

over_behind : (n : ℕ) (l : Letter) (rs : List Run) → l.g < n → AreOver n rs → AreOver n (behind l rs)
over_behind n l [] lt h = (lt, tt)
over_behind n l (r ∷ rs) lt h =
    elim (is_same l r.letter) as (λ t. AreOver n (if t then run_of l (suc r.count) ∷ rs else once l ∷ r ∷ rs)) [ true ↦ (lt, h.1) | false ↦ (lt, h) ]

-- the runs of a word have its letters
pub over_runs : (n : ℕ) (w : List Letter) → IsOver n w → AreOver n (runs w)
over_runs n [] h = tt
over_runs n (l ∷ ls) h = over_behind n l (runs ls) h.0 (over_runs n ls h.1)

pub over_taken : (n : ℕ) (w v : List Letter) (r : Run) → runs w ≡ r ∷ runs v → IsOver n w → (r.letter.g < n) × AreOver n (runs v)
over_taken n w v r e h = rw e at (over_runs n w h)
