-- The lines of a text, and the text of lines.
use Rattle.std.proofs.Common.{◌≡◌, ◌==◌, ℕ, Bool, true, false, List, [], ◌∷◌, ◌++◌, refl, sym, ◌∙◌, ap, arith}
use Rattle.std.specs.List.{AllByRecursion}
use Rattle.std.proofs.lemmas.Bool.Decides.{nat_tests}
use Rattle.presentation.specs.Writing.{led_by, joined}
use Rattle.derivation.specs.Reading.{onto_first, lines_of}
use Rattle.derivation.specs.Grammar.{IsLine}
use Rattle.derivation.proofs.Lines.{lines-first}

is_end : (b : ℕ) → (b == 10) ≡ true → b ≡ 10
is_end b e = grind (arith, nat_tests)

-- lines that follow an end of line
led : (ls : List (List ℕ)) (x : List ℕ) (xs : List (List ℕ)) → ls ≡ x ∷ xs → led_by (10 ∷ []) ls ≡ 10 ∷ joined (10 ∷ []) ls
led ls x xs e = rw e refl

-- a byte in front of the first line
onto_joined : (b : ℕ) (ls : List (List ℕ)) → joined (10 ∷ []) (onto_first b ls) ≡ b ∷ joined (10 ∷ []) ls
onto_joined b [] = refl
onto_joined b (l ∷ ls) = refl

-- a text is its lines with LF between each two
pub lines_joined : (bs : List ℕ) → bs ≡ joined (10 ∷ []) (lines_of bs)
lines_joined [] = refl
lines_joined (b ∷ bs) = by (b == 10) refl (lines_joined bs)
  where
    by : (t : Bool) → (b == 10) ≡ t → bs ≡ joined (10 ∷ []) (lines_of bs) → b ∷ bs ≡ joined (10 ∷ []) (lines_of (b ∷ bs))
    by true e so = rw e (ap (λ (n : ℕ). n ∷ bs) (is_end b e) ∙ ap (λ (l : List ℕ). 10 ∷ l) so ∙ sym (led (lines_of bs) _ _ (lines-first bs)))
    by false e so = rw e (ap (λ (l : List ℕ). b ∷ l) so ∙ sym (onto_joined b (lines_of bs)))

onto_line : (b : ℕ) (ls : List (List ℕ)) → (b == 10) ≡ false → AllByRecursion IsLine ls → AllByRecursion IsLine (onto_first b ls)
onto_line b [] e h = ((e, tt), tt)
onto_line b (l ∷ ls) e h = ((e, h.0), h.1)

-- no line of a text has an LF
pub are_lines : (bs : List ℕ) → AllByRecursion IsLine (lines_of bs)
are_lines [] = (tt, tt)
are_lines (b ∷ bs) = by (b == 10) refl (are_lines bs)
  where
    by : (t : Bool) → (b == 10) ≡ t → AllByRecursion IsLine (lines_of bs) → AllByRecursion IsLine (lines_of (b ∷ bs))
    by true e so = rw e (tt, so)
    by false e so = rw e (onto_line b (lines_of bs) e so)

-- a line in front of others
line_again : (l : List ℕ) (ls : List (List ℕ)) → IsLine l → lines_of (led_by (10 ∷ []) ls) ≡ [] ∷ ls → lines_of (l ++ led_by (10 ∷ []) ls) ≡ l ∷ ls
line_again [] ls is so = so
line_again (b ∷ l) ls is so = rw (is.0, line_again l ls is.1 so) refl

led_again : (ls : List (List ℕ)) → AllByRecursion IsLine ls → lines_of (led_by (10 ∷ []) ls) ≡ [] ∷ ls
led_again [] are = refl
led_again (l ∷ ls) are = ap (λ (x : List (List ℕ)). [] ∷ x) (line_again l ls are.0 (led_again ls are.1))

-- one line or more are the lines of their text
pub lines_again : (l : List ℕ) (ls : List (List ℕ)) → AllByRecursion IsLine (l ∷ ls) → lines_of (joined (10 ∷ []) (l ∷ ls)) ≡ l ∷ ls
lines_again l ls are = line_again l ls are.0 (led_again ls are.1)
