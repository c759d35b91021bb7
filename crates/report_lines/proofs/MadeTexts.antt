-- The texts of how entries were made.
use Rattle.std.proofs.Common.{◌≡◌, inr, ℕ, true, false, List, [], ◌∷◌, ◌++◌, length, drop, Ok, Err, codes, refl, sym, ap, subst, ◌∙◌, arith}
use Rattle.presentation.proofs.WritingBack.{AreNames}
use Rattle.spelling.proofs.Lacking.{lacks_append}
use Rattle.word_text.specs.Scan.{is_name_byte, is_letter, is_digit}
use Rattle.module_vec.specs.declared.steps.Step.{Step}
use Rattle.vector_text.specs.declared.fault.SpellFault.{SpellFault}
use Rattle.vector_text.specs.declared.fault.SpellFault.TheVariants.{Spelling, NoMemory}
use Rattle.vector_text.specs.Reading.{Reads}
use Rattle.vector_text.proofs.Parts.{listed_lacks, all_weaker}
use Rattle.step_text.specs.Spelling.{step_text, steps_text}
use Rattle.step_text.specs.Over.{AreStepsOf}
use Rattle.step_text.proofs.StepTexts.{IsOutside, step_lacks}
use Rattle.step_text.proofs.StepLists.{steps_same}
use Rattle.report_lines.specs.declared.lines.Made.{Made}
use Rattle.report_lines.specs.declared.lines.Made.TheVariants.{Gen, Sum}
use Rattle.report_lines.specs.Parts.{HasNoColon}
use Rattle.report_lines.specs.Texts.{made_text}
use Rattle.report_lines.specs.Lines.{IsMadeOf}
use Rattle.report_lines.proofs.Pairs.{clash, literal}

-- ---- which way a text begins like

is_plus : (names : List (List ℕ)) (m : Made) → codes "gen +" ≡ made_text names m → m ≡ Gen false
is_plus names (Gen true) e = absurd (clash 5 _ _ e refl)
is_plus names (Gen false) e = refl
is_plus names (Sum steps) e = absurd (clash 1 _ _ e refl)

is_minus : (names : List (List ℕ)) (m : Made) → codes "gen -" ≡ made_text names m → m ≡ Gen true
is_minus names (Gen true) e = refl
is_minus names (Gen false) e = absurd (clash 5 _ _ e refl)
is_minus names (Sum steps) e = absurd (clash 1 _ _ e refl)

is_sum : (names : List (List ℕ)) (rest : List ℕ) (m : Made) → codes "sum " ++ rest ≡ made_text names m
    → (x : List Step) × (m ≡ Sum x) × (rest ≡ steps_text names x)
is_sum names rest (Gen true) e = absurd (clash 1 _ _ e refl)
is_sum names rest (Gen false) e = absurd (clash 1 _ _ e refl)
is_sum names rest (Sum steps) e = (steps, refl, ap (drop 4) e)

-- ---- the exits of the reader

pub no_made : (names : List (List ℕ)) (text : List ℕ) → (text ≡ codes "gen +" → ⊥) → (text ≡ codes "gen -" → ⊥) → ((r : List ℕ) → text ≡ codes "sum " ++ r → ⊥)
    → (m : Made) → text ≡ made_text names m → ⊥
no_made names text plus minus sum (Gen true) e = minus e
no_made names text plus minus sum (Gen false) e = plus e
no_made names text plus minus sum (Sum steps) e = sum (steps_text names steps) e

pub sum_fails : (names : List (List ℕ)) (text rest : List ℕ) → text ≡ codes "sum " ++ rest → (f : SpellFault)
    → Reads (steps_text names) (AreStepsOf (length names)) rest (Err f)
    → Reads (made_text names) (IsMadeOf (length names)) text (Err f)
sum_fails names text rest is Spelling bad = λ m h e.
    let i = is_sum names rest m (sym is ∙ e) in
    let P : Made → Type 0 = IsMadeOf (length names) in
    bad i.0 (subst P i.1 h) i.2
sum_fails names text rest is NoMemory bad = tt

pub sum_read : (names : List (List ℕ)) (text rest : List ℕ) (steps : List Step) → text ≡ codes "sum " ++ rest
    → Reads (steps_text names) (AreStepsOf (length names)) rest (Ok steps)
    → Reads (made_text names) (IsMadeOf (length names)) text (Ok (Sum steps))
sum_read names text rest steps is a = (a.0, is ∙ ap (λ (t : List ℕ). codes "sum " ++ t) a.1)

-- ---- a text is that of one way, and no colon stands in it

pub made_same : (names : List (List ℕ)) → AreNames names → (m o : Made) → IsMadeOf (length names) m → IsMadeOf (length names) o
    → made_text names m ≡ made_text names o → m ≡ o
made_same names known (Gen true) o h k e = sym (is_minus names o e)
made_same names known (Gen false) o h k e = sym (is_plus names o e)
made_same names known (Sum steps) o h k e =
    let i = is_sum names (steps_text names steps) o e in
    let P : Made → Type 0 = IsMadeOf (length names) in
    ap (λ (x : List Step). Sum x) (steps_same names known steps i.0 h (subst P i.1 k) i.2) ∙ sym i.1

colon : IsOutside 58
unfolding is_name_byte is_letter is_digit
colon = record {
  other = record { name = refl; digit = inr (omega arith); tick = λ e. omega (arith, e); hat = λ e. omega (arith, e) };
  point = λ e. omega (arith, e);
  plus = λ e. omega (arith, e);
  minus = λ e. omega (arith, e);
  star = refl;
  at = refl;
}

steps_lack : (names : List (List ℕ)) → AreNames names → (steps : List Step) → AreStepsOf (length names) steps → HasNoColon (steps_text names steps)
steps_lack names known [] h = (refl, tt)
steps_lack names known (s ∷ ss) h =
    listed_lacks 58 32 (step_text names) (s ∷ ss) (λ e. omega (arith, e)) (all_weaker (s ∷ ss) (λ x q. step_lacks 58 names colon known x q) h)

pub made_lacks : (names : List (List ℕ)) → AreNames names → (m : Made) → IsMadeOf (length names) m → HasNoColon (made_text names m)
made_lacks names known (Gen true) h = literal 58 (codes "gen -") refl
made_lacks names known (Gen false) h = literal 58 (codes "gen +") refl
made_lacks names known (Sum steps) h = lacks_append 58 (codes "sum ") (steps_text names steps) (literal 58 (codes "sum ") refl) (steps_lack names known steps h)
