-- Lines that are taken one after another.
use Rattle.std.proofs.Common.{◌≡◌, ℕ, ◌+◌, List, [], ◌∷◌, ◌++◌, map, refl, sym, ap, subst, ◌∙◌, arith}
use Rattle.std.proofs.lemmas.List.{map-append}
use Rattle.std.specs.List.{AllByRecursion}
use Rattle.word_text.specs.Place.{capped}
use Rattle.presentation.specs.Presented.{Presented}
use Rattle.module_vec.specs.declared.places.Term.{Term}
use Rattle.report_lines.specs.declared.lines.Line.{Line}
use Rattle.report_lines.specs.declared.lines.Line.TheVariants as lines
use Rattle.report_lines.specs.declared.trimmed.TrimmedLine.{TrimmedLine}
use Rattle.report_lines.specs.declared.trimmed.TrimmedLine.TheVariants.{Other}
use Rattle.report_lines.specs.Lines.{IsLineOf}
use Rattle.cert_checker.specs.declared.version.Version.{Version}
use Rattle.cert_checker.specs.declared.version.Version.TheVariants.{Whole}
use Rattle.cert_checker.specs.States.{State, MayFollow, LineFollows, next, with_line}
use Rattle.cert_checker.specs.Checking.{Agrees, LineAgrees}
use Rattle.cert_checker.specs.Texts.{IsLineIn}
use Rattle.cert_checker.proofs.Versions.{other_valid}
use Rattle.report_acceptance.specs.Accepting.{proof_count}

-- what was taken with the lines
abbrev pub after : State → List TrimmedLine → State
after s [] = s
after s (l ∷ ls) = after (with_line s l) ls

-- each line may follow, and holds
abbrev pub AllHold : Presented → List (List Term) → State → List TrimmedLine → Type 0
AllHold p gens s [] = Unit {0}
AllHold p gens s (l ∷ ls) = IsLineIn s.version p l × (LineFollows gens s l × (LineAgrees gens s l × AllHold p gens (with_line s l) ls))

-- the lines of a whole report
abbrev pub whole : List Line → List TrimmedLine
whole ls = map (λ (l : Line). Other l) ls

-- from each state with P the lines are taken, and Q holds then
pub record Leads (p : Presented) (gens : List (List Term)) (P : State → Type 0) (ls : List Line) (Q : State → Type 0) : Type 0 where
  pub hold : (s : State) → P s → AllHold p gens s (whole ls)
  pub then_is : (s : State) → P s → Q (after s (whole ls))

after_append : (s : State) (ls ms : List TrimmedLine) → after s (ls ++ ms) ≡ after (after s ls) ms
after_append s [] ms = refl
after_append s (l ∷ ls) ms = after_append (with_line s l) ls ms

whole_append : (ls ms : List Line) → whole (ls ++ ms) ≡ whole ls ++ whole ms
whole_append ls ms = map-append (λ (l : Line). Other l) ls ms

module _ (p : Presented) (gens : List (List Term)) where
  pub all_valid : (s : State) (ls : List Line) → AllHold p gens s (whole ls) → AllByRecursion (IsLineOf p) ls
  all_valid s [] h = tt
  all_valid s (l ∷ ls) h = (other_valid s.version p l h.0, all_valid (next s l) ls h.1.1.1)

  hold_append : (s : State) (ls ms : List TrimmedLine) → AllHold p gens s ls → AllHold p gens (after s ls) ms → AllHold p gens s (ls ++ ms)
  hold_append s [] ms h k = k
  hold_append s (l ∷ ls) ms h k = (h.0, (h.1.0, (h.1.1.0, hold_append (with_line s l) ls ms h.1.1.1 k)))

  pub nothing : (P : State → Type 0) → Leads p gens P [] P
  nothing P = record { hold = λ s h. tt; then_is = λ s h. h }

  -- one line of a whole report
  pub one : (P Q : State → Type 0) (l : Line) → IsLineOf p l → ((s : State) → P s → s.version ≡ Whole)
      → ((s : State) → P s → MayFollow gens s l × (Agrees gens s l × Q (next s l)))
      → Leads p gens P (l ∷ []) Q
  one P Q l valid is f = record {
    hold = λ s h. let k = f s h in (subst (λ (v : Version). IsLineIn v p (Other l)) (sym (is s h)) valid, (k.0, (k.1.0, tt)));
    then_is = λ s h. let k = f s h in k.1.1;
  }

  pub both : (P Q R : State → Type 0) (ls ms : List Line) → Leads p gens P ls Q → Leads p gens Q ms R → Leads p gens P (ls ++ ms) R
  both P Q R ls ms a b = record {
    hold = λ s h. subst (AllHold p gens s) (sym (whole_append ls ms))
        (hold_append s (whole ls) (whole ms) (a.hold s h) (b.hold (after s (whole ls)) (a.then_is s h)));
    then_is = λ s h. subst (λ (all : List TrimmedLine). R (after s all)) (sym (whole_append ls ms))
        (subst R (sym (after_append s (whole ls) (whole ms))) (b.then_is (after s (whole ls)) (a.then_is s h)));
  }

-- ---- how many proofs were taken

pub cap_more : (n k : ℕ) → capped (capped n + k) ≡ capped (n + k)
cap_more n k = omega arith

count_line : (s : State) (l : Line) (ls : List Line) (n : ℕ) → s.proofs ≡ capped n → (k : ℕ) × ((next s l).proofs ≡ capped k)
    × (k + proof_count ls ≡ n + proof_count (l ∷ ls))
count_line s (lines.Entry number made vector) ls n e = (n, e, refl)
count_line s lines.Seal ls n e = (n, e, refl)
count_line s (lines.Live session number front question verdict) ls n e = (n, e, refl)
count_line s (lines.Proof subject steps) ls n e = (n + 1, ap (λ m. capped (m + 1)) e ∙ cap_more n 1, omega arith)
count_line s (lines.End end) ls n e = (n, e, refl)
count_line s (lines.Close session number question verdict) ls n e = (n, e, refl)
count_line s lines.Done ls n e = (n, e, refl)

pub proofs_after : (s : State) (ls : List Line) (n : ℕ) → s.proofs ≡ capped n → (after s (whole ls)).proofs ≡ capped (n + proof_count ls)
proofs_after s [] n e = e ∙ ap capped (omega arith)
proofs_after s (l ∷ ls) n e =
    let c = count_line s l ls n e in
    proofs_after (next s l) ls c.0 c.1 ∙ ap capped c.2
