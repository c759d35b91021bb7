-- The lines of reports of either version.
use Rattle.std.proofs.Common.{◌≡◌, ℕ, List, refl}
use Rattle.presentation.specs.Presented.{Presented}
use Rattle.module_vec.specs.declared.places.Term.{Term}
use Rattle.report_lines.specs.declared.lines.Made.{Made}
use Rattle.report_lines.specs.declared.lines.Line.{Line}
use Rattle.report_lines.specs.declared.lines.Line.TheVariants as lines
use Rattle.report_lines.specs.declared.trimmed.TrimmedLine.{TrimmedLine}
use Rattle.report_lines.specs.declared.trimmed.TrimmedLine.TheVariants.{Entry, Other}
use Rattle.report_lines.specs.Lines.{IsLineOf}
use Rattle.report_lines.specs.Trimmed.{IsTrimmedLineOf}
use Rattle.cert_checker.specs.declared.version.Version.{Version}
use Rattle.cert_checker.specs.declared.version.Version.TheVariants.{Whole, Trimmed}
use Rattle.cert_checker.specs.States.{State, next, with_line}
use Rattle.cert_checker.specs.Texts.{IsLineIn}

-- what a line is, whatever the version
pub other_valid : (v : Version) (p : Presented) (l : Line) → IsLineIn v p (Other l) → IsLineOf p l
other_valid Whole p l h = h
other_valid (Trimmed items) p l h = h.1

pub kept_valid : (v : Version) (p : Presented) (number from : ℕ) (made : Made) (vector : List Term) → IsLineIn v p (Entry number from made vector)
    → IsTrimmedLineOf p (Entry number from made vector)
kept_valid Whole p number from made vector h = absurd h
kept_valid (Trimmed items) p number from made vector h = h

-- a line behind the head doesn't change the version
next_version : (s : State) (l : Line) → (next s l).version ≡ s.version
next_version s (lines.Entry number made vector) = refl
next_version s lines.Seal = refl
next_version s (lines.Live session number front question verdict) = refl
next_version s (lines.Proof subject steps) = refl
next_version s (lines.End end) = refl
next_version s (lines.Close session number question verdict) = refl
next_version s lines.Done = refl

pub same_version : (s : State) (l : TrimmedLine) → (with_line s l).version ≡ s.version
same_version s (Entry number from made vector) = refl
same_version s (Other l) = next_version s l
