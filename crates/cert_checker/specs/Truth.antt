-- What a report says that holds.
use Rattle.std.specs.List.{AllByRecursion}
use Rattle.std.specs.Prelude.{◌≡◌, ℕ, List, ◌∷◌, ◌++◌}
use Rattle.spelling.specs.Spelling.{IsSmall}
use Rattle.presentation.specs.Presented.{Presented}
use Rattle.derivation.specs.Moves.{Trivial, Equal}
use Rattle.module_vec.specs.Vectors.{sum_of}
use Rattle.fox_calculus.specs.Module.{IsMember}
use Rattle.magnus_laws.specs.Maps.{Extends}
use Rattle.outcomes.specs.declared.verdicts.Verdict.{Verdict}
use Rattle.outcomes.specs.declared.verdicts.Verdict.TheVariants as verdicts
use Rattle.session_text.specs.declared.question.Question.{Question}
use Rattle.session_text.specs.declared.question.Question.TheVariants as questions
use Rattle.report_lines.specs.declared.lines.Line.{Line}
use Rattle.report_lines.specs.declared.lines.Line.TheVariants as lines
use Rattle.report_lines.specs.declared.trimmed.TrimmedLine.{TrimmedLine}
use Rattle.report_lines.specs.declared.trimmed.TrimmedLine.TheVariants.{Entry, Other}
use Rattle.report_lines.specs.Texts.{title, pres_line}
use Rattle.report_lines.specs.Trimmed.{trimmed_lines_text, trimmed_text}
use Rattle.cert_checker.specs.declared.version.Version.{Version}
use Rattle.cert_checker.specs.declared.version.Version.TheVariants.{Whole, Trimmed}
use Rattle.cert_checker.specs.Texts.{IsLineIn}

-- the answer to the question is yes: the word is trivial, the words are equal, the map extends
abbrev pub IsYes : Presented → Question → Type 0
IsYes p (questions.Trivial w) = Trivial p w
IsYes p (questions.Equal u v) = Equal p u v
IsYes p (questions.Normal w) = Trivial p w
IsYes p (questions.Hom source images) = Extends source images p

-- a yes is true; of other verdicts nothing is said
abbrev pub IsTrueVerdict : Presented → Question → Verdict → Type 0
IsTrueVerdict p q verdicts.Trivial = IsYes p q
IsTrueVerdict p q verdicts.NotTrivial = Unit {0}
IsTrueVerdict p q (verdicts.Normal v) = Unit {0}
IsTrueVerdict p q verdicts.Extends = IsYes p q
IsTrueVerdict p q (verdicts.Fails subject) = Unit {0}
IsTrueVerdict p q (verdicts.Unknown subject) = Unit {0}
IsTrueVerdict p q (verdicts.Stop subject stop) = Unit {0}

-- entries lie in the module, and each yes is true
abbrev pub IsTrueLine : Presented → Line → Type 0
IsTrueLine p (lines.Entry number made vector) = IsMember p (sum_of vector)
IsTrueLine p lines.Seal = Unit {0}
IsTrueLine p (lines.Live session number front question verdict) = IsTrueVerdict p question verdict
IsTrueLine p (lines.Proof subject steps) = Unit {0}
IsTrueLine p (lines.End end) = Unit {0}
IsTrueLine p (lines.Close session number question verdict) = IsTrueVerdict p question verdict
IsTrueLine p lines.Done = Unit {0}

abbrev pub IsTrue : Presented → TrimmedLine → Type 0
IsTrue p (Entry number from made vector) = IsMember p (sum_of vector)
IsTrue p (Other l) = IsTrueLine p l

-- the lines at the head, and these lines, each with its end
abbrev pub report_text : Version → Presented → List TrimmedLine → List ℕ
report_text Whole p ls = title ++ 10 ∷ (pres_line p ++ 10 ∷ trimmed_lines_text p ls)
report_text (Trimmed items) p ls = trimmed_text p items ls

-- the number of items can be told in the head
abbrev pub IsVersion : Version → Type 0
IsVersion Whole = Unit {0}
IsVersion (Trimmed items) = IsSmall items

-- the text is a report over the presentation, whole or trimmed, and each of its lines is true
pub record IsTrueReport (p : Presented) (text : List ℕ) : Type 0 where
  pub version : Version
  pub head : IsVersion version
  pub lines : List TrimmedLine
  pub valid : AllByRecursion (IsLineIn version p) lines
  pub spelled : text ≡ report_text version p lines
  pub true_lines : AllByRecursion (IsTrue p) lines
