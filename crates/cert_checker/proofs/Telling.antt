-- A text line by line.
use Rattle.std.proofs.Common.{◌≡◌, ℕ, List, inl, inr, sym, subst}
use Rattle.std.specs.Prelude.{Some, Result, Err}
use Rattle.presentation.specs.Presented.{Presented}
use Rattle.module_vec.specs.declared.places.Term.{Term}
use Rattle.report_lines.specs.declared.lines.Line.{Line}
use Rattle.report_lines.specs.declared.lines.Line.TheVariants as lines
use Rattle.report_lines.specs.declared.trimmed.TrimmedLine.{TrimmedLine}
use Rattle.report_lines.specs.declared.trimmed.TrimmedLine.TheVariants.{Entry, Other}
use Rattle.report_lines.specs.Lines.{IsLineOf}
use Rattle.cert_checker.specs.declared.version.Version.{Version}
use Rattle.cert_checker.specs.declared.phase.Phase.TheVariants as phases
use Rattle.cert_checker.specs.declared.phase.Phase.{Phase}
use Rattle.cert_checker.specs.declared.phase.Phase.TheVariants.{Title, Presentation, Entries, Sealed, Closing, Finished}
use Rattle.cert_checker.specs.States.{State, start, MayFollow, LineFollows, next, with_line, AreWords}
use Rattle.spelling.specs.Spelling.{cut}
use Rattle.fox_calculus.specs.Generators.{AreGenerators}
use Rattle.cert_checker.specs.declared.checked.Checked.{Checked}
use Rattle.cert_checker.specs.declared.faults.LineFault.{LineFault}
use Rattle.cert_checker.specs.declared.faults.LineFault.TheVariants as faults
use Rattle.cert_checker.specs.declared.faults.CertFault.{CertFault}
use Rattle.cert_checker.specs.declared.faults.CertFault.TheVariants as texts
use Rattle.cert_checker.specs.Faults.{OfLine}
use Rattle.cert_checker.specs.Checking.{Outcome}
use Rattle.cert_checker.specs.Texts.{IsLineIn, TitleHolds, BodyHolds, HoldsIn, BytesHold, BytesFail, Tells, Answers}
use Rattle.cert_checker.proofs.ShortWords.{asked_words}
use Rattle.cert_checker.proofs.Versions.{other_valid}

-- the subjects stay words over the presentation
next_words : (p : Presented) (gens : List (List Term)) (s : State) (l : Line) → IsLineOf p l → MayFollow gens s l → AreWords p s.subjects
    → AreWords p (next s l).subjects
next_words p gens s (lines.Entry number made vector) valid follows h = h
next_words p gens s lines.Seal valid follows h = h
next_words p gens s (lines.Live session number front question verdict) valid follows h = asked_words p question verdict valid.1.1.1.question follows.3
next_words p gens s (lines.Proof subject steps) valid follows h = h
next_words p gens s (lines.End end) valid follows h = h
next_words p gens s (lines.Close session number question verdict) valid follows h = asked_words p question verdict valid.1.1.question follows.2
next_words p gens s lines.Done valid follows h = h

line_words : (v : Version) (p : Presented) (gens : List (List Term)) (s : State) (l : TrimmedLine) → IsLineIn v p l → LineFollows gens s l
    → AreWords p s.subjects → AreWords p (with_line s l).subjects
line_words v p gens s (Entry number from made vector) valid follows h = h
line_words v p gens s (Other l) valid follows h = next_words p gens s l (other_valid v p l valid) follows h

title_words : (p : Presented) (s taken : State) (bytes : List ℕ) → TitleHolds s bytes taken → AreWords p s.subjects → AreWords p taken.subjects
title_words p s taken bytes (inl b) h = subst (λ (t : State). AreWords p t.subjects) (sym b.1) h
title_words p s taken bytes (inr b) h = subst (λ (t : State). AreWords p t.subjects) (sym b.1) h

body_words : (p : Presented) (gens : List (List Term)) (s taken : State) (bytes : List ℕ) → BodyHolds p gens s bytes taken → AreWords p s.subjects
    → AreWords p taken.subjects
body_words p gens s taken bytes b h =
    subst (λ (t : State). AreWords p t.subjects) (sym b.holds.is) (line_words s.version p gens s b.line b.valid b.holds.follows h)

in_words : (f : Phase) (p : Presented) (gens : List (List Term)) (s taken : State) (bytes : List ℕ) → HoldsIn f p gens s bytes taken → AreWords p s.subjects
    → AreWords p taken.subjects
in_words Title p gens s taken bytes b h = title_words p s taken bytes b h
in_words Presentation p gens s taken bytes b h = subst (λ (t : State). AreWords p t.subjects) (sym b.1) h
in_words phases.Items p gens s taken bytes b h = subst (λ (t : State). AreWords p t.subjects) (sym b.is) h
in_words Entries p gens s taken bytes b h = body_words p gens s taken bytes b h
in_words Sealed p gens s taken bytes b h = body_words p gens s taken bytes b h
in_words Closing p gens s taken bytes b h = body_words p gens s taken bytes b h
in_words Finished p gens s taken bytes b h = body_words p gens s taken bytes b h

pub taken_words : (p : Presented) (gens : List (List Term)) (s taken : State) (bytes : List ℕ) → BytesHold p gens s bytes taken → AreWords p s.subjects
    → AreWords p taken.subjects
taken_words p gens s taken bytes b h = in_words s.phase p gens s taken bytes b h

-- the fault of a line is that of the text
pub text_fails : (p : Presented) (text : List ℕ) (gens same : List (List Term)) (n : ℕ) (s : State) (rest line others : List ℕ) (e : LineFault) (r : CertFault)
    → AreGenerators p gens → same ≡ gens
    → ((r : Result Checked CertFault) → Tells p gens n s rest r → Tells p gens 1 start text r) → cut 10 rest ≡ Some (line, others)
    → Outcome (BytesHold p same s line) (BytesFail p same s line) (Err e) → OfLine n e r → Answers p text (Err r)
text_fails p text gens same n s rest line others (faults.Fails k) r are is told cuts h of =
    subst (λ (x : CertFault). Answers p text (Err x)) (sym of)
    (record {
      generators = gens;
      are = are;
      tells =
          told (Err (texts.Line n k)) (Tells.fails n s rest line others k cuts (subst (λ g. BytesFail p g s line k) is h));
    })
text_fails p text gens same n s rest line others faults.NoMemory r are is told cuts h of = subst (λ (x : CertFault). Answers p text (Err x)) (sym of) tt
