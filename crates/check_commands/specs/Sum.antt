-- What the command `sum` answers.
use Rattle.std.specs.Prelude.{◌≡◌, ℕ, ◌≤◌, List, [], ◌∷◌, ◌++◌, length, Option, Some, None, IfSome, Result, Ok, Err, Vec}
use Rattle.std.specs.Prelude.{codes}
use Rattle.std.specs.declared.alloc.Global.{Global}
use Rattle.free_words.specs.declared.letter.Letter.{Letter}
use Rattle.presentation.specs.Presented.{Presented}
use Rattle.presentation.specs.Reading.{presentation_text}
use Rattle.derivation.specs.Moves.{Trivial}
use Rattle.module_vec.specs.declared.places.Place.{Place}
use Rattle.vector_text.specs.Spelling.{place_text}
use Rattle.flat_cert.specs.declared.faults.FlatSumFault.{FlatSumFault}
use Rattle.flat_cert.specs.declared.faults.FlatSumFault.TheVariants.{Beyond, NotZero}
use Rattle.flat_cert.specs.declared.faults.FlatSumFault.TheVariants as sums
use Rattle.flat_cert.specs.declared.faults.FlatTextFault.{FlatTextFault}
use Rattle.flat_cert.specs.declared.faults.FlatTextFault.TheVariants as reading
use Rattle.flat_cert.specs.declared.lines.Flat.{Flat}
use Rattle.flat_cert.specs.Checking.{Answers}
use Rattle.flat_cert.specs.Texts.{ReadsText}
use Rattle.command_floor.specs.declared.answer.Halt.{Halt}
use Rattle.command_floor.specs.declared.answer.Halt.TheVariants.{Says, NoMemory}
use Rattle.command_floor.specs.declared.status.Status.TheVariants.{Fails}
use Rattle.command_floor.specs.declared.TheConstants.{PRESENTATION_BYTES}
use Rattle.command_floor.specs.Answers.{Answer}
use Rattle.command_floor.specs.Parsing.{GivenWords}
use Rattle.command_floor.specs.Files.{in_lines, read_word, ReadLeads, FileLeads, BytesLead}
use Rattle.check_commands.specs.declared.TheConstants.{CERTIFICATE_BYTES}
use Rattle.check_commands.specs.declared.sum.SumWords.{SumWords}
use Rattle.check_commands.specs.Faults.{beyond, line_refused, RefusesLine}
use Rattle.check_commands.specs.Steps.{trivial}

-- what `sum` is asked: a presentation's name, a word and a flat certificate's name
pub record SumAsked : Type 0 where
  pub presentation : List ℕ
  pub word : List ℕ
  pub certificate : List ℕ

abbrev pub three : List (List ℕ) → Option SumAsked
three (p ∷ w ∷ f ∷ []) = Some (record { presentation = p; word = w; certificate = f })
three _ = None

-- what it is asked by what is given behind its name: three words
abbrev pub sum_in : GivenWords → Option SumAsked
sum_in g = three g.words

-- what the code holds of it
abbrev pub sum_asked : SumWords → SumAsked
sum_asked w = record { presentation = w.presentation.now; word = w.word.now; certificate = w.certificate.now }

-- the word's vector and the sum differ at this place, and not above it
abbrev pub not_zero : List (List ℕ) → Place → Answer
not_zero names at = record { status = Fails; text = codes "not-zero " ++ (place_text names at ++ codes "\n") }

-- the answer to what the check found
abbrev pub ShowsSum : Presented → Result (Unit {0}) FlatSumFault → Answer → Type 0
ShowsSum p (Ok done) a = a ≡ trivial
ShowsSum p (Err (NotZero at)) a = a ≡ not_zero p.names at
ShowsSum p (Err Beyond) a = a ≡ beyond
ShowsSum p (Err sums.NoMemory) a = ⊥

-- the certificate is checked for the word, and the answer says what came of it
abbrev pub CheckLeads : Presented → List Letter → List Flat → Answer → Type 0
CheckLeads p w list a = (found : Result (Unit {0}) FlatSumFault) × Answers p w list found × ShowsSum p found a

-- the first line that can't stand is refused, or the certificate goes on
abbrev pub ReadingLeads : List ℕ → (List Flat → Answer → Type 0) → Result (Vec Flat Global) FlatTextFault → Answer
    → Type 0
ReadingLeads name next (Ok list) a = next list.items a
ReadingLeads name next (Err (reading.Line line)) a = a ≡ line_refused name line (codes "flat")
ReadingLeads name next (Err reading.NoMemory) a = ⊥

-- the text under this name is read as a flat certificate over the presentation, which goes on
abbrev pub CertificateLeads : Presented → List ℕ → (List Flat → Answer → Type 0) → List ℕ → Answer → Type 0
CertificateLeads p name next bytes a = (read : Result (Vec Flat Global) FlatTextFault) × ReadsText p bytes read
    × ReadingLeads name next read a

-- a line that can't stand is refused
abbrev pub RefusesCertificate : List ℕ → FlatTextFault → Halt → Type 0
RefusesCertificate name (reading.Line line) h = RefusesLine name line (codes "flat") h
RefusesCertificate name reading.NoMemory (Says a) = ⊥
RefusesCertificate name reading.NoMemory NoMemory = Unit {0}

-- the text has a line that can't stand, which is refused
abbrev pub CertificateFails : Presented → List ℕ → List ℕ → Answer → Type 0
CertificateFails p name bytes a =
    (line : ℕ) × ReadsText p bytes (Err (reading.Line line)) × (a ≡ line_refused name line (codes "flat"))

-- what is given of this text: its certificate, or the answer to what is wrong with it
abbrev pub GivesCertificate : Presented → List ℕ → List ℕ → Result (Vec Flat Global) Halt → Type 0
GivesCertificate p name bytes (Ok list) = ReadsText p bytes (Ok list)
GivesCertificate p name bytes (Err (Says a)) = CertificateFails p name bytes a
GivesCertificate p name bytes (Err NoMemory) = Unit {0}

-- the same of the text under a name
abbrev pub LoadsCertificate : Presented → Type 0 → List ℕ → Option (List ℕ) → Result (Vec Flat Global) Halt → Type 0
LoadsCertificate p counted name told (Ok list) =
    IfSome told (λ bytes. (length bytes ≤ CERTIFICATE_BYTES) × ReadsText p bytes (Ok list))
LoadsCertificate p counted name told (Err (Says a)) =
    BytesLead counted CERTIFICATE_BYTES name told (CertificateFails p name) a
LoadsCertificate p counted name told (Err NoMemory) = Unit {0}

-- the presentation is known: the word is read, then the certificate, and then its sum is checked
abbrev pub WordLeads : Type 0 → (List ℕ → Option (List ℕ)) → SumAsked → Presented → Answer → Type 0
WordLeads counted under q p a =
    ReadLeads (codes "word") (read_word p q.word)
    (λ w. BytesLead counted CERTIFICATE_BYTES q.certificate (under q.certificate)
    (CertificateLeads p q.certificate (CheckLeads p w))) a

-- the answer that is due to `sum` over these texts; `counted` says that the shelf has counted a failure
abbrev pub SumLeads : Type 0 → (List ℕ → Option (List ℕ)) → SumAsked → Answer → Type 0
SumLeads counted under q a =
    FileLeads counted PRESENTATION_BYTES q.presentation (under q.presentation) (in_lines presentation_text)
    (WordLeads counted under q) a

-- the word that `sum` was asked about is trivial over the presentation that the file spells
abbrev pub AskedTrivial : (List ℕ → Option (List ℕ)) → SumAsked → Type 0
AskedTrivial under q =
    IfSome (under q.presentation) (λ bytes. IfSome (under q.certificate) (λ _.
    (p : Presented) × (w : List Letter) × (in_lines presentation_text bytes ≡ Ok p) × (read_word p q.word ≡ Ok w)
    × Trivial p w))
