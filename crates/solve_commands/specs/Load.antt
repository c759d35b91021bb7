-- What the command `load` answers.
use Rattle.std.specs.Prelude.{◌≡◌, ◌≢◌, ◌≤◌, ◌⊎◌, ℕ, List, [], ◌∷◌, length, Option, None, IfSome, Ok, option_map}
use Rattle.presentation.specs.Presented.{Presented}
use Rattle.presentation.specs.Reading.{presentation_text}
use Rattle.session_text.specs.declared.question.Question.{Question}
use Rattle.basis_entry.specs.Entries.{BasisEntry, vectors_of}
use Rattle.basis_entry.specs.Seals.{IsStrongBasis}
use Rattle.report_text.specs.Histories.{History}
use Rattle.report_text.specs.Reports.{Reported, text_of}
use Rattle.saved_basis.specs.Reading.{IsBasisFile}
use Rattle.command_floor.specs.declared.status.Status.TheVariants.{Done, Open}
use Rattle.command_floor.specs.declared.TheConstants.{PRESENTATION_BYTES}
use Rattle.command_floor.specs.Answers.{Answer}
use Rattle.command_floor.specs.Files.{in_lines, FileFails}
use Rattle.command_floor.specs.Parsing.{GivenWords, shown}
use Rattle.loaded_report.specs.Loaded.{IsAnsweredBy}
use Rattle.solve_commands.specs.declared.load.LoadWords.{LoadWords}
use Rattle.solve_commands.specs.Bases.{IsBasisIn, BasisFails}
use Rattle.solve_commands.specs.Presentations.{IsPresentedIn}
use Rattle.solve_commands.specs.Runs.{ShowsSettled}
use Rattle.solve_commands.specs.SessionFiles.{SessionsFail, AreQuestionsUnder, session_names}

-- what `load` is asked: the names of a presentation, of a basis and of the sessions
pub record LoadAsked : Type 0 where
  pub presentation : List ℕ
  pub basis : List ℕ
  pub sessions : List (List ℕ)

abbrev pub load_by : List (List ℕ) → Option LoadAsked
load_by [] = None
load_by (p ∷ ws) = option_map (λ n. record { presentation = p; basis = n.0; sessions = n.1 }) (session_names ws)

-- what it is asked by what is given behind its name: a presentation, a basis, and 1 to so many sessions
abbrev pub load_in : GivenWords → Option LoadAsked
load_in g = load_by g.words

-- what the code holds of it
abbrev pub load_asked : LoadWords → LoadAsked
load_asked w = record {
  presentation = w.presentation.now;
  basis = w.basis.now;
  sessions = shown w.sessions.items;
}

-- the texts have these values, where the shelf tells them, and the report is by the entries of the basis file. These
-- are a strong basis, whoever wrote the file: the report is legal so, and its answers are true and exact
pub record IsFound (under : List ℕ → Option (List ℕ)) (q : LoadAsked) (r : Reported) (h : History) : Type 0 where
  pub p : Presented
  pub presented : IsPresentedIn under q.presentation p
  pub entries : List BasisEntry
  pub basis : IsBasisIn under q.basis p entries
  pub questions : List (List Question)
  pub asked : AreQuestionsUnder under p q.sessions questions
  pub answered : IsAnsweredBy p entries questions r h

-- The basis file that `load` was asked about holds a strong basis of the module of the presentation that the other file
-- spells, where the shelf tells both
abbrev pub AskedStrong : (List ℕ → Option (List ℕ)) → LoadAsked → Type 0
AskedStrong under q =
    IfSome (under q.presentation) (λ bytes. IfSome (under q.basis) (λ file.
    (p : Presented) × (es : List BasisEntry) × (in_lines presentation_text bytes ≡ Ok p) × IsBasisFile p file es
    × IsStrongBasis p (vectors_of es)))

-- the answer is the text of such a report, and is done exactly where the report is settled
pub record ShowsLoad (under : List ℕ → Option (List ℕ)) (q : LoadAsked) (a : Answer) : Type 0 where
  pub report : Reported
  pub history : History
  pub found : IsFound under q report history
  pub text : a.text ≡ text_of report history
  pub status : ShowsSettled history a.status

-- the basis file isn't one, or it is one, and one of the sessions' texts has no value
abbrev pub LoadingFails : Type 0 → (List ℕ → Option (List ℕ)) → LoadAsked → Presented → Answer → Type 0
LoadingFails counted under q p a = BasisFails counted p q.basis (under q.basis) a
    ⊎ ((es : List BasisEntry) × IsBasisIn under q.basis p es × SessionsFail counted under p q.sessions a)

-- Nothing is reported: the presentation's text has no value, or it has one, and one of the other texts has none
abbrev pub LoadFails : Type 0 → (List ℕ → Option (List ℕ)) → LoadAsked → Answer → Type 0
LoadFails counted under q a = (a.status ≢ Done) × (a.status ≢ Open) × (
    FileFails counted PRESENTATION_BYTES q.presentation (under q.presentation) (in_lines presentation_text) a
    ⊎ ((p : Presented) × IsPresentedIn under q.presentation p × LoadingFails counted under q p a))

-- the answer that is due to `load` over these texts; `counted` says that the shelf has counted a failure
abbrev pub LoadLeads : Type 0 → (List ℕ → Option (List ℕ)) → LoadAsked → Answer → Type 0
LoadLeads counted under q a = ShowsLoad under q a ⊎ LoadFails counted under q a
