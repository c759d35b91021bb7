-- What the command `gen` answers.
use Rattle.std.specs.Prelude.{◌≡◌, ℕ, List, [], ◌∷◌, ◌++◌, length, Option, None, Result, Ok, Err, codes, decimal}
use Rattle.presentation.specs.Presented.{Presented}
use Rattle.presentation.specs.Reading.{presentation_text}
use Rattle.outcomes.specs.declared.ends.End.{End}
use Rattle.outcomes.specs.declared.ends.End.TheVariants.{Sealed, Stopped, Full, Spent}
use Rattle.task_table.specs.declared.order.Order.TheVariants.{ByNumber}
use Rattle.session_text.specs.declared.question.Question.{Question}
use Rattle.session_text.specs.declared.fault.SessionFault.{SessionFault}
use Rattle.session_text.specs.Reading.{session_text}
use Rattle.report_text.specs.Histories.{History}
use Rattle.report_text.specs.Reports.{Reported}
use Rattle.gen_input.specs.Texts as generated
use Rattle.command_floor.specs.Numbers.{number_between}
use Rattle.command_floor.specs.Parsing.{GivenWords}
use Rattle.legal_report.specs.declared.last.Kind.{Kind}
use Rattle.legal_report.specs.declared.last.Kind.TheVariants.{Trivial, NotTrivial, Normal, Extends, Fails, Unknown}
use Rattle.legal_report.specs.declared.last.Kind.TheVariants.{Stop}
use Rattle.legal_report.specs.Last.{how_many, last_kinds}
use Rattle.legal_report.specs.Solutions.{IsSolved}
use Rattle.solve_commands.specs.declared.generate.TheConstants.{MOST_SEED}
use Rattle.solve_commands.specs.declared.limits.TheConstants.{ENTRIES}
use Rattle.command_floor.specs.declared.answer.Halt.TheVariants.{Says}
use Rattle.command_floor.specs.Answers.{Answer}
use Rattle.command_floor.specs.Files.{in_lines, ReadLeads}
use Rattle.solve_commands.specs.SessionFiles.{RefusesSession}
use Rattle.solve_commands.specs.Limits.{limits_with}
use Rattle.solve_commands.specs.Runs.{ShowsSettled}

abbrev pub one_seed : List (List ℕ) → Option ℕ
one_seed (seed ∷ []) = number_between 0 MOST_SEED seed
one_seed _ = None

-- the seed that `gen` is asked by what is given behind its name: one number
abbrev pub gen_in : GivenWords → Option ℕ
gen_in g = one_seed g.words

-- the word for how a log ends
abbrev pub end_word : End → List ℕ
end_word Sealed = codes "sealed"
end_word (Stopped t stop) = codes "stopped"
end_word (Full m c) = codes "full"
end_word (Spent c t) = codes "spent"

-- how many of the last verdicts are of each kind: those on words, those on maps, and those that settle nothing
unfoldable pub words_text : List Kind → List ℕ
words_text kinds = codes "trivial " ++ decimal (how_many Trivial kinds) ++ codes " not-trivial "
    ++ decimal (how_many NotTrivial kinds) ++ codes " normal " ++ decimal (how_many Normal kinds)

unfoldable pub maps_text : List Kind → List ℕ
maps_text kinds = codes "extends " ++ decimal (how_many Extends kinds) ++ codes " fails "
    ++ decimal (how_many Fails kinds)

unfoldable pub unsettled_text : List Kind → List ℕ
unsettled_text kinds = codes "unknown " ++ decimal (how_many Unknown kinds) ++ codes " stop "
    ++ decimal (how_many Stop kinds)

-- the seed, the number of entries, and how the log ends
unfoldable pub head_text : ℕ → ℕ → End → List ℕ
head_text seed entries end = codes "gen " ++ decimal seed ++ codes " entries " ++ decimal entries ++ codes " end "
    ++ end_word end

-- the line of all this
abbrev pub summary_line : ℕ → ℕ → End → List Kind → List ℕ
summary_line seed entries end kinds = head_text seed entries end ++ codes " " ++ words_text kinds ++ codes " "
    ++ maps_text kinds ++ codes " " ++ unsettled_text kinds ++ codes "\n"

-- the summary of what a seed leads to
abbrev pub summary : ℕ → History → List ℕ
summary seed h = summary_line seed (length h.entries) h.end (last_kinds h)

-- the answer is the summary of a solved report within the limits of `solo` without options, and is done exactly where
-- the report is settled
pub record ShowsGen (seed : ℕ) (p : Presented) (questions : List Question) (a : Answer) : Type 0 where
  pub report : Reported
  pub history : History
  pub solved : IsSolved p (limits_with ENTRIES None ByNumber) (questions ∷ []) report history
  pub text : a.text ≡ summary seed history
  pub status : ShowsSettled history a.status

-- questions of a session, or what is wrong with its text, lead to the answer
abbrev pub QuestionsLead : List ℕ → Result (List Question) SessionFault → (List Question → Answer → Type 0)
    → Answer → Type 0
QuestionsLead name (Err f) next a = RefusesSession name f (Says a)
QuestionsLead name (Ok qs) next a = next qs a

-- the texts of a presentation and of a session are parsed and lead to the answer
abbrev pub TextsLead : ℕ → List ℕ → List ℕ → Answer → Type 0
TextsLead seed pres session a =
    ReadLeads (codes "presentation") (in_lines presentation_text pres)
    (λ p. QuestionsLead (codes "session") (session_text p session) (ShowsGen seed p)) a

-- the answer that is due to `gen` with this seed
abbrev pub GenLeads : ℕ → Answer → Type 0
GenLeads seed a = TextsLead seed (generated.presentation_text seed) (generated.session_text seed) a
