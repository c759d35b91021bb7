-- What the command `steps` answers.
use Rattle.std.specs.Prelude.{◌≡◌, ℕ, List, [], ◌∷◌, ◌++◌, Option, Some, None, IfSome, Result, Ok, Err, codes, decimal}
use Rattle.presentation.specs.Presented.{Presented}
use Rattle.presentation.specs.Reading.{presentation_text}
use Rattle.free_words.specs.declared.letter.Letter.{Letter}
use Rattle.derivation.specs.declared.moves.Move.{Move}
use Rattle.derivation.specs.declared.moves.MoveReason.{MoveReason}
use Rattle.derivation.specs.declared.moves.MoveReason.TheVariants.{Place, NoRelator, NoModulus, NotThere, TooLong}
use Rattle.derivation.specs.declared.moves.StepsFault.{StepsFault}
use Rattle.derivation.specs.declared.moves.StepsFault.TheVariants.{BadMove, NotEmpty}
use Rattle.derivation.specs.declared.moves.StepsFault.TheVariants as steps
use Rattle.derivation.specs.Making.{StepsGive}
use Rattle.derivation.specs.Reading.{derivation_text}
use Rattle.derivation.specs.Moves.{Trivial}
use Rattle.command_floor.specs.declared.status.Status.TheVariants.{Done, Fails}
use Rattle.command_floor.specs.declared.TheConstants.{PRESENTATION_BYTES}
use Rattle.check_commands.specs.declared.TheConstants.{DERIVATION_BYTES}
use Rattle.command_floor.specs.Answers.{Answer}
use Rattle.command_floor.specs.Parsing.{GivenWords}
use Rattle.check_commands.specs.declared.steps.StepsWords.{StepsWords}
use Rattle.command_floor.specs.Files.{in_lines, read_word, ReadLeads, FileLeads}

-- what `steps` is asked: a presentation's name, a word and a derivation's name
pub record StepsAsked : Type 0 where
  pub presentation : List ℕ
  pub word : List ℕ
  pub derivation : List ℕ

abbrev pub three : List (List ℕ) → Option StepsAsked
three (p ∷ w ∷ d ∷ []) = Some (record { presentation = p; word = w; derivation = d })
three _ = None

-- what it is asked by what is given behind its name: three words
abbrev pub steps_in : GivenWords → Option StepsAsked
steps_in g = three g.words

-- what the code holds of it
abbrev pub steps_asked : StepsWords → StepsAsked
steps_asked w = record { presentation = w.presentation.now; word = w.word.now; derivation = w.derivation.now }

-- the name that a reason has in an answer
abbrev pub reason_text : MoveReason → List ℕ
reason_text Place = codes "place"
reason_text NoRelator = codes "no-relator"
reason_text NoModulus = codes "no-modulus"
reason_text NotThere = codes "not-there"
reason_text TooLong = codes "too-long"

-- the moves carry the word to the empty word
abbrev pub trivial : Answer
trivial = record { status = Done; text = codes "trivial\n" }

-- the move of this number can't be made
abbrev pub bad_move : ℕ → MoveReason → Answer
bad_move number reason = record {
  status = Fails;
  text =
      codes "bad move " ++ decimal number ++ codes " " ++ reason_text reason ++ codes "\n";
}

-- all moves were made, and so many letters are left
abbrev pub not_empty : ℕ → Answer
not_empty left = record { status = Fails; text = codes "not-empty " ++ decimal left ++ codes "\n" }

-- the answer to what the moves made of the word
abbrev pub Shows : Result (Unit {0}) StepsFault → Answer → Type 0
Shows (Ok done) a = a ≡ trivial
Shows (Err (BadMove number reason)) a = a ≡ bad_move number reason
Shows (Err (NotEmpty left)) a = a ≡ not_empty left
Shows (Err steps.NoMemory) a = ⊥

-- the moves are made on the word, and the answer says what came of it
abbrev pub MovesLead : Presented → List Letter → List Move → Answer → Type 0
MovesLead p w moves a = (made : Result (Unit {0}) StepsFault) × StepsGive p w moves made × Shows made a

-- the presentation is known: the word is read, then the derivation, and then its moves are made
abbrev pub WordLeads : Type 0 → (List ℕ → Option (List ℕ)) → StepsAsked → Presented → Answer → Type 0
WordLeads counted under q p a =
    ReadLeads (codes "word") (read_word p q.word)
    (λ w. FileLeads counted DERIVATION_BYTES q.derivation (under q.derivation) (derivation_text p) (MovesLead p w)) a

-- the answer that is due to `steps` over these texts; `counted` says that the shelf has counted a failure
abbrev pub StepsLead : Type 0 → (List ℕ → Option (List ℕ)) → StepsAsked → Answer → Type 0
StepsLead counted under q a =
    FileLeads counted PRESENTATION_BYTES q.presentation (under q.presentation) (in_lines presentation_text)
    (WordLeads counted under q) a

-- the word that `steps` was asked about is trivial over the presentation that the file spells
abbrev pub AskedTrivial : (List ℕ → Option (List ℕ)) → StepsAsked → Type 0
AskedTrivial under q =
    IfSome (under q.presentation) (λ bytes. IfSome (under q.derivation) (λ _.
    (p : Presented) × (w : List Letter) × (in_lines presentation_text bytes ≡ Ok p) × (read_word p q.word ≡ Ok w)
    × Trivial p w))
