-- What the command `fox` answers.
use Rattle.std.specs.Prelude.{◌≡◌, ℕ, List, [], ◌∷◌, ◌++◌, Option, Some, None, codes}
use Rattle.free_words.specs.declared.letter.Letter.{Letter}
use Rattle.free_words.specs.Words.{Cancels, IsReduced}
use Rattle.presentation.specs.Presented.{Presented}
use Rattle.presentation.specs.Reading.{presentation_text}
use Rattle.presentation.specs.Writing.{written_word}
use Rattle.module_vec.specs.declared.places.Term.{Term}
use Rattle.vector_text.specs.Spelling.{vector_text}
use Rattle.fox_calculus.specs.Fox.{fox}
use Rattle.fox_calculus.specs.Generators.{IsWritten}
use Rattle.command_floor.specs.declared.status.Status.TheVariants.{Done}
use Rattle.command_floor.specs.declared.TheConstants.{PRESENTATION_BYTES}
use Rattle.command_floor.specs.Answers.{Answer}
use Rattle.command_floor.specs.Parsing.{GivenWords}
use Rattle.check_commands.specs.declared.fox.FoxWords.{FoxWords}
use Rattle.command_floor.specs.Files.{in_lines, read_word, ReadLeads, FileLeads}

-- what `fox` is asked: a presentation's name and a word
pub record FoxAsked : Type 0 where
  pub presentation : List ℕ
  pub word : List ℕ

abbrev pub two : List (List ℕ) → Option FoxAsked
two (p ∷ w ∷ []) = Some (record { presentation = p; word = w })
two _ = None

-- what it is asked by what is given behind its name: two words
abbrev pub fox_in : GivenWords → Option FoxAsked
fox_in g = two g.words

-- what the code holds of it
abbrev pub fox_asked : FoxWords → FoxAsked
fox_asked w = record { presentation = w.presentation.now; word = w.word.now }

-- two lines: a word, and a vector
abbrev pub fox_lines : Presented → List Letter → List Term → List ℕ
fox_lines p r v = codes "word " ++ (written_word p.names r ++ (codes "\nfox " ++ (vector_text p.names v ++ codes "\n")))

-- the answer has the freely reduced form of w, and its Fox vector
pub record ShowsFox (p : Presented) (w : List Letter) (a : Answer) : Type 0 where
  pub reduced : List Letter
  pub vector : List Term
  pub cancels : Cancels w reduced
  pub is_reduced : IsReduced reduced
  pub is_written : IsWritten (fox w) vector
  pub is : a ≡ record { status = Done; text = fox_lines p reduced vector }

-- the answer that is due to `fox` over these texts; `counted` says that the shelf has counted a failure
abbrev pub FoxLeads : Type 0 → (List ℕ → Option (List ℕ)) → FoxAsked → Answer → Type 0
FoxLeads counted under q a =
    FileLeads counted PRESENTATION_BYTES q.presentation (under q.presentation) (in_lines presentation_text)
    (λ p. ReadLeads (codes "word") (read_word p q.word) (ShowsFox p)) a
