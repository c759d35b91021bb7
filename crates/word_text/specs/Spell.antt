-- Tasks of writing out words of a straight-line program.
use Rattle.std.specs.Prelude.{ℕ, ◌+◌, ◌^◌, ◌≤◌, Bool, true, false, not, List, [], ◌∷◌, ◌++◌, replicate, if◌then◌else◌}
use Rattle.free_words.specs.declared.letter.Letter.{Letter}
use Rattle.free_words.specs.Words.{inverse, flipped}
use Rattle.word_text.specs.declared.program.Line.{Line}
use Rattle.word_text.specs.declared.program.Line.TheVariants as lines
use Rattle.word_text.specs.declared.spell.Task.{Task}
use Rattle.word_text.specs.Program.{word_of}

-- a word or its inverse
abbrev pub signed : Bool → List Letter → List Letter
signed inverted w = if inverted then inverse w else w

-- what the tasks write, first to last
abbrev pub told : List (List Letter) → List Task → List Letter
told words [] = []
told words (t ∷ ts) = signed t.inverted (word_of words t.word) ++ told words ts

abbrev pub task : ℕ → Bool → Task
task word inverted = record { word = word; inverted = inverted }

-- the letter of a line of one letter
abbrev pub letters_now : Bool → Line → List Letter
letters_now inverted (lines.Letter l) = (if inverted then flipped l else l) ∷ []
letters_now inverted (lines.Product u v) = []
letters_now inverted (lines.Power base raise) = []
letters_now inverted (lines.Commutator u v) = []

-- the parts of a line's word, or of its inverse, first to last
abbrev pub parts : Bool → Line → List Task
parts inverted (lines.Letter l) = []
parts false (lines.Product u v) = task u false ∷ task v false ∷ []
parts true (lines.Product u v) = task v true ∷ task u true ∷ []
parts inverted (lines.Power base raise) =
    replicate raise.times (task base (if raise.negative then not inverted else inverted))
parts false (lines.Commutator u v) = task u false ∷ task v false ∷ task u true ∷ task v true ∷ []
parts true (lines.Commutator u v) = task v false ∷ task u false ∷ task v true ∷ task u true ∷ []

-- each task is one of the first n words
abbrev pub AreBelow : ℕ → List Task → Type 0
AreBelow n [] = Unit {0}
AreBelow n (t ∷ ts) = (t.word ≤ n) × AreBelow n ts

-- how much is to be done: the parts of a word are fewer than 2^32, and each is an earlier word
abbrev pub load : List Task → ℕ
load [] = 0
load (t ∷ ts) = 4294967296 ^ t.word + load ts
