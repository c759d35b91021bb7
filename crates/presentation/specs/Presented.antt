-- A presentation as contracts see it.
use Rattle.std.specs.Prelude.{◌≡◌, ℕ, ◌<◌, ◌≤◌, List, [], ◌∷◌, length, Contains, ◌⊎◌}
use Rattle.std.specs.List.{AllByRecursion}
use Rattle.free_words.specs.declared.letter.Letter.{Letter}
use Rattle.free_words.specs.Words.{IsOver}
use Rattle.free_words.specs.declared.TheConstants.{GENERATORS, WRITTEN}
use Rattle.presentation.specs.declared.TheConstants.{RELATORS, MODULUS}
use Rattle.word_text.specs.declared.scan.Mark.TheVariants as marks
use Rattle.word_text.specs.Scan.{mark_of, name_at}

-- the names of the generators in order, the relators as words, and the modulus, 0 for none
pub record Presented : Type 0 where
  pub names : List (List ℕ)
  pub relators : List (List Letter)
  pub modulus : ℕ

-- a letter, and then letters, digits and `_`
abbrev pub IsName : List ℕ → Type 0
IsName n = (mark_of n ≡ marks.Letter) × (name_at n ≡ n)

-- no name stands twice
abbrev pub AreDistinct : List (List ℕ) → Type 0
AreDistinct [] = Unit {0}
AreDistinct (n ∷ ns) = (Contains ns n → ⊥) × AreDistinct ns

-- no modulus, or one from 2 on that is within the limit
abbrev pub IsModulus : ℕ → Type 0
IsModulus m = (m ≡ 0) ⊎ ((2 ≤ m) × (m ≤ MODULUS))

-- a word over so many generators that is no longer than a written word may be
abbrev pub IsWritten : ℕ → List Letter → Type 0
IsWritten n w = IsOver n w × (length w ≤ WRITTEN)

-- what holds of every presentation
pub record IsPresented (p : Presented) : Type 0 where
  pub some_name : 0 < length p.names
  pub few_names : length p.names ≤ GENERATORS
  pub names : AllByRecursion IsName p.names
  pub distinct : AreDistinct p.names
  pub few_relators : length p.relators ≤ RELATORS
  pub relators : AllByRecursion (IsWritten (length p.names)) p.relators
  pub modulus : IsModulus p.modulus
