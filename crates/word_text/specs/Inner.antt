-- The number of the word that stands inside the innermost bracket before a comma.
use Rattle.std.specs.Prelude.{ℕ, List, [], ◌∷◌}
use Rattle.word_text.specs.declared.draft.Inner.{Inner}
use Rattle.word_text.specs.declared.draft.Inner.TheVariants as inner
use Rattle.word_text.specs.declared.draft.Bracket.{Bracket}

abbrev pub number_in : Inner → ℕ
number_in inner.Round = 0
number_in inner.Square = 0
number_in (inner.Second u) = u

abbrev pub first_number : List Bracket → ℕ
first_number [] = 0
first_number (b ∷ bs) = number_in b.inner
