-- Where a text stops being the front of a word, and why, in the words of the grammar alone.
use Rattle.std.specs.Prelude.{◌≡◌, ℕ, ◌-◌, ◌<◌, false, List, [], ◌∷◌, ◌++◌, length, take, drop, None}
use Rattle.free_words.specs.declared.letter.Letter.{Letter}
use Rattle.word_text.specs.declared.fault.TextKind.{TextKind}
use Rattle.word_text.specs.declared.fault.TextKind.TheVariants as kinds
use Rattle.word_text.specs.declared.scan.Mark.TheVariants as marks
use Rattle.word_text.specs.Scan.{is_blank, is_known, name_at, digits_at, number, mark_of}
use Rattle.word_text.specs.Powers.{written}
use Rattle.word_text.specs.Machine.{Find}
use Rattle.word_text.specs.Grammar.{IsWordWithin}
use Rattle.word_text.specs.Fronts.{FactorAt, Passes}

-- a word of the grammar, of any length
abbrev pub IsSomeWord : Find → List ℕ → Type 0
IsSomeWord find text = (limit : ℕ) × (w : List Letter) × IsWordWithin limit find text w

-- bytes that can be continued to a word of the grammar
abbrev pub IsFront : Find → List ℕ → Type 0
IsFront find front = (rest : List ℕ) × IsSomeWord find (front ++ rest)

-- With the next byte the bytes are no front any more; or they end here, and are no word.
abbrev pub Refused : Find → List ℕ → List ℕ → Type 0
Refused find front [] = IsSomeWord find front → ⊥
Refused find front (b ∷ bs) = IsFront find (front ++ b ∷ []) → ⊥

-- No word goes on with the name, or with the number, that stands next.
abbrev pub NameRefused : Find → List ℕ → List ℕ → Type 0
NameRefused find front place = (rest : List ℕ) → name_at rest ≡ name_at place → IsSomeWord find (front ++ rest) → ⊥

abbrev pub NumberRefused : Find → List ℕ → List ℕ → Type 0
NumberRefused find front place = (rest : List ℕ) → digits_at rest ≡ digits_at place
    → IsSomeWord find (front ++ rest) → ⊥

-- the bytes before the last `left` ones, and these
abbrev pub bytes_before : List ℕ → ℕ → List ℕ
bytes_before text left = take (length text - left) text

abbrev pub bytes_from : List ℕ → ℕ → List ℕ
bytes_from text left = drop (length text - left) text

-- With the next byte the bytes begin no word of at most `limit` letters, its parts included; or they end here, and are
-- none.
abbrev pub RefusedWithin : ℕ → Find → List ℕ → List ℕ → Type 0
RefusedWithin limit find front [] = (w : List Letter) → IsWordWithin limit find front w → ⊥
RefusedWithin limit find front (b ∷ bs) = (rest : List ℕ) (w : List Letter)
    → IsWordWithin limit find (front ++ (b ∷ rest)) w → ⊥

-- A factor that may stand at a place passes the limit, and no word within it begins as the text does, up to there.
abbrev pub TooLongAt : ℕ → Find → List ℕ → List ℕ → Type 0
TooLongAt limit find text place = (u : List Letter) × (rest : List ℕ) × FactorAt limit find text u place
    × Passes limit find u place rest
    × RefusedWithin limit find (bytes_before text (length rest)) rest

-- a byte that is in no token, and no blank
abbrev pub IsBad : List ℕ → Type 0
IsBad [] = ⊥
IsBad (b ∷ bs) = (is_known b ≡ false) × (is_blank b ≡ false)

-- why the text isn't read, by the kind of its first fault: what stands before its place, and from there on
abbrev pub IsFault : Find → List ℕ → List ℕ → List ℕ → TextKind → Type 0
IsFault find text front place kinds.BadByte = IsBad place × Refused find front place
IsFault find text front place kinds.Expected = (IsBad place → ⊥) × Refused find front place
IsFault find text front place kinds.UnknownName = (mark_of place ≡ marks.Letter) × (find (name_at place) ≡ None)
    × NameRefused find front place
IsFault find text front place kinds.ExponentTooLarge = (written < number 0 (digits_at place))
    × NumberRefused find front place
IsFault find text front place kinds.WordTooLong = TooLongAt written find text place
IsFault find text front place kinds.TooManyNames = ⊥
IsFault find text front place kinds.RepeatedName = ⊥
IsFault find text front place kinds.TooManyRelators = ⊥
IsFault find text front place kinds.ModulusOutOfRange = ⊥
IsFault find text front place kinds.TooManyQuestions = ⊥
IsFault find text front place kinds.TooManyLetters = ⊥
IsFault find text front place kinds.NoSession = ⊥
