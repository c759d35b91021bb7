-- The one form in which words and presentations are written.
use Rattle.std.specs.Prelude.{ℕ, suc, ◌<◌, Bool, true, false, not, ◌&&◌, ◌||◌, ◌==◌, List, [], ◌∷◌, ◌++◌, map}
use Rattle.std.specs.Prelude.{slice_get, unwrap_or, if◌then◌else◌, codes, decimal}
use Rattle.std.specs.List.{AllByRecursion}
use Rattle.free_words.specs.declared.letter.Letter.{Letter}
use Rattle.word_text.specs.Scan.{is_blank, is_name_byte}
use Rattle.presentation.specs.declared.runs.Run.{Run}
use Rattle.presentation.specs.Presented.{Presented}

-- the same generator with the same sign
abbrev pub is_same : Letter → Letter → Bool
is_same l m = (l.g == m.g) && (if l.inv then m.inv else not m.inv)

-- a run of one letter
abbrev pub once : Letter → Run
once l = record { letter = l; count = 1 }

-- the runs of a word that has one more letter at its head
abbrev pub behind : Letter → List Run → List Run
behind l [] = once l ∷ []
behind l (r ∷ rs) = if is_same l r.letter then record { letter = l; count = suc r.count } ∷ rs else once l ∷ r ∷ rs

-- the longest parts of a word in which one letter follows itself
abbrev pub runs : List Letter → List Run
runs [] = []
runs (l ∷ ls) = behind l (runs ls)

-- runs of letters of so many generators
abbrev pub AreOver : ℕ → List Run → Type 0
AreOver n rs = AllByRecursion (λ (r : Run). r.letter.g < n) rs

-- each text with the separator before it
abbrev pub led_by : List ℕ → List (List ℕ) → List ℕ
led_by separator [] = []
led_by separator (t ∷ ts) = separator ++ t ++ led_by separator ts

-- the texts with the separator between each two
abbrev pub joined : List ℕ → List (List ℕ) → List ℕ
joined separator [] = []
joined separator (t ∷ ts) = t ++ led_by separator ts

-- the name of a generator
abbrev pub name_of : List (List ℕ) → ℕ → List ℕ
name_of names g = unwrap_or (slice_get names g) []

-- what stands behind the name: nothing for one letter, `^N` for more, and `^-N` for any number of inverse letters
abbrev pub written_exponent : Bool → ℕ → List ℕ
written_exponent true n = codes "^-" ++ decimal n
written_exponent false n = if n == 1 then [] else codes "^" ++ decimal n

abbrev pub written_run : List (List ℕ) → Run → List ℕ
written_run names r = name_of names r.letter.g ++ written_exponent r.letter.inv r.count

-- the runs with spaces between them; the empty word is `1`
abbrev pub written_word : List (List ℕ) → List Letter → List ℕ
written_word names [] = codes "1"
written_word names (l ∷ ls) = joined (codes " ") (map (written_run names) (runs (l ∷ ls)))

-- 0 stands for no modulus
abbrev pub written_modulus : ℕ → List ℕ
written_modulus m = if m == 0 then [] else codes " modulus " ++ decimal m

-- `<`, names, ` | `, relators and `>`
abbrev pub written_bare : List (List ℕ) → List (List Letter) → List ℕ
written_bare names relators = codes "<" ++ joined (codes ", ") names ++ codes " | "
    ++ joined (codes ", ") (map (written_word names) relators) ++ codes ">"

-- the same, and the modulus where there is one
abbrev pub written_presentation : Presented → List ℕ
written_presentation p = written_bare p.names p.relators ++ written_modulus p.modulus

-- a byte at which a factor begins or goes on: of a name or a number, `^`, `*`, `(` or `[`
abbrev pub is_of_word : ℕ → Bool
is_of_word b = is_name_byte b || (b == 94) || (b == 42) || (b == 40) || (b == 91)

-- what may follow a written word in a longer text: blanks, and then nothing or a byte at which no factor begins or goes
-- on
abbrev pub ends_word : List ℕ → Bool
ends_word [] = true
ends_word (b ∷ bs) = if is_blank b then ends_word bs else not (is_of_word b)
