-- The grammar of presentations between bytes and values, apart from any reader. A part stands at bytes, has a value,
-- and leaves the bytes after it.
use Rattle.std.specs.Prelude.{◌≡◌, ℕ, zero, suc, ◌<◌, ◌≤◌, true, false, codes, List, [], ◌∷◌, ◌++◌, length, drop}
use Rattle.free_words.specs.declared.letter.Letter.{Letter}
use Rattle.free_words.specs.declared.TheConstants.{GENERATORS, WRITTEN}
use Rattle.free_words.specs.Words.{inverse}
use Rattle.word_text.specs.declared.scan.Mark.TheVariants as marks
use Rattle.word_text.specs.declared.machine.Spot.{Spot}
use Rattle.word_text.specs.Scan.{first_is, after_blanks, name_at, after_name, digits_at, after_digits, mark_of, number}
use Rattle.word_text.specs.Machine.{Find, finding}
use Rattle.word_text.specs.Grammar.{Product, Spelled}
use Rattle.presentation.specs.declared.TheConstants.{RELATORS, MODULUS}
use Rattle.presentation.specs.Presented.{Presented, AreDistinct}

-- a name between blanks
pub record NameAt (bs name rest : List ℕ) : Type 0 where
  pub begins : mark_of (after_blanks bs) ≡ marks.Letter
  pub is : name ≡ name_at (after_blanks bs)
  pub leaves : rest ≡ after_blanks (after_name (after_blanks bs))

-- one name or more with commas between them
abbrev pub NamesAt : List ℕ → List (List ℕ) → List ℕ → Type 0
NamesAt bs [] rest = ⊥
NamesAt bs (n ∷ []) rest = NameAt bs n rest
NamesAt bs (n ∷ m ∷ ns) rest = (mid : List ℕ) × NameAt bs n mid × (first_is 44 mid ≡ true)
    × NamesAt (drop 1 mid) (m ∷ ns) rest

-- a word, or two words u and v with `=` between them, which say that u v^-1 is a relator
pub data RelatorAt (find : Find) : List ℕ → List Letter → List ℕ → Type 0 where
  word : (s : Spot) (bs rest : List ℕ) (w : List Letter) → Spelled find (Product s) (after_blanks bs) w rest
      → RelatorAt find bs w rest
  equation : (s t : Spot) (bs mid rest : List ℕ) (u v : List Letter) → Spelled find (Product s) (after_blanks bs) u mid
      → first_is 61 mid ≡ true
      → Spelled find (Product t) (after_blanks (drop 1 mid)) v rest → length (u ++ inverse v) ≤ WRITTEN
      → RelatorAt find bs (u ++ inverse v) rest

-- one relator or more with commas between them
abbrev pub SomeRelatorsAt : Find → List ℕ → List (List Letter) → List ℕ → Type 0
SomeRelatorsAt find bs [] rest = ⊥
SomeRelatorsAt find bs (r ∷ []) rest = RelatorAt find bs r rest
SomeRelatorsAt find bs (r ∷ q ∷ rs) rest =
    (mid : List ℕ) × RelatorAt find bs r mid × (first_is 44 mid ≡ true) × SomeRelatorsAt find (drop 1 mid) (q ∷ rs) rest

-- nothing before `>` where there are no relators
abbrev pub RelatorsAt : Find → List ℕ → List (List Letter) → List ℕ → Type 0
RelatorsAt find bs [] rest = (first_is 62 (after_blanks bs) ≡ true) × (rest ≡ after_blanks bs)
RelatorsAt find bs (r ∷ rs) rest = (first_is 62 (after_blanks bs) ≡ false) × SomeRelatorsAt find bs (r ∷ rs) rest

-- a presentation without its modulus, within the limits: `<`, the names, `|`, the relators over them, and `>`
pub record PresentationAt (bs : List ℕ) (names : List (List ℕ)) (relators : List (List Letter))
    (rest : List ℕ) : Type 0 where
  pub opens : first_is 60 (after_blanks bs) ≡ true
  pub bar : List ℕ
  pub names_stand : NamesAt (drop 1 (after_blanks bs)) names bar
  pub parts : first_is 124 bar ≡ true
  pub end : List ℕ
  pub relators_stand : RelatorsAt (finding names) (drop 1 bar) relators end
  pub closes : first_is 62 end ≡ true
  pub leaves : rest ≡ drop 1 end
  pub few_names : length names ≤ GENERATORS
  pub distinct : AreDistinct names
  pub few_relators : length relators ≤ RELATORS

-- the word `modulus` and a number within the limits, between blanks
pub record WrittenModulus (bs : List ℕ) (m : ℕ) : Type 0 where
  pub word : name_at (after_blanks bs) ≡ codes "modulus"
  pub some_digit : 0 < length (digits_at (after_blanks (after_name (after_blanks bs))))
  pub is : m ≡ number 0 (digits_at (after_blanks (after_name (after_blanks bs))))
  pub least : 2 ≤ m
  pub greatest : m ≤ MODULUS
  pub ends : after_blanks (after_digits (after_blanks (after_name (after_blanks bs)))) ≡ []

-- what stands behind `>` to the end of the text: blanks alone where there is no modulus
abbrev pub ModulusAt : List ℕ → ℕ → Type 0
ModulusAt bs zero = after_blanks bs ≡ []
ModulusAt bs (suc m) = WrittenModulus bs (suc m)

-- the text is a presentation, of this value
abbrev pub IsPresentation : List ℕ → Presented → Type 0
IsPresentation text p = (rest : List ℕ) × PresentationAt text p.names p.relators rest × ModulusAt rest p.modulus
