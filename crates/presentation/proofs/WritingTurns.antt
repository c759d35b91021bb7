-- Written runs are read one after another.
use Rattle.std.proofs.Common.{◌≡◌, ℕ, zero, suc, ◌<◌, ◌≤◌, ◌==◌, Bool, true, false, if◌then◌else◌, List, [], ◌∷◌, ◌++◌, length, Some, Ok, refl, arith}
use Rattle.std.proofs.Common.{length-append, decimal}
use Rattle.free_words.specs.declared.letter.Letter.{Letter}
use Rattle.free_words.specs.Words.{copies}
use Rattle.free_words.proofs.WordLemmas.{length_copies}
use Rattle.word_text.specs.declared.scan.Mark.{Mark}
use Rattle.word_text.specs.declared.scan.Mark.TheVariants as marks
use Rattle.word_text.specs.declared.machine.Spot.{Spot}
use Rattle.word_text.specs.declared.machine.Spot.TheVariants.{After}
use Rattle.word_text.specs.Scan.{is_name_byte, after_blanks, first_is, mark_of}
use Rattle.word_text.specs.Powers.{written}
use Rattle.word_text.specs.Machine.{Reading, Find, goes_on, factor_ends, turn_on, turn, word_from}
use Rattle.word_text.proofs.Limits.{made_ok}
use Rattle.word_text.proofs.Lexing.{blanks_once}
use Rattle.presentation.specs.declared.runs.Run.{Run}
use Rattle.presentation.specs.Presented.{IsName}
use Rattle.presentation.specs.Writing.{written_exponent}
use Rattle.presentation.proofs.WritingBytes.{Stops}
use Rattle.presentation.proofs.WritingNames.{name_marked, name_passes, name_taken, name_left}
use Rattle.presentation.proofs.WritingEnds.{kept, hat_no_name, name_byte_unblank, name_byte_other, Apart, Ends, BeginsNone}
use Rattle.presentation.proofs.WritingPowers.{run_read}

-- the letters of a run, and of runs
abbrev pub letters_of : Run → List Letter
letters_of r = copies r.count (r.letter ∷ [])

abbrev pub expanded : List Run → List Letter
expanded [] = []
expanded (r ∷ rs) = letters_of r ++ expanded rs

-- an open reading with no bracket
abbrev pub at : List Letter → Spot → Reading
at product spot = record { frames = []; product = product; spot = spot }

-- no blank stands before a name
pub name_plain : (n rest : List ℕ) → IsName n → after_blanks (n ++ rest) ≡ n ++ rest
name_plain [] rest h = cc h.0
name_plain (b ∷ bs) rest h = kept b (bs ++ rest) (name_byte_unblank b (name_passes (b ∷ bs) h).0)

-- a name begins with no other byte
pub name_first : (c : ℕ) → is_name_byte c ≡ false → (n rest : List ℕ) → IsName n → first_is c (n ++ rest) ≡ false
name_first c o [] rest h = cc h.0
name_first c o (b ∷ bs) rest h = name_byte_other b c (name_passes (b ∷ bs) h).0 o

one_apart : (t : Bool) (ds rest : List ℕ) → Stops is_name_byte rest → Stops is_name_byte ((if t then [] else 94 ∷ ds) ++ rest)
one_apart true ds rest s = s
one_apart false ds rest s = hat_no_name

-- no byte of a name stands behind a name
exponent_apart : (inv : Bool) (n : ℕ) (rest : List ℕ) → Stops is_name_byte rest → Stops is_name_byte (written_exponent inv n ++ rest)
exponent_apart true n rest s = hat_no_name
exponent_apart false n rest s = one_apart (n == 1) (decimal n) rest s

few : (outer : List Letter) (r : Run) → length (outer ++ letters_of r) ≤ written → r.count ≤ written
few outer r le = omega (arith, length-append outer (letters_of r), length_copies r.count (r.letter ∷ []))

abbrev pub run_text : List ℕ → Run → List ℕ → List ℕ
run_text name r rest = name ++ (written_exponent r.letter.inv r.count ++ rest)

-- a run is read in one turn
pub run_turn : (find : Find) (name : List ℕ) (r : Run) (outer : List Letter) (spot : Spot) (rest : List ℕ) → IsName name → find name ≡ Some r.letter.g
    → length (outer ++ letters_of r) ≤ written → Apart rest
    → turn written find (at outer spot) (run_text name r rest) ≡ goes_on [] (outer ++ letters_of r) After (after_blanks rest)
unfolding turn factor_ends
run_turn find name r outer spot rest h found le apart =
    let more : List ℕ = written_exponent r.letter.inv r.count ++ rest in
    let s : Stops is_name_byte more = exponent_apart r.letter.inv r.count rest apart.name in
    rw (
      name_plain name more h,
      name_marked name more h,
      name_taken name more h s,
      found,
      name_left name more h s,
      run_read (length (name ++ more)) r.letter.g r.count r.letter.inv rest (few outer r le) apart,
      made_ok written (length (name ++ more)) (outer ++ letters_of r) le,
    ) refl

name_some : (n : List ℕ) → IsName n → 0 < length n
name_some [] h = cc h.0
name_some (b ∷ bs) h = omega arith

pub run_step : (find : Find) (name : List ℕ) (r : Run) (outer : List Letter) (spot : Spot) (rest : List ℕ) (fuel : ℕ) → IsName name
    → find name ≡ Some r.letter.g
    → length (outer ++ letters_of r) ≤ written → Apart rest
    → word_from written (suc fuel) find (at outer spot) (run_text name r rest)
    ≡ word_from written fuel find (at (outer ++ letters_of r) After) (after_blanks rest)
unfolding word_from
run_step find name r outer spot rest fuel h found le apart = rw (run_turn find name r outer spot rest h found le apart) refl

pub run_longer : (name : List ℕ) (r : Run) (rest : List ℕ) → IsName name → length rest < length (run_text name r rest)
run_longer name r rest h =
    omega (
      arith,
      name_some name h,
      length-append name (written_exponent r.letter.inv r.count ++ rest),
      length-append (written_exponent r.letter.inv r.count) rest,
    )

-- where no factor begins the word ends
ends_by : (find : Find) (m : Mark) (w : List Letter) (bs : List ℕ) → BeginsNone m
    → turn_on written find m (at w After) bs ≡ Ok (record { state = at w After; ended = true; rest = bs })
ends_by find marks.Letter w bs n = absurd n
ends_by find marks.One w bs n = absurd n
ends_by find marks.Round w bs n = absurd n
ends_by find marks.Square w bs n = absurd n
ends_by find marks.Star w bs n = absurd n
ends_by find marks.Bad w bs n = refl
ends_by find marks.Other w bs n = refl

pub word_ends : (find : Find) (fuel : ℕ) (w : List Letter) (rest : List ℕ) → 0 < fuel → Ends rest
    → word_from written fuel find (at w After) (after_blanks rest) ≡ Ok (w, after_blanks rest)
unfolding word_from turn
word_ends find zero w rest lt ends = absurd (omega arith)
word_ends find (suc fuel) w rest lt ends = rw (blanks_once rest, ends_by find (mark_of (after_blanks rest)) w (after_blanks rest) ends.factor) refl
