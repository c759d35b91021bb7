-- No line end stands within words, presentations and questions.
use Rattle.std.proofs.Common.{◌≡◌, inl, inr, ℕ, suc, ◌<◌, ◌≤◌, ◌^◌, ◌==◌, Bool, true, false, if◌then◌else◌, List, [], ◌∷◌, ◌++◌, length, map, codes, decimal}
use Rattle.std.proofs.Common.{refl, arith}
use Rattle.std.specs.List.{AllByRecursion}
use Rattle.free_words.specs.declared.letter.Letter.{Letter}
use Rattle.spelling.proofs.Lacking.{Lacks, lacks_append, decimal_lacks}
use Rattle.word_text.specs.Scan.{is_name_byte, is_letter, is_digit}
use Rattle.presentation.specs.declared.runs.Run.{Run}
use Rattle.presentation.specs.Presented.{Presented, IsPresented, IsName, IsWritten, IsModulus}
use Rattle.presentation.specs.Writing.{is_same, once, behind, runs, AreOver, led_by, joined, name_of, written_exponent, written_run, written_word}
use Rattle.presentation.specs.Writing.{written_modulus, written_bare, written_presentation}
use Rattle.presentation.proofs.WritingRuns.{over_runs}
use Rattle.presentation.proofs.WritingNames.{name_passes}
use Rattle.presentation.proofs.WritingBack.{AreNames, names_of}
use Rattle.presentation.proofs.WritingBytes.{Passes}
use Rattle.presentation.proofs.WritingEnds.{name_byte_other}
use Rattle.vector_text.proofs.MonomialTexts.{name_lacks}
use Rattle.session_text.specs.declared.question.Question.{Question}
use Rattle.session_text.specs.declared.question.Question.TheVariants.{Trivial, Equal, Normal, Hom}
use Rattle.session_text.specs.Questions.{IsWritable}
use Rattle.session_text.specs.Writing.{written_question}
use Rattle.report_lines.proofs.Pairs.{literal}

abbrev pub IsOneLine : List ℕ → Type 0
IsOneLine text = Lacks 10 text

abbrev AreOneLine : List (List ℕ) → Type 0
AreOneLine ts = AllByRecursion IsOneLine ts

no_name_byte : is_name_byte 10 ≡ false
unfolding is_name_byte is_letter is_digit
no_name_byte = refl

pub number_line : (n : ℕ) → n < 2 ^ 128 → IsOneLine (decimal n)
number_line n small = decimal_lacks 10 n (inl (omega arith)) small

pub join_line : (a b : List ℕ) → IsOneLine a → IsOneLine b → IsOneLine (a ++ b)
join_line a b h k = lacks_append 10 a b h k

-- ---- words

abbrev AreWithin : ℕ → List Run → Type 0
AreWithin n rs = AllByRecursion (λ (r : Run). r.count ≤ n) rs

wider : (n : ℕ) (rs : List Run) → AreWithin n rs → AreWithin (suc n) rs
wider n [] h = tt
wider n (r ∷ rs) h = (omega (arith, h.0), wider n rs h.1)

within_behind : (n : ℕ) (l : Letter) (rs : List Run) → AreWithin n rs → AreWithin (suc n) (behind l rs)
within_behind n l [] h = (omega arith, tt)
within_behind n l (r ∷ rs) h = by (is_same l r.letter) where
  by : (t : Bool) → AreWithin (suc n) (if t then record { letter = l; count = suc r.count } ∷ rs else once l ∷ r ∷ rs)
  by true = (omega (arith, h.0), wider n rs h.1)
  by false = (omega arith, wider n (r ∷ rs) h)

-- a run is no longer than its word
runs_within : (w : List Letter) → AreWithin (length w) (runs w)
runs_within [] = tt
runs_within (l ∷ ls) = within_behind (length ls) l (runs ls) (runs_within ls)

exponent_line : (inv : Bool) (n : ℕ) → n < 2 ^ 128 → IsOneLine (written_exponent inv n)
exponent_line true n h = (refl, (refl, number_line n h))
exponent_line false n h = by (n == 1) where
  by : (t : Bool) → IsOneLine (if t then [] else codes "^" ++ decimal n)
  by true = tt
  by false = (refl, number_line n h)

run_line : (names : List (List ℕ)) (r : Run) → AreNames names → r.letter.g < length names → r.count < 2 ^ 128 → IsOneLine (written_run names r)
run_line names r known lt small =
    join_line (name_of names r.letter.g) (written_exponent r.letter.inv r.count) (name_lacks 10 names r.letter.g no_name_byte known lt)
    (exponent_line r.letter.inv r.count small)

led_line : (separator : List ℕ) (ts : List (List ℕ)) → IsOneLine separator → AreOneLine ts → IsOneLine (led_by separator ts)
led_line separator [] h k = tt
led_line separator (t ∷ ts) h k = join_line (separator ++ t) (led_by separator ts) (join_line separator t h k.0) (led_line separator ts h k.1)

joined_line : (separator : List ℕ) (ts : List (List ℕ)) → IsOneLine separator → AreOneLine ts → IsOneLine (joined separator ts)
joined_line separator [] h k = tt
joined_line separator (t ∷ ts) h k = join_line t (led_by separator ts) k.0 (led_line separator ts h k.1)

run_lines : (names : List (List ℕ)) (n : ℕ) (rs : List Run) → AreNames names → AreOver (length names) rs → AreWithin n rs → n < 2 ^ 128
    → AreOneLine (map (written_run names) rs)
run_lines names n [] known over within small = tt
run_lines names n (r ∷ rs) known over within small = (run_line names r known over.0 (omega (arith, within.0)), run_lines names n rs known over.1 within.1 small)

word_line : (names : List (List ℕ)) (w : List Letter) → AreNames names → IsWritten (length names) w → IsOneLine (written_word names w)
word_line names [] known h = (refl, tt)
word_line names (l ∷ ls) known h =
    joined_line (32 ∷ []) (map (written_run names) (runs (l ∷ ls))) (refl, tt)
    (run_lines names (length (l ∷ ls)) (runs (l ∷ ls)) known (over_runs (length names) (l ∷ ls) h.0) (runs_within (l ∷ ls)) (omega (arith, h.1)))

word_lines : (names : List (List ℕ)) (ws : List (List Letter)) → AreNames names → AllByRecursion (IsWritten (length names)) ws
    → AreOneLine (map (written_word names) ws)
word_lines names [] known h = tt
word_lines names (w ∷ ws) known h = (word_line names w known h.0, word_lines names ws known h.1)

name_bytes : (n : List ℕ) → Passes is_name_byte n → IsOneLine n
name_bytes [] h = tt
name_bytes (b ∷ bs) h = (name_byte_other b 10 h.0 no_name_byte, name_bytes bs h.1)

name_lines : (ns : List (List ℕ)) → AllByRecursion IsName ns → AreOneLine ns
name_lines [] h = tt
name_lines (n ∷ ns) h = (name_bytes n (name_passes n h.0), name_lines ns h.1)

-- ---- presentations and questions

small_modulus : (m : ℕ) → IsModulus m → m < 2 ^ 128
small_modulus m (inl e) = omega (arith, e)
small_modulus m (inr h) = omega (arith, h.1)

modulus_line : (m : ℕ) → IsModulus m → IsOneLine (written_modulus m)
modulus_line m h = by (m == 0) where
  by : (t : Bool) → IsOneLine (if t then [] else codes " modulus " ++ decimal m)
  by true = tt
  by false = join_line (codes " modulus ") (decimal m) (literal 10 (codes " modulus ") refl) (number_line m (small_modulus m h))

pub presentation_line : (p : Presented) → IsPresented p → IsOneLine (written_presentation p)
presentation_line p h =
    let names : List ℕ = joined (codes ", ") p.names in
    let relators : List ℕ = joined (codes ", ") (map (written_word p.names) p.relators) in
    let comma : IsOneLine (codes ", ") = literal 10 (codes ", ") refl in
    let head : IsOneLine (codes "<" ++ names) = join_line (codes "<") names (refl, tt) (joined_line (codes ", ") p.names comma (name_lines p.names h.names)) in
    let middle : IsOneLine (codes "<" ++ names ++ codes " | ") = join_line (codes "<" ++ names) (codes " | ") head (literal 10 (codes " | ") refl) in
    let front : IsOneLine (codes "<" ++ names ++ codes " | " ++ relators) = join_line (codes "<" ++ names ++ codes " | ") relators middle
    (joined_line (codes ", ") (map (written_word p.names) p.relators) comma (word_lines p.names p.relators (names_of p h) h.relators)) in
    let bare : IsOneLine (written_bare p.names p.relators) = join_line (codes "<" ++ names ++ codes " | " ++ relators) (codes ">") front (refl, tt) in
    join_line (written_bare p.names p.relators) (written_modulus p.modulus) bare (modulus_line p.modulus h.modulus)

pub question_line : (p : Presented) → IsPresented p → (q : Question) → IsWritable p q → IsOneLine (written_question p.names q)
question_line p known (Trivial w) h = join_line (codes "trivial ") (written_word p.names w) (literal 10 (codes "trivial ") refl)
    (word_line p.names w (names_of p known) h.0.1)
question_line p known (Equal u v) h =
    let head : IsOneLine (codes "equal " ++ written_word p.names u) =
    join_line (codes "equal ") (written_word p.names u) (literal 10 (codes "equal ") refl) (word_line p.names u (names_of p known) h.0.1.0) in
    let front : IsOneLine (codes "equal " ++ written_word p.names u ++ codes " = ") =
    join_line (codes "equal " ++ written_word p.names u) (codes " = ") head (literal 10 (codes " = ") refl) in
    join_line (codes "equal " ++ written_word p.names u ++ codes " = ") (written_word p.names v) front (word_line p.names v (names_of p known) h.0.1.1)
question_line p known (Normal w) h = join_line (codes "normal ") (written_word p.names w) (literal 10 (codes "normal ") refl)
    (word_line p.names w (names_of p known) h.0.1)
question_line p known (Hom source images) h =
    let head : IsOneLine (codes "hom " ++ written_presentation source) =
    join_line (codes "hom ") (written_presentation source) (literal 10 (codes "hom ") refl) (presentation_line source h.1) in
    let front : IsOneLine (codes "hom " ++ written_presentation source ++ codes " -> ") =
    join_line (codes "hom " ++ written_presentation source) (codes " -> ") head (literal 10 (codes " -> ") refl) in
    join_line (codes "hom " ++ written_presentation source ++ codes " -> ") (joined (codes ", ") (map (written_word p.names) images)) front
    (joined_line (codes ", ") (map (written_word p.names) images) (literal 10 (codes ", ") refl) (word_lines p.names images (names_of p known) h.0.1))
