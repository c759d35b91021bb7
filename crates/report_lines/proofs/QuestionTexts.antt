-- No colon stands in the text of a question.
use Rattle.std.proofs.Common.{◌≡◌, inr, ℕ, suc, ◌<◌, ◌≤◌, ◌^◌, ◌==◌, Bool, true, false, if◌then◌else◌, List, [], ◌∷◌, ◌++◌, length, map, codes, decimal, refl}
use Rattle.std.proofs.Common.{arith}
use Rattle.std.specs.List.{AllByRecursion}
use Rattle.free_words.specs.declared.letter.Letter.{Letter}
use Rattle.spelling.proofs.Lacking.{lacks_append, decimal_lacks}
use Rattle.word_text.specs.Scan.{is_name_byte, is_letter, is_digit}
use Rattle.presentation.specs.declared.runs.Run.{Run}
use Rattle.presentation.specs.Presented.{Presented, IsPresented, IsName, IsWritten}
use Rattle.presentation.specs.Writing.{is_same, once, behind, runs, AreOver, led_by, joined, name_of, written_exponent, written_run, written_word, written_bare}
use Rattle.presentation.specs.Writing.{written_presentation}
use Rattle.presentation.proofs.WritingRuns.{over_runs}
use Rattle.presentation.proofs.WritingNames.{name_passes}
use Rattle.presentation.proofs.WritingBack.{AreNames, names_of}
use Rattle.presentation.proofs.WritingBytes.{Passes}
use Rattle.presentation.proofs.WritingEnds.{name_byte_other}
use Rattle.vector_text.proofs.MonomialTexts.{name_lacks}
use Rattle.session_text.specs.declared.question.Question.{Question}
use Rattle.session_text.specs.declared.question.Question.TheVariants.{Trivial, Equal, Normal, Hom}
use Rattle.session_text.specs.Questions.{IsWritable}
use Rattle.session_text.specs.Writing.{written_question}
use Rattle.report_lines.specs.Parts.{HasNoColon}
use Rattle.report_lines.proofs.Pairs.{literal}

no_name_byte : is_name_byte 58 ≡ false
unfolding is_name_byte is_letter is_digit
no_name_byte = refl

-- ---- words

abbrev AreWithin : ℕ → List Run → Type 0
AreWithin n rs = AllByRecursion (λ (r : Run). r.count ≤ n) rs

wider : (n : ℕ) (rs : List Run) → AreWithin n rs → AreWithin (suc n) rs
wider n [] h = tt
wider n (r ∷ rs) h = (omega (arith, h.0), wider n rs h.1)

within_behind : (n : ℕ) (l : Letter) (rs : List Run) → AreWithin n rs → AreWithin (suc n) (behind l rs)
within_behind n l [] h = (omega arith, tt)
within_behind n l (r ∷ rs) h = by (is_same l r.letter) where
  by : (t : Bool) → AreWithin (suc n) (if t then record { letter = l; count = suc r.count } ∷ rs else once l ∷ r ∷ rs)
  by true = (omega (arith, h.0), wider n rs h.1)
  by false = (omega arith, wider n (r ∷ rs) h)

-- a run is no longer than its word
runs_within : (w : List Letter) → AreWithin (length w) (runs w)
runs_within [] = tt
runs_within (l ∷ ls) = within_behind (length ls) l (runs ls) (runs_within ls)

exponent_lacks : (inv : Bool) (n : ℕ) → n < 2 ^ 128 → HasNoColon (written_exponent inv n)
exponent_lacks true n h = (refl, (refl, decimal_lacks 58 n (inr (omega arith)) h))
exponent_lacks false n h = by (n == 1) where
  by : (t : Bool) → HasNoColon (if t then [] else codes "^" ++ decimal n)
  by true = tt
  by false = (refl, decimal_lacks 58 n (inr (omega arith)) h)

run_lacks : (names : List (List ℕ)) (r : Run) → AreNames names → r.letter.g < length names → r.count < 2 ^ 128 → HasNoColon (written_run names r)
run_lacks names r known lt small =
    lacks_append 58 (name_of names r.letter.g) (written_exponent r.letter.inv r.count) (name_lacks 58 names r.letter.g no_name_byte known lt)
    (exponent_lacks r.letter.inv r.count small)

-- ---- lists

abbrev AllLack : List (List ℕ) → Type 0
AllLack ts = AllByRecursion HasNoColon ts

led_lacks : (separator : List ℕ) (ts : List (List ℕ)) → HasNoColon separator → AllLack ts → HasNoColon (led_by separator ts)
led_lacks separator [] h k = tt
led_lacks separator (t ∷ ts) h k = lacks_append 58 (separator ++ t) (led_by separator ts) (lacks_append 58 separator t h k.0) (led_lacks separator ts h k.1)

joined_lacks : (separator : List ℕ) (ts : List (List ℕ)) → HasNoColon separator → AllLack ts → HasNoColon (joined separator ts)
joined_lacks separator [] h k = tt
joined_lacks separator (t ∷ ts) h k = lacks_append 58 t (led_by separator ts) k.0 (led_lacks separator ts h k.1)

runs_lack : (names : List (List ℕ)) (n : ℕ) (rs : List Run) → AreNames names → AreOver (length names) rs → AreWithin n rs → n < 2 ^ 128
    → AllLack (map (written_run names) rs)
runs_lack names n [] known over within small = tt
runs_lack names n (r ∷ rs) known over within small = (
  run_lacks names r known over.0 (omega (arith, within.0)),
  runs_lack names n rs known over.1 within.1 small,
)

word_lacks : (names : List (List ℕ)) (w : List Letter) → AreNames names → IsWritten (length names) w → HasNoColon (written_word names w)
word_lacks names [] known h = (refl, tt)
word_lacks names (l ∷ ls) known h =
    joined_lacks (32 ∷ []) (map (written_run names) (runs (l ∷ ls))) (refl, tt)
    (runs_lack names (length (l ∷ ls)) (runs (l ∷ ls)) known (over_runs (length names) (l ∷ ls) h.0) (runs_within (l ∷ ls)) (omega (arith, h.1)))

words_lack : (names : List (List ℕ)) (ws : List (List Letter)) → AreNames names → AllByRecursion (IsWritten (length names)) ws
    → AllLack (map (written_word names) ws)
words_lack names [] known h = tt
words_lack names (w ∷ ws) known h = (word_lacks names w known h.0, words_lack names ws known h.1)

name_bytes : (n : List ℕ) → Passes is_name_byte n → HasNoColon n
name_bytes [] h = tt
name_bytes (b ∷ bs) h = (name_byte_other b 58 h.0 no_name_byte, name_bytes bs h.1)

names_lack : (ns : List (List ℕ)) → AllByRecursion IsName ns → AllLack ns
names_lack [] h = tt
names_lack (n ∷ ns) h = (name_bytes n (name_passes n h.0), names_lack ns h.1)

-- ---- presentations and questions

presentation_lacks : (p : Presented) → IsPresented p → p.modulus ≡ 0 → HasNoColon (written_presentation p)
presentation_lacks p h none =
    let names : List ℕ = joined (codes ", ") p.names in
    let relators : List ℕ = joined (codes ", ") (map (written_word p.names) p.relators) in
    let names_lack : HasNoColon names = joined_lacks (codes ", ") p.names (literal 58 (codes ", ") refl) (names_lack p.names h.names) in
    let relators_lack : HasNoColon relators = joined_lacks (codes ", ") (map (written_word p.names) p.relators) (literal 58 (codes ", ") refl)
    (words_lack p.names p.relators (names_of p h) h.relators) in
    let head : HasNoColon (codes "<" ++ names) = lacks_append 58 (codes "<") names (refl, tt) names_lack in
    let middle : HasNoColon (codes "<" ++ names ++ codes " | ") = lacks_append 58 (codes "<" ++ names) (codes " | ") head (literal 58 (codes " | ") refl) in
    let front : HasNoColon (codes "<" ++ names ++ codes " | " ++ relators) =
    lacks_append 58 (codes "<" ++ names ++ codes " | ") relators middle relators_lack in
    let bare : HasNoColon (written_bare p.names p.relators) = lacks_append 58 (codes "<" ++ names ++ codes " | " ++ relators) (codes ">") front (refl, tt) in
    rw none (lacks_append 58 (written_bare p.names p.relators) [] bare tt)

pub question_lacks : (p : Presented) → IsPresented p → (q : Question) → IsWritable p q → HasNoColon (written_question p.names q)
question_lacks p known (Trivial w) h =
    lacks_append 58 (codes "trivial ") (written_word p.names w) (literal 58 (codes "trivial ") refl) (word_lacks p.names w (names_of p known) (h.0).1)
question_lacks p known (Equal u v) h =
    let head : HasNoColon (codes "equal " ++ written_word p.names u) =
    lacks_append 58 (codes "equal ") (written_word p.names u) (literal 58 (codes "equal ") refl) (word_lacks p.names u (names_of p known) ((h.0).1).0) in
    let front : HasNoColon (codes "equal " ++ written_word p.names u ++ codes " = ") =
    lacks_append 58 (codes "equal " ++ written_word p.names u) (codes " = ") head (literal 58 (codes " = ") refl) in
    lacks_append 58 (codes "equal " ++ written_word p.names u ++ codes " = ") (written_word p.names v) front
    (word_lacks p.names v (names_of p known) ((h.0).1).1)
question_lacks p known (Normal w) h =
    lacks_append 58 (codes "normal ") (written_word p.names w) (literal 58 (codes "normal ") refl) (word_lacks p.names w (names_of p known) (h.0).1)
question_lacks p known (Hom source images) h =
    let head : HasNoColon (codes "hom " ++ written_presentation source) =
    lacks_append 58 (codes "hom ") (written_presentation source) (literal 58 (codes "hom ") refl) (presentation_lacks source h.1 ((h.0).0).1) in
    let front : HasNoColon (codes "hom " ++ written_presentation source ++ codes " -> ") =
    lacks_append 58 (codes "hom " ++ written_presentation source) (codes " -> ") head (literal 58 (codes " -> ") refl) in
    lacks_append 58 (codes "hom " ++ written_presentation source ++ codes " -> ") (joined (codes ", ") (map (written_word p.names) images)) front
    (joined_lacks (codes ", ") (map (written_word p.names) images) (literal 58 (codes ", ") refl) (words_lack p.names images (names_of p known) (h.0).1))
