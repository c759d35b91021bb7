-- A written word is read back.
use Rattle.std.proofs.Common.{IsTrue, ◌≡◌, ℕ, zero, suc, ◌<◌, ◌≤◌, Bool, true, false, List, [], ◌∷◌, ◌++◌, length, map, Ok, refl, ap, ◌∙◌, arith, append_assoc}
use Rattle.std.proofs.Common.{append-nil, length-append, codes}
use Rattle.std.specs.List.{AllByRecursion}
use Rattle.free_words.specs.declared.letter.Letter.{Letter}
use Rattle.free_words.specs.Words.{IsOver, copies}
use Rattle.word_text.specs.declared.scan.Mark.TheVariants as marks
use Rattle.word_text.specs.declared.machine.Spot.{Spot}
use Rattle.word_text.specs.declared.machine.Spot.TheVariants.{Start, After}
use Rattle.word_text.specs.Scan.{first_is, is_blank, is_letter, is_digit, is_name_byte, is_known, after_blanks, mark_byte}
use Rattle.word_text.specs.Powers.{written, powers_within}
use Rattle.word_text.specs.Machine.{Find, finding, goes_on, factor_ends, turn, word_from, word_at, word_within}
use Rattle.word_text.specs.Place.{word_text, text_within}
use Rattle.word_text.specs.Grammar.{IsWord}
use Rattle.word_text.proofs.Lexing.{no_blanks, blanks_once}
use Rattle.word_text.proofs.Reached.{text_spelled}
use Rattle.presentation.specs.declared.runs.Run.{Run}
use Rattle.presentation.specs.Presented.{Presented, IsPresented, IsWritten, IsName, AreDistinct}
use Rattle.presentation.specs.Writing.{AreOver, is_same, behind, runs, name_of, written_exponent, written_run, written_word, led_by, joined, ends_word}
use Rattle.presentation.proofs.WritingRuns.{over_runs, runs_first, same_letter}
use Rattle.presentation.proofs.WritingNames.{name_holds, name_found}
use Rattle.presentation.proofs.WritingEnds.{hat_no_name, one_named, name_byte_other, skips_le, kept, skipped, Apart, Ends, ends_from}
use Rattle.presentation.proofs.WritingPowers.{no_power}
use Rattle.presentation.proofs.WritingTurns.{letters_of, expanded, at, run_text, name_plain, name_first, run_step, run_longer, word_ends}

-- names as a presentation has them
pub record AreNames (names : List (List ℕ)) : Type 0 where
  pub each : AllByRecursion IsName names
  pub distinct : AreDistinct names

abbrev more : List (List ℕ) → List Run → List ℕ → List ℕ
more names rs rest = led_by (codes " ") (map (written_run names) rs) ++ rest

abbrev text_of : List (List ℕ) → Run → List ℕ → List ℕ
text_of names r rest = run_text (name_of names r.letter.g) r rest

space : (is_blank 32 ≡ true) × (is_name_byte 32 ≡ false)
unfolding is_blank is_name_byte is_letter is_digit
space = (refl, refl)

-- a run behind a space
after_space : (names : List (List ℕ)) (r : Run) (rest : List ℕ) → IsName (name_of names r.letter.g)
    → after_blanks (32 ∷ text_of names r rest) ≡ text_of names r rest
after_space names r rest h =
    skipped 32 (text_of names r rest) space.0 ∙ name_plain (name_of names r.letter.g) (written_exponent r.letter.inv r.count ++ rest) h

apart_space : (names : List (List ℕ)) (r : Run) (rest : List ℕ) → IsName (name_of names r.letter.g) → Apart (32 ∷ text_of names r rest)
apart_space names r rest h = record {
  name = space.1;
  power = rw (after_space names r rest h) (name_first 94 hat_no_name (name_of names r.letter.g) (written_exponent r.letter.inv r.count ++ rest) h);
}

more_is : (names : List (List ℕ)) (r : Run) (rs : List Run) (rest : List ℕ) → more names (r ∷ rs) rest ≡ 32 ∷ text_of names r (more names rs rest)
more_is names r rs rest = simp append_assoc

pub chain : (names : List (List ℕ)) (known : AreNames names) (r : Run) (rs : List Run) (outer : List Letter) (spot : Spot) (rest : List ℕ) (fuel : ℕ)
    → AreOver (length names) (r ∷ rs) → length (outer ++ expanded (r ∷ rs)) ≤ written → Ends rest → length (text_of names r (more names rs rest)) < fuel
    → word_from written fuel (finding names) (at outer spot) (text_of names r (more names rs rest)) ≡ Ok (outer ++ expanded (r ∷ rs), after_blanks rest)
chain names known r rs outer spot rest zero over le ends lt = absurd (omega arith)
chain names known r [] outer spot rest (suc fuel) over le ends lt =
    let h = name_holds IsName names r.letter.g known.each over.0 in
    let f = name_found names r.letter.g known.distinct over.0 in
    let short : length (outer ++ letters_of r) ≤ written = rw (append-nil (letters_of r)) at le in
    run_step (finding names) (name_of names r.letter.g) r outer spot rest fuel h f short ends.apart
    ∙ rw (append-nil (letters_of r)) (word_ends (finding names) fuel (outer ++ letters_of r) rest
    (omega (arith, run_longer (name_of names r.letter.g) r rest h)) ends)
chain names known r (q ∷ rs) outer spot rest (suc fuel) over le ends lt =
    let h = name_holds IsName names r.letter.g known.each over.0 in
    let f = name_found names r.letter.g known.distinct over.0 in
    let k = name_holds IsName names q.letter.g known.each over.1.0 in
    let next : List ℕ = text_of names q (more names rs rest) in
    let assoc : (outer ++ letters_of r) ++ expanded (q ∷ rs) ≡ outer ++ expanded (r ∷ q ∷ rs) = append_assoc outer (letters_of r) (expanded (q ∷ rs)) in
    let all : length ((outer ++ letters_of r) ++ expanded (q ∷ rs)) ≤ written = rw assoc le in
    let short : length (outer ++ letters_of r) ≤ written = omega (arith, all, length-append (outer ++ letters_of r) (expanded (q ∷ rs))) in
    let lt' : length (text_of names r (32 ∷ next)) < suc fuel = rw (more_is names q rs rest) at lt in
    let room : length next < fuel = omega (arith, lt', run_longer (name_of names r.letter.g) r (32 ∷ next) h) in
    rw (more_is names q rs rest)
    (run_step (finding names) (name_of names r.letter.g) r outer spot (32 ∷ next) fuel h f short (apart_space names q (more names rs rest) k)
    ∙ rw (after_space names q (more names rs rest) k, ← assoc) (chain names known q rs (outer ++ letters_of r) After rest fuel over.1 all ends room))

-- blanks at the head are skipped
skips : (find : Find) (fuel : ℕ) (text bs : List ℕ) → after_blanks text ≡ bs → 0 < fuel
    → word_from written fuel find (at [] Start) text ≡ word_from written fuel find (at [] Start) bs
unfolding word_from turn
skips find zero text bs e lt = absurd (omega arith)
skips find (suc fuel) text bs e lt = rw (← e, blanks_once text) refl

fits : (text bs : List ℕ) → after_blanks text ≡ bs → length bs < suc (length text)
fits text bs e = omega (arith, skips_le text, ap length e)

-- runs are read at the head of a text, behind blanks
runs_read : (names : List (List ℕ)) (known : AreNames names) (rs : List Run) (text rest : List ℕ) → 0 < length rs → AreOver (length names) rs
    → length (expanded rs) ≤ written → Ends rest → after_blanks text ≡ joined (codes " ") (map (written_run names) rs) ++ rest
    → word_at (finding names) text ≡ Ok (expanded rs, after_blanks rest)
unfolding word_within
runs_read names known [] text rest some over le ends e = absurd (omega arith)
runs_read names known (r ∷ rs) text rest some over le ends e =
    let whole : List ℕ = text_of names r (more names rs rest) in
    let e' : after_blanks text ≡ whole = e ∙ simp append_assoc in
    skips (finding names) (suc (length text)) text whole e' (omega arith)
    ∙ chain names known r rs [] Start rest (suc (length text)) over le ends (fits text whole e')

copies_front : (n : ℕ) (l : Letter) → copies n (l ∷ []) ++ l ∷ [] ≡ l ∷ copies n (l ∷ [])
copies_front zero l = refl
copies_front (suc n) l = ap (λ (w : List Letter). w ++ l ∷ []) (copies_front n l)

expanded_by : (l : Letter) (r : Run) (rs : List Run) (t : Bool) → is_same l r.letter ≡ t → expanded (behind l (r ∷ rs)) ≡ l ∷ expanded (r ∷ rs)
expanded_by l r rs true e =
    let same : l ≡ r.letter = same_letter l r.letter e in
    rw (e, copies_front r.count l) (ap (λ (m : Letter). l ∷ (copies r.count (m ∷ []) ++ expanded rs)) same)
expanded_by l r rs false e = rw e refl

expanded_behind : (l : Letter) (rs : List Run) → expanded (behind l rs) ≡ l ∷ expanded rs
expanded_behind l [] = refl
expanded_behind l (r ∷ rs) = expanded_by l r rs (is_same l r.letter) refl

-- the runs of a word make the word
pub expanded_runs : (w : List Letter) → expanded (runs w) ≡ w
expanded_runs [] = refl
expanded_runs (l ∷ ls) = expanded_behind l (runs ls) ∙ ap (λ (w : List Letter). l ∷ w) (expanded_runs ls)

some_run : (l : Letter) (ls : List Letter) → 0 < length (runs (l ∷ ls))
some_run l ls = rw (runs_first l ls) (omega arith)

one : (is_blank 49 ≡ false) × (mark_byte 49 ≡ marks.One)
unfolding is_blank mark_byte is_letter is_known is_name_byte is_digit
one = (refl, refl)

-- `1` is the empty word
one_turn : (find : Find) (rest : List ℕ) → Ends rest → turn written find (at [] Start) (49 ∷ rest) ≡ goes_on [] [] After (after_blanks rest)
unfolding turn factor_ends powers_within
one_turn find rest ends =
    rw (kept 49 rest one.0, one.1, no_power (suc (length (after_blanks rest))) (length (49 ∷ rest)) [] (after_blanks rest) (omega arith) ends.apart.power) refl

one_read : (find : Find) (text rest : List ℕ) → Ends rest → after_blanks text ≡ 49 ∷ rest → word_at find text ≡ Ok ([], after_blanks rest)
unfolding word_within word_from
one_read find text rest ends e =
    skips find (suc (length text)) text (49 ∷ rest) e (omega arith)
    ∙ rw (one_turn find rest ends) (word_ends find (length text) [] rest (omega (arith, fits text (49 ∷ rest) e)) ends)

-- a written word is read at the head of a text, behind blanks
pub word_read : (names : List (List ℕ)) → AreNames names → (w : List Letter) (text rest : List ℕ) → IsOver (length names) w → length w ≤ written
    → Ends rest → after_blanks text ≡ written_word names w ++ rest → word_at (finding names) text ≡ Ok (w, after_blanks rest)
word_read names known [] text rest over le ends e = one_read (finding names) text rest ends e
word_read names known (l ∷ ls) text rest over le ends e =
    let same = expanded_runs (l ∷ ls) in
    let le' : length (expanded (runs (l ∷ ls))) ≤ written = rw same le in
    runs_read names known (runs (l ∷ ls)) text rest (some_run l ls) (over_runs (length names) (l ∷ ls) over) le' ends e
    ∙ ap (λ (w : List Letter). Ok (w, after_blanks rest)) same

runs_plain : (names : List (List ℕ)) (known : AreNames names) (rs : List Run) (rest : List ℕ) → 0 < length rs → AreOver (length names) rs
    → after_blanks (joined (codes " ") (map (written_run names) rs) ++ rest) ≡ joined (codes " ") (map (written_run names) rs) ++ rest
runs_plain names known [] rest some over = absurd (omega arith)
runs_plain names known (r ∷ rs) rest some over =
    let more_text : List ℕ = written_exponent r.letter.inv r.count ++ more names rs rest in
    let same : joined (codes " ") (map (written_run names) (r ∷ rs)) ++ rest ≡ name_of names r.letter.g ++ more_text = simp append_assoc in
    rw same (name_plain (name_of names r.letter.g) more_text (name_holds IsName names r.letter.g known.each over.0))

-- no blank stands at the head of a written word
pub word_plain : (names : List (List ℕ)) → AreNames names → (w : List Letter) (rest : List ℕ) → IsOver (length names) w
    → after_blanks (written_word names w ++ rest) ≡ written_word names w ++ rest
word_plain names known [] rest over = kept 49 rest one.0
word_plain names known (l ∷ ls) rest over = runs_plain names known (runs (l ∷ ls)) rest (some_run l ls) (over_runs (length names) (l ∷ ls) over)

runs_first_byte : (c : ℕ) → is_name_byte c ≡ false → (names : List (List ℕ)) (known : AreNames names) (rs : List Run) (rest : List ℕ) → 0 < length rs
    → AreOver (length names) rs → first_is c (joined (codes " ") (map (written_run names) rs) ++ rest) ≡ false
runs_first_byte c o names known [] rest some over = absurd (omega arith)
runs_first_byte c o names known (r ∷ rs) rest some over =
    let more_text : List ℕ = written_exponent r.letter.inv r.count ++ more names rs rest in
    let same : joined (codes " ") (map (written_run names) (r ∷ rs)) ++ rest ≡ name_of names r.letter.g ++ more_text = simp append_assoc in
    rw same (name_first c o (name_of names r.letter.g) more_text (name_holds IsName names r.letter.g known.each over.0))

-- a written word begins with a byte of a name
pub word_first : (c : ℕ) → is_name_byte c ≡ false → (names : List (List ℕ)) → AreNames names → (w : List Letter) (rest : List ℕ) → IsOver (length names) w
    → first_is c (written_word names w ++ rest) ≡ false
word_first c o names known [] rest over = name_byte_other 49 c one_named o
word_first c o names known (l ∷ ls) rest over =
    runs_first_byte c o names known (runs (l ∷ ls)) rest (some_run l ls) (over_runs (length names) (l ∷ ls) over)

no_rest : Ends []
no_rest = ends_from [] refl

-- a written word that is the whole text is read
pub whole_read : (names : List (List ℕ)) → AreNames names → (w : List Letter) → IsOver (length names) w → length w ≤ written
    → word_text (finding names) (written_word names w) ≡ Ok w
unfolding text_within
whole_read names known w over le =
    let e = word_read names known w (written_word names w ++ []) [] over le no_rest (word_plain names known w [] over) in
    let k : word_at (finding names) (written_word names w) ≡ Ok (w, after_blanks []) = rw (append-nil (written_word names w)) at e in
    rw (k, no_blanks) refl

-- the names of a presentation
pub names_of : (p : Presented) → IsPresented p → AreNames p.names
names_of p h = record { each = h.names; distinct = h.distinct }

pub word_read_back : (p : Presented) (w : List Letter) → IsPresented p → IsWritten (length p.names) w
    → word_text (finding p.names) (written_word p.names w) ≡ Ok w
word_read_back p w h k = whole_read p.names (names_of p h) w k.0 k.1

pub word_spelled_back : (p : Presented) (w : List Letter) → IsPresented p → IsWritten (length p.names) w
    → IsWord (finding p.names) (written_word p.names w) w
word_spelled_back p w h k = text_spelled (finding p.names) (written_word p.names w) w (word_read_back p w h k)

pub word_read_before : (p : Presented) (w : List Letter) (text rest : List ℕ) → IsPresented p → IsWritten (length p.names) w → IsTrue (ends_word rest)
    → after_blanks text ≡ written_word p.names w ++ rest → word_at (finding p.names) text ≡ Ok (w, after_blanks rest)
word_read_before p w text rest h k e s = word_read p.names (names_of p h) w text rest k.0 k.1 (ends_from rest e) s

pub word_read_first : (p : Presented) (w : List Letter) (rest : List ℕ) → IsPresented p → IsWritten (length p.names) w → IsTrue (ends_word rest)
    → word_at (finding p.names) (written_word p.names w ++ rest) ≡ Ok (w, after_blanks rest)
word_read_first p w rest h k e = word_read_before p w (written_word p.names w ++ rest) rest h k e (word_plain p.names (names_of p h) w rest k.0)
