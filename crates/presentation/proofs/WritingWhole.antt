-- A written presentation is read back.
use Rattle.std.proofs.Common.{◌≡◌, inl, inr, ℕ, ◌<◌, ◌≤◌, ◌==◌, ◌||◌, Bool, true, false, nat_lt, if◌then◌else◌, List, [], ◌∷◌, ◌++◌, length, map, take_while}
use Rattle.std.proofs.Common.{Ok, refl, sym, ap, ◌∙◌, subst, arith, append_assoc, append-nil, codes, decimal}
use Rattle.std.proofs.lemmas.Bool.Decides.{nat_tests}
use Rattle.std.proofs.lemmas.List.{drop_all}
use Rattle.std.specs.List.{AllByRecursion}
use Rattle.free_words.specs.declared.letter.Letter.{Letter}
use Rattle.word_text.specs.Scan.{is_blank, is_letter, is_digit, is_name_byte, is_known, after_blanks, name_at, digits_at, after_digits, mark_byte}
use Rattle.word_text.specs.Machine.{finding}
use Rattle.word_text.proofs.Lexing.{no_blanks}
use Rattle.presentation.specs.declared.TheConstants.{MODULUS}
use Rattle.presentation.specs.Presented.{Presented, IsPresented, IsName, IsModulus, IsWritten}
use Rattle.presentation.specs.Reading.{names_at, relators_at, presentation_at, ending, modulus_number, modulus_at, presentation_text}
use Rattle.presentation.specs.Writing.{led_by, joined, written_word, written_bare, written_modulus, written_presentation}
use Rattle.presentation.proofs.WritingBytes.{taken, IsNumeral, decimal_is}
use Rattle.presentation.proofs.WritingNames.{name_taken, name_left}
use Rattle.presentation.proofs.WritingEnds.{kept, skipped}
use Rattle.presentation.proofs.WritingPowers.{digits_plain, not_zero}
use Rattle.presentation.proofs.WritingTurns.{name_plain}
use Rattle.presentation.proofs.WritingBack.{AreNames, names_of, word_plain, word_first}
use Rattle.presentation.specs.Grammar.{IsPresentation}
use Rattle.presentation.proofs.SoundWhole.{text_sound}
use Rattle.presentation.proofs.WritingLists.{EndsNames, names_after, names_chain, relators_after, relators_chain}

marks_plain : (is_blank 32 ≡ true) × (is_blank 60 ≡ false) × (is_blank 62 ≡ false) × (is_blank 124 ≡ false) × (is_name_byte 32 ≡ false)
    × (is_name_byte 62 ≡ false)
unfolding is_blank is_name_byte is_letter is_digit
marks_plain = (refl, refl, refl, refl, refl, refl)

-- what stands behind the names: `|` and the relators
abbrev bar : List ℕ → List ℕ
bar more = 32 ∷ 124 ∷ 32 ∷ more

after_bar : (more : List ℕ) → after_blanks (bar more) ≡ 124 ∷ 32 ∷ more
after_bar more = skipped 32 (124 ∷ 32 ∷ more) marks_plain.0 ∙ kept 124 (32 ∷ more) marks_plain.3

bar_ends : (more : List ℕ) → EndsNames (bar more)
bar_ends more = record { name = marks_plain.4; comma = rw (after_bar more) refl }

names_read : (names : List (List ℕ)) (more : List ℕ) → AreNames names → 0 < length names → length names ≤ 24
    → names_at (joined (codes ", ") names ++ bar more) ≡ Ok (names, 124 ∷ 32 ∷ more)
unfolding names_at
names_read [] more known some few = absurd (omega arith)
names_read (n ∷ ns) more known some few =
    let e : joined (codes ", ") (n ∷ ns) ++ bar more ≡ n ++ names_after ns (bar more) = append_assoc n (led_by (codes ", ") ns) (bar more) in
    let plain : after_blanks (joined (codes ", ") (n ∷ ns) ++ bar more) ≡ n ++ names_after ns (bar more) =
    ap after_blanks e ∙ name_plain n (names_after ns (bar more)) known.each.0 in
    names_chain 25 [] n ns (joined (codes ", ") (n ∷ ns) ++ bar more) (bar more) known.each known.distinct few (omega arith) (bar_ends more) plain
    ∙ ap (λ (t : List ℕ). Ok (n ∷ ns, t)) (after_bar more)

-- relators between `|` and `>`
abbrev relators_text : List (List ℕ) → List (List Letter) → List ℕ → List ℕ
relators_text names rs rest = joined (codes ", ") (map (written_word names) rs) ++ 62 ∷ rest

relators_read : (names : List (List ℕ)) (rs : List (List Letter)) (rest : List ℕ) → AreNames names → AllByRecursion (IsWritten (length names)) rs
    → length rs ≤ 64 → relators_at (finding names) (32 ∷ relators_text names rs rest) ≡ Ok (rs, 62 ∷ rest)
unfolding relators_at
relators_read names [] rest known h few =
    rw (skipped 32 (62 ∷ rest) marks_plain.0, kept 62 rest marks_plain.2) refl
relators_read names (r ∷ rs) rest known h few =
    let whole : List ℕ = written_word names r ++ relators_after names rs rest in
    let e : relators_text names (r ∷ rs) rest ≡ whole = append_assoc (written_word names r) (led_by (codes ", ") (map (written_word names) rs)) (62 ∷ rest) in
    let plain : after_blanks (32 ∷ whole) ≡ whole = skipped 32 whole marks_plain.0 ∙ word_plain names known r (relators_after names rs rest) h.0.0 in
    rw (e, plain, word_first 62 marks_plain.5 names known r (relators_after names rs rest) h.0.0)
    (relators_chain names known 64 [] r rs (32 ∷ whole) rest h few few plain)

-- a presentation at the head of a text
bare_is : (names : List (List ℕ)) (rs : List (List Letter)) (rest : List ℕ)
    → written_bare names rs ++ rest ≡ 60 ∷ (joined (codes ", ") names ++ bar (relators_text names rs rest))
bare_is names rs rest = simp append_assoc

pub bare_read : (p : Presented) (text rest : List ℕ) → IsPresented p → after_blanks text ≡ written_bare p.names p.relators ++ rest
    → presentation_at text ≡ Ok (record { names = p.names; relators = p.relators; modulus = 0 }, rest)
unfolding presentation_at
bare_read p text rest h e =
    let known = names_of p h in
    let end : List ℕ = relators_text p.names p.relators rest in
    let front : List ℕ = joined (codes ", ") p.names ++ bar end in
    let skipped_to : after_blanks text ≡ 60 ∷ front = e ∙ bare_is p.names p.relators rest in
    rw (skipped_to, names_read p.names end known h.some_name h.few_names, relators_read p.names p.relators rest known h.relators h.few_relators) refl

-- no blank stands at the head of a written presentation
bare_plain : (names : List (List ℕ)) (rs : List (List Letter)) (rest : List ℕ) → after_blanks (written_bare names rs ++ rest) ≡ written_bare names rs ++ rest
bare_plain names rs rest =
    let front : List ℕ = joined (codes ", ") names ++ bar (relators_text names rs rest) in
    rw (bare_is names rs rest) (kept 60 front marks_plain.1)

-- a presentation without a modulus
bare_whole : (p : Presented) → p.modulus ≡ 0 → written_presentation p ≡ written_bare p.names p.relators
bare_whole p z = rw z (append-nil (written_bare p.names p.relators))

pub presentation_read_before : (p : Presented) (text rest : List ℕ) → IsPresented p → p.modulus ≡ 0 → after_blanks text ≡ written_presentation p ++ rest
    → presentation_at text ≡ Ok (p, rest)
presentation_read_before p text rest h z e =
    bare_read p text rest h (e ∙ ap (λ (t : List ℕ). t ++ rest) (bare_whole p z))
    ∙ ap (λ (m : ℕ). let q : Presented = record { names = p.names; relators = p.relators; modulus = m } in Ok (q, rest)) (sym z)

pub presentation_read_first : (p : Presented) (rest : List ℕ) → IsPresented p → p.modulus ≡ 0 → presentation_at (written_presentation p ++ rest) ≡ Ok (p, rest)
presentation_read_first p rest h z =
    presentation_read_before p (written_presentation p ++ rest) rest h z
    (subst (λ (t : List ℕ). after_blanks (t ++ rest) ≡ t ++ rest) (sym (bare_whole p z)) (bare_plain p.names p.relators rest))

-- the word behind which the modulus stands
word_named : (is_blank 109 ≡ false) × IsName (codes "modulus")
unfolding is_blank mark_byte is_letter is_digit is_name_byte is_known name_at
word_named = (refl, (refl, refl))

in_range : (m : ℕ) → 2 ≤ m → m ≤ MODULUS → (nat_lt m 2 || nat_lt MODULUS m) ≡ false
in_range m low high = grind (arith, nat_tests)

whole_number : (ds : List ℕ) (m : ℕ) → IsNumeral m ds → take_while is_digit ds ≡ ds
whole_number ds m h = rw (append-nil ds) at (taken is_digit ds [] h.digits tt)

number_read : (ds : List ℕ) (m : ℕ) → IsNumeral m ds → 2 ≤ m → m ≤ MODULUS → modulus_number ds ≡ Ok m
unfolding modulus_number digits_at after_digits ending
number_read ds m h low high =
    rw (whole_number ds m h, not_zero (length ds) h.some, h.value, in_range m low high, drop_all (length ds) ds (omega arith), no_blanks) refl

named_read : (ds : List ℕ) (m : ℕ) → IsNumeral m ds → 2 ≤ m → m ≤ MODULUS → modulus_at (32 ∷ (codes "modulus" ++ 32 ∷ ds)) ≡ Ok m
unfolding modulus_at
named_read ds m h low high =
    let word : List ℕ = codes "modulus" in
    let text : List ℕ = word ++ 32 ∷ ds in
    let plain : after_blanks (32 ∷ text) ≡ text = skipped 32 text marks_plain.0 ∙ name_plain word (32 ∷ ds) word_named.1 in
    let digits : after_blanks ds ≡ ds = rw (append-nil ds) at (digits_plain ds [] h.some h.digits).0 in
    rw (
      plain,
      not_zero (length text) (omega arith),
      name_taken word (32 ∷ ds) word_named.1 marks_plain.4,
      name_left word (32 ∷ ds) word_named.1 marks_plain.4,
      skipped 32 ds marks_plain.0,
      digits,
    ) (number_read ds m h low high)

is_zero : (m : ℕ) → (m == 0) ≡ true → m ≡ 0
is_zero m e = grind (arith, nat_tests)

none_read : modulus_at [] ≡ Ok 0
unfolding modulus_at
none_read = rw (no_blanks) refl

some_modulus : (m : ℕ) → IsModulus m → (m == 0) ≡ false → (2 ≤ m) × (m ≤ MODULUS)
some_modulus m (inl z) e = absurd (no (rw z at e)) where
  no : (0 == 0) ≡ false → ⊥
  no k = cc
some_modulus m (inr r) e = r

modulus_by : (m : ℕ) → IsModulus m → (t : Bool) → (m == 0) ≡ t → modulus_at (if t then [] else codes " modulus " ++ decimal m) ≡ Ok m
modulus_by m h true e = rw (is_zero m e) none_read
modulus_by m h false e = let r = some_modulus m h e in named_read (decimal m) m (decimal_is m (omega arith)) r.0 r.1

pub modulus_read : (m : ℕ) → IsModulus m → modulus_at (written_modulus m) ≡ Ok m
modulus_read m h = modulus_by m h (m == 0) refl

pub presentation_read : (p : Presented) → IsPresented p → presentation_text (written_presentation p) ≡ Ok p
unfolding presentation_text
presentation_read p h =
    rw (
      bare_read p (written_presentation p) (written_modulus p.modulus) h (bare_plain p.names p.relators (written_modulus p.modulus)),
      modulus_read p.modulus h.modulus,
    ) refl

-- a written presentation is in the grammar
pub presentation_spelled_back : (p : Presented) → IsPresented p → IsPresentation (written_presentation p) p
presentation_spelled_back p h = text_sound (written_presentation p) p (presentation_read p h)
