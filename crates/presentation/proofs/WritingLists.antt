-- Written names and relators are read one after another.
use Rattle.std.proofs.Common.{◌≡◌, ℕ, zero, suc, ◌<◌, ◌≤◌, true, false, nat_le, List, [], ◌∷◌, ◌++◌, length, map, Contains, Ok, refl, ap, ◌∙◌, arith}
use Rattle.std.proofs.Common.{append_assoc, length-append, codes}
use Rattle.std.proofs.lemmas.Bool.Decides.{nat_tests}
use Rattle.std.proofs.lemmas.List.Elements.{Contains-append_right}
use Rattle.std.specs.List.{AllByRecursion, list_any}
use Rattle.std.specs.Str.{bytes_eq}
use Rattle.free_words.specs.declared.letter.Letter.{Letter}
use Rattle.free_words.specs.declared.TheConstants.{GENERATORS}
use Rattle.word_text.specs.Scan.{is_blank, is_letter, is_digit, is_name_byte, after_blanks, first_is}
use Rattle.word_text.specs.Machine.{finding}
use Rattle.presentation.specs.declared.TheConstants.{RELATORS}
use Rattle.presentation.specs.Presented.{IsName, AreDistinct, IsWritten}
use Rattle.presentation.specs.Reading.{name_behind, names_from, relator_at, relators_from}
use Rattle.presentation.specs.Writing.{led_by, written_word}
use Rattle.presentation.proofs.WritingBytes.{Stops}
use Rattle.presentation.proofs.WritingNames.{other, name_marked, name_taken, name_left}
use Rattle.presentation.proofs.WritingEnds.{kept, skipped, ends_from}
use Rattle.presentation.proofs.WritingTurns.{name_plain}
use Rattle.presentation.proofs.WritingBack.{AreNames, word_read, word_plain}
use Rattle.presentation.proofs.WritingFollows.{comma_ends, angle_ends}

marks_plain : (is_blank 32 ≡ true) × (is_blank 44 ≡ false) × (is_blank 62 ≡ false) × (is_name_byte 44 ≡ false)
unfolding is_blank is_name_byte is_letter is_digit
marks_plain = (refl, refl, refl, refl)

-- a name differs from those before it
not_first : (n x : List ℕ) (xs ns : List (List ℕ)) → (Contains (xs ++ n ∷ ns) x → ⊥) → bytes_eq n x ≡ false
not_first n x xs ns free = other n x (λ e. free (rw (← e) (Contains-append_right xs (n ∷ ns) n (0, omega arith, refl))))

pub not_seen : (seen : List (List ℕ)) (n : List ℕ) (ns : List (List ℕ)) → AreDistinct (seen ++ n ∷ ns) → list_any (bytes_eq n) seen ≡ false
not_seen [] n ns d = refl
not_seen (x ∷ xs) n ns d = rw (not_first n x xs ns d.0) (not_seen xs n ns d.1)

room : (m : ℕ) (seen : List (List ℕ)) → length seen < m → nat_le m (length seen) ≡ false
room m seen lt = grind (arith, nat_tests)

-- a name behind others
pub name_new : (seen : List (List ℕ)) (n text more : List ℕ) → IsName n → Stops is_name_byte more → length seen < GENERATORS
    → list_any (bytes_eq n) seen ≡ false
    → after_blanks text ≡ n ++ more → name_behind seen text ≡ Ok (n, after_blanks more)
unfolding name_behind
name_new seen n text more h s lt fresh e =
    rw (e, name_marked n more h, room GENERATORS seen lt, name_taken n more h s, fresh, name_left n more h s) refl

-- no name and no comma follows
pub record EndsNames (rest : List ℕ) : Type 0 where
  pub name : Stops is_name_byte rest
  pub comma : first_is 44 (after_blanks rest) ≡ false

abbrev pub names_after : List (List ℕ) → List ℕ → List ℕ
names_after ns rest = led_by (codes ", ") ns ++ rest

after_comma : (n : List ℕ) (ns : List (List ℕ)) (rest : List ℕ) → names_after (n ∷ ns) rest ≡ 44 ∷ 32 ∷ (n ++ names_after ns rest)
after_comma n ns rest = simp append_assoc

pub names_chain : (fuel : ℕ) (seen : List (List ℕ)) (n : List ℕ) (ns : List (List ℕ)) (text rest : List ℕ) → AllByRecursion IsName (n ∷ ns)
    → AreDistinct (seen ++ n ∷ ns) → length (seen ++ n ∷ ns) ≤ GENERATORS → length (n ∷ ns) ≤ fuel → EndsNames rest
    → after_blanks text ≡ n ++ names_after ns rest → names_from fuel seen text ≡ Ok (seen ++ n ∷ ns, after_blanks rest)
unfolding names_from
names_chain zero seen n ns text rest h d few le ends e = absurd (omega arith)
names_chain (suc fuel) seen n [] text rest h d few le ends e =
    let lt : length seen < GENERATORS = omega (arith, few, length-append seen (n ∷ [])) in
    rw (name_new seen n text rest h.0 ends.name lt (not_seen seen n [] d) e, ends.comma) refl
names_chain (suc fuel) seen n (m ∷ ms) text rest h d few le ends e =
    let lt : length seen < GENERATORS = omega (arith, few, length-append seen (n ∷ m ∷ ms)) in
    let next : List ℕ = m ++ names_after ms rest in
    let e' : after_blanks text ≡ n ++ (44 ∷ 32 ∷ next) = e ∙ ap (λ (t : List ℕ). n ++ t) (after_comma m ms rest) in
    let assoc : (seen ++ n ∷ []) ++ m ∷ ms ≡ seen ++ n ∷ m ∷ ms = append_assoc seen (n ∷ []) (m ∷ ms) in
    let next_plain : after_blanks (32 ∷ next) ≡ next = skipped 32 next marks_plain.0 ∙ name_plain m (names_after ms rest) h.1.0 in
    rw (name_new seen n text (44 ∷ 32 ∷ next) h.0 marks_plain.3 lt (not_seen seen n (m ∷ ms) d) e', kept 44 (32 ∷ next) marks_plain.1)
    (names_chain fuel (seen ++ n ∷ []) m ms (32 ∷ next) rest h.1 (rw assoc d) (rw assoc few) (omega arith) ends next_plain
    ∙ ap (λ (ns : List (List ℕ)). Ok (ns, after_blanks rest)) assoc)

-- relators with `>` behind them
abbrev pub relators_after : List (List ℕ) → List (List Letter) → List ℕ → List ℕ
relators_after names rs rest = led_by (codes ", ") (map (written_word names) rs) ++ 62 ∷ rest

relators_comma : (names : List (List ℕ)) (r : List Letter) (rs : List (List Letter)) (rest : List ℕ)
    → relators_after names (r ∷ rs) rest ≡ 44 ∷ 32 ∷ (written_word names r ++ relators_after names rs rest)
relators_comma names r rs rest = simp append_assoc

-- a written word is a relator where a comma follows, or `>`
relator_before_comma : (names : List (List ℕ)) → AreNames names → (r : List Letter) (text rest : List ℕ) → IsWritten (length names) r
    → after_blanks text ≡ written_word names r ++ 44 ∷ rest → relator_at (finding names) text ≡ Ok (r, 44 ∷ rest)
unfolding relator_at
relator_before_comma names known r text rest h e =
    rw (word_read names known r text (44 ∷ rest) h.0 h.1 (ends_from (44 ∷ rest) (comma_ends rest)) e, kept 44 rest marks_plain.1) refl

relator_before_angle : (names : List (List ℕ)) → AreNames names → (r : List Letter) (text rest : List ℕ) → IsWritten (length names) r
    → after_blanks text ≡ written_word names r ++ 62 ∷ rest → relator_at (finding names) text ≡ Ok (r, 62 ∷ rest)
unfolding relator_at
relator_before_angle names known r text rest h e =
    rw (word_read names known r text (62 ∷ rest) h.0 h.1 (ends_from (62 ∷ rest) (angle_ends rest)) e, kept 62 rest marks_plain.2) refl

room_more : (before : List (List Letter)) (r q : List Letter) (rs : List (List Letter)) → length (before ++ r ∷ q ∷ rs) ≤ RELATORS
    → nat_le RELATORS (length (before ++ r ∷ [])) ≡ false
room_more before r q rs few =
    let lt : length (before ++ r ∷ []) < RELATORS = omega (arith, few, length-append before (r ∷ q ∷ rs), length-append before (r ∷ [])) in
    grind (arith, nat_tests)

pub relators_chain : (names : List (List ℕ)) (known : AreNames names) (fuel : ℕ) (before : List (List Letter)) (r : List Letter) (rs : List (List Letter))
    (text rest : List ℕ) → AllByRecursion (IsWritten (length names)) (r ∷ rs) → length (before ++ r ∷ rs) ≤ RELATORS → length (r ∷ rs) ≤ fuel
    → after_blanks text ≡ written_word names r ++ relators_after names rs rest
    → relators_from fuel (finding names) before text ≡ Ok (before ++ r ∷ rs, 62 ∷ rest)
unfolding relators_from
relators_chain names known zero before r rs text rest h few le e = absurd (omega arith)
relators_chain names known (suc fuel) before r [] text rest h few le e =
    rw (relator_before_angle names known r text rest h.0 e) refl
relators_chain names known (suc fuel) before r (q ∷ qs) text rest h few le e =
    let next : List ℕ = written_word names q ++ relators_after names qs rest in
    let e' : after_blanks text ≡ written_word names r ++ 44 ∷ 32 ∷ next = e ∙ ap (λ (t : List ℕ). written_word names r ++ t) (relators_comma names q qs rest) in
    let assoc : (before ++ r ∷ []) ++ q ∷ qs ≡ before ++ r ∷ q ∷ qs = append_assoc before (r ∷ []) (q ∷ qs) in
    let next_plain : after_blanks (32 ∷ next) ≡ next = skipped 32 next marks_plain.0 ∙ word_plain names known q (relators_after names qs rest) h.1.0.0 in
    rw (relator_before_comma names known r text (32 ∷ next) h.0 e', room_more before r q qs few)
    (relators_chain names known fuel (before ++ r ∷ []) q qs (32 ∷ next) rest h.1 (rw assoc few) (omega arith) next_plain
    ∙ ap (λ (rs : List (List Letter)). Ok (rs, 62 ∷ rest)) assoc)
