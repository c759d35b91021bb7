-- What is in the grammar is read.
use Rattle.std.proofs.Common.{◌≡◌, ◌==◌, ◌||◌, ℕ, zero, suc, ◌+◌, ◌<◌, ◌≤◌, true, false, nat_le, nat_lt, List, [], ◌∷◌, ◌++◌, length, drop, Ok, refl, ◌∙◌, ap}
use Rattle.std.proofs.Common.{append_assoc, length-append, codes, arith}
use Rattle.std.specs.List.{list_any}
use Rattle.std.specs.Str.{bytes_eq}
use Rattle.std.proofs.lemmas.Bool.Decides.{nat_tests}
use Rattle.std.proofs.lemmas.Slice.Eq.{bytes_eq-Decides}
use Rattle.free_words.specs.declared.letter.Letter.{Letter}
use Rattle.free_words.specs.declared.TheConstants.{GENERATORS}
use Rattle.word_text.specs.Scan.{first_is, after_blanks, name_at, after_name, digits_at, after_digits, number}
use Rattle.word_text.specs.Machine.{Find, finding}
use Rattle.presentation.specs.declared.TheConstants.{RELATORS, MODULUS}
use Rattle.presentation.specs.Presented.{Presented, AreDistinct}
use Rattle.presentation.specs.Reading.{new_name, name_behind, names_from, names_at, equation_at, relator_at, relators_from, relators_at, presentation_at}
use Rattle.presentation.specs.Reading.{ending, modulus_number, modulus_at, presentation_text}
use Rattle.presentation.specs.Grammar.{NameAt, NamesAt, RelatorAt, SomeRelatorsAt, RelatorsAt, PresentationAt, ModulusAt, IsPresentation}
use Rattle.presentation.proofs.Distinct.{distinct_before}
use Rattle.presentation.proofs.Quotients.{quotient_again}
use Rattle.presentation.proofs.WordAgain.{Shuts, comma, equals, greater, word_again}

-- a byte stands first in one way
other_byte : (b c : ℕ) (bs : List ℕ) → (b == c) ≡ false → first_is b bs ≡ true → first_is c bs ≡ false
other_byte b c [] n e = cc
other_byte b c (x ∷ xs) n e = grind (arith, nat_tests)

room_left : (m n : ℕ) → n < m → nat_le m n ≡ false
room_left m n lt = grind (arith, nat_tests)

-- a name is read behind others
new_again : (seen : List (List ℕ)) (bs : List ℕ) → length seen < GENERATORS → list_any (bytes_eq (name_at bs)) seen ≡ false
    → new_name seen bs ≡ Ok (name_at bs, after_name bs)
new_again seen bs lt e = rw (room_left GENERATORS (length seen) lt, e) refl

name_again : (seen : List (List ℕ)) (bs name rest : List ℕ) → NameAt bs name rest → length seen < GENERATORS → list_any (bytes_eq name) seen ≡ false
    → name_behind seen bs ≡ Ok (name, rest)
unfolding name_behind
name_again seen bs name rest h lt e =
    rw (h.begins, new_again seen (after_blanks bs) lt (rw (h.is) at e)) (ap Ok (cc (h.is, h.leaves)))

names_again : (new seen : List (List ℕ)) (n : ℕ) (bs rest : List ℕ) → NamesAt bs new rest → first_is 44 rest ≡ false → n + length seen ≡ suc GENERATORS
    → length (seen ++ new) ≤ GENERATORS → AreDistinct (seen ++ new) → names_from n seen bs ≡ Ok (seen ++ new, rest)
unfolding names_from
names_again [] seen n bs rest h f room few d = absurd h
names_again (x ∷ []) seen zero bs rest h f room few d = absurd (omega (arith, length-append seen (x ∷ [])))
names_again (x ∷ []) seen (suc n) bs rest h f room few d =
    rw (name_again seen bs x rest h (omega (arith, length-append seen (x ∷ []))) (distinct_before seen [] x d), f) refl
names_again (x ∷ m ∷ ns) seen zero bs rest h f room few d = absurd (omega (arith, length-append seen (x ∷ m ∷ ns)))
names_again (x ∷ m ∷ ns) seen (suc n) bs rest h f room few d =
    let same : (seen ++ x ∷ []) ++ (m ∷ ns) ≡ seen ++ (x ∷ m ∷ ns) = append_assoc seen (x ∷ []) (m ∷ ns) in
    let here : name_behind seen bs ≡ Ok (x, h.0) =
    name_again seen bs x h.0 h.1 (omega (arith, length-append seen (x ∷ m ∷ ns))) (distinct_before seen (m ∷ ns) x d) in
    rw (here, h.2) (names_again (m ∷ ns) (seen ++ x ∷ []) n (drop 1 h.0) rest h.3 f (omega (arith, length-append seen (x ∷ [])))
    (rw same few) (rw same d) ∙ ap (λ (l : List (List ℕ)). Ok (l, rest)) same)

pub names_at_again : (bs : List ℕ) (ns : List (List ℕ)) (rest : List ℕ) → NamesAt bs ns rest → first_is 44 rest ≡ false → length ns ≤ GENERATORS
    → AreDistinct ns
    → names_at bs ≡ Ok (ns, rest)
unfolding names_at
names_at_again bs ns rest h f few d = names_again ns [] (suc GENERATORS) bs rest h f refl few d

-- a relator is read where a byte behind it shuts it
relator_again : (find : Find) (bs : List ℕ) (w : List Letter) (rest : List ℕ) (c : ℕ) → Shuts c → first_is c rest ≡ true → first_is 61 rest ≡ false
    → RelatorAt find bs w rest → relator_at find bs ≡ Ok (w, rest)
unfolding relator_at equation_at
relator_again find _ _ _ c s e f (RelatorAt.word spot bs rest w h) = rw (word_again find spot bs w rest c s e h, f) refl
relator_again find _ _ _ c s e f (RelatorAt.equation spot other bs mid rest u v h t k le) =
    rw (word_again find spot bs u mid 61 equals t h, t, word_again find other (drop 1 mid) v rest c s e k, quotient_again (length mid) u v le) refl

some_again : (new before : List (List Letter)) (n : ℕ) (find : Find) (bs rest : List ℕ) → SomeRelatorsAt find bs new rest → first_is 62 rest ≡ true
    → n + length before ≡ RELATORS → length (before ++ new) ≤ RELATORS → relators_from n find before bs ≡ Ok (before ++ new, rest)
unfolding relators_from
some_again [] before n find bs rest h e room few = absurd h
some_again (r ∷ []) before zero find bs rest h e room few = absurd (omega (arith, length-append before (r ∷ [])))
some_again (r ∷ []) before (suc n) find bs rest h e room few =
    rw (relator_again find bs r rest 62 greater e (other_byte 62 61 rest refl e) h, other_byte 62 44 rest refl e) refl
some_again (r ∷ q ∷ rs) before zero find bs rest h e room few = absurd (omega (arith, length-append before (r ∷ q ∷ rs)))
some_again (r ∷ q ∷ rs) before (suc n) find bs rest h e room few =
    let same : (before ++ r ∷ []) ++ (q ∷ rs) ≡ before ++ (r ∷ q ∷ rs) = append_assoc before (r ∷ []) (q ∷ rs) in
    let here : relator_at find bs ≡ Ok (r, h.0) = relator_again find bs r h.0 44 comma h.2 (other_byte 44 61 h.0 refl h.2) h.1 in
    let lt : length (before ++ r ∷ []) < RELATORS = omega (arith, length-append before (r ∷ []), length-append before (r ∷ q ∷ rs)) in
    rw (here, h.2, room_left RELATORS (length (before ++ r ∷ [])) lt)
    (some_again (q ∷ rs) (before ++ r ∷ []) n find (drop 1 h.0) rest h.3 e (omega (arith, length-append before (r ∷ []))) (rw same few)
    ∙ ap (λ (l : List (List Letter)). Ok (l, rest)) same)

pub relators_again : (find : Find) (bs : List ℕ) (rs : List (List Letter)) (rest : List ℕ) → RelatorsAt find bs rs rest → first_is 62 rest ≡ true
    → length rs ≤ RELATORS
    → relators_at find bs ≡ Ok (rs, rest)
unfolding relators_at
relators_again find bs [] rest h e few = rw (h.0, h.1) refl
relators_again find bs (r ∷ rs) rest h e few = rw (h.0) (some_again (r ∷ rs) [] RELATORS find bs rest h.1 e refl few)

pub presentation_again : (bs : List ℕ) (names : List (List ℕ)) (relators : List (List Letter)) (rest : List ℕ) → PresentationAt bs names relators rest
    → presentation_at bs ≡ Ok (record { names = names; relators = relators; modulus = 0 }, rest)
unfolding presentation_at
presentation_again bs names relators rest h =
    let named = names_at_again (drop 1 (after_blanks bs)) names h.bar h.names_stand (other_byte 124 44 h.bar refl h.parts) h.few_names h.distinct in
    let related = relators_again (finding names) (drop 1 h.bar) relators h.end h.relators_stand h.closes h.few_relators in
    rw (h.opens, named, h.parts, related, h.closes, h.leaves) refl

no_byte : (bs : List ℕ) → bs ≡ [] → (length bs == 0) ≡ true
no_byte bs e = rw e refl

some_digit : (n : ℕ) → 0 < n → (n == 0) ≡ false
some_digit n lt = grind (arith, nat_tests)

in_range : (n : ℕ) → 2 ≤ n → n ≤ MODULUS → (nat_lt n 2 || nat_lt MODULUS n) ≡ false
in_range n least greatest = grind (arith, nat_tests)

number_again : (bs : List ℕ) (m : ℕ) → 0 < length (digits_at bs) → m ≡ number 0 (digits_at bs) → 2 ≤ m → m ≤ MODULUS → after_blanks (after_digits bs) ≡ []
    → modulus_number bs ≡ Ok m
unfolding modulus_number ending
number_again bs m some is least greatest ends =
    rw (some_digit (length (digits_at bs)) some, ← is, in_range m least greatest, no_byte (after_blanks (after_digits bs)) ends) refl

has_name : (bs : List ℕ) → name_at bs ≡ codes "modulus" → (length bs == 0) ≡ false
unfolding name_at
has_name [] e = cc
has_name (b ∷ bs) e = grind (arith, nat_tests)

pub modulus_again : (bs : List ℕ) (m : ℕ) → ModulusAt bs m → modulus_at bs ≡ Ok m
unfolding modulus_at
modulus_again bs zero h = rw (no_byte (after_blanks bs) h) refl
modulus_again bs (suc m) h =
    rw (has_name (after_blanks bs) h.word, (bytes_eq-Decides (name_at (after_blanks bs)) (codes "modulus")).1 h.word)
    (number_again (after_blanks (after_name (after_blanks bs))) (suc m) h.some_digit h.is h.least h.greatest h.ends)

pub text_again : (text : List ℕ) (p : Presented) → IsPresentation text p → presentation_text text ≡ Ok p
unfolding presentation_text
text_again text p h = rw (presentation_again text p.names p.relators h.0 h.1, modulus_again h.0 p.modulus h.2) refl
