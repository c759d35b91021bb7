-- A presentation that is read is in the grammar.
use Rattle.std.proofs.Common.{◌≡◌, ◌==◌, ◌||◌, ℕ, zero, suc, ◌<◌, ◌≤◌, Bool, true, false, nat_lt, List, [], ◌∷◌, length, drop, Ok, Err, refl, sym, subst, codes}
use Rattle.std.proofs.Common.{arith, if◌then◌else◌}
use Rattle.std.specs.Str.{bytes_eq}
use Rattle.std.proofs.lemmas.Bool.Decides.{nat_tests}
use Rattle.std.proofs.lemmas.Slice.Eq.{bytes_eq-Decides}
use Rattle.free_words.specs.declared.letter.Letter.{Letter}
use Rattle.free_words.specs.declared.TheConstants.{GENERATORS}
use Rattle.word_text.specs.declared.fault.TextKind.TheVariants.{ModulusOutOfRange}
use Rattle.word_text.specs.Scan.{◌>>=◌, first_is, after_blanks, name_at, after_name, digits_at, after_digits, number, due}
use Rattle.word_text.specs.Machine.{finding}
use Rattle.presentation.specs.declared.TheConstants.{MODULUS}
use Rattle.presentation.specs.Presented.{Presented}
use Rattle.presentation.specs.Reading.{byte_at, names_at, relators_at, presentation_at, ending, modulus_number, modulus_at, presentation_text}
use Rattle.presentation.specs.Grammar.{PresentationAt, WrittenModulus, ModulusAt, IsPresentation}
use Rattle.presentation.proofs.Steps.{bind_ok, ok_is, guard_ok, test_ok}
use Rattle.presentation.proofs.Sound.{NewNames, names_sound, relators_sound}

byte_ok : (b : ℕ) (bs rest : List ℕ) → byte_at b bs ≡ Ok rest → (first_is b bs ≡ true) × (rest ≡ drop 1 bs)
byte_ok b bs rest e =
    let t = test_ok (first_is b bs) (due bs) (Ok (drop 1 bs)) rest e in
    (t.0, sym (ok_is (drop 1 bs) rest t.1))

names_ok : (bs : List ℕ) (ns : List (List ℕ)) (rest : List ℕ) → names_at bs ≡ Ok (ns, rest) → NewNames [] bs ns rest
unfolding names_at
names_ok bs ns rest e = names_sound (suc GENERATORS) [] bs ns rest e

-- the parts of a presentation without its modulus
pub parts_sound : (bs opened bar parted end rest : List ℕ) (ns : List (List ℕ)) (rs : List (List Letter)) → byte_at 60 (after_blanks bs) ≡ Ok opened
    → names_at opened ≡ Ok (ns, bar) → byte_at 124 bar ≡ Ok parted → relators_at (finding ns) parted ≡ Ok (rs, end) → byte_at 62 end ≡ Ok rest
    → PresentationAt bs ns rs rest
parts_sound bs opened bar parted end rest ns rs o n b r c =
    let opens = byte_ok 60 (after_blanks bs) opened o in
    let named = names_ok opened ns bar n in
    let parts = byte_ok 124 bar parted b in
    let related = relators_sound (finding ns) parted rs end r in
    let closes = byte_ok 62 end rest c in
    record {
      opens = opens.0;
      bar = bar;
      names_stand = rw (← opens.1, named.are) named.stand;
      parts = parts.0;
      end = end;
      relators_stand = rw (← parts.1) related.0;
      closes = closes.0;
      leaves = closes.1;
      few_names = named.few;
      distinct = named.distinct tt;
      few_relators = related.1;
    }

ends_sound : (bs opened bar parted end : List ℕ) (ns : List (List ℕ)) (rs : List (List Letter)) (p : Presented) (rest : List ℕ)
    → byte_at 60 (after_blanks bs) ≡ Ok opened → names_at opened ≡ Ok (ns, bar) → byte_at 124 bar ≡ Ok parted
    → relators_at (finding ns) parted ≡ Ok (rs, end)
    → ◌>>=◌ {B = Presented × List ℕ} (byte_at 62 end) (λ r. Ok (record { names = ns; relators = rs; modulus = 0 }, r)) ≡ Ok (p, rest)
    → PresentationAt bs p.names p.relators rest × (p.modulus ≡ 0)
ends_sound bs opened bar parted end ns rs p rest o n b r e =
    let c = bind_ok (byte_at 62 end) _ (p, rest) e in
    subst (λ (x : Presented × List ℕ). PresentationAt bs x.0.names x.0.relators x.1 × (x.0.modulus ≡ 0)) (ok_is _ _ c.2)
    (parts_sound bs opened bar parted end c.0 ns rs o n b r c.1, refl)

-- a presentation without its modulus
pub presentation_sound : (bs : List ℕ) (p : Presented) (rest : List ℕ) → presentation_at bs ≡ Ok (p, rest)
    → PresentationAt bs p.names p.relators rest × (p.modulus ≡ 0)
unfolding presentation_at
presentation_sound bs p rest e =
    let names = bind_ok (byte_at 60 (after_blanks bs) >>= names_at) _ (p, rest) e in
    let opened = bind_ok (byte_at 60 (after_blanks bs)) names_at names.0 names.1 in
    let relators = bind_ok (byte_at 124 names.0.1 >>= relators_at (finding names.0.0)) _ (p, rest) names.2 in
    let parted = bind_ok (byte_at 124 names.0.1) (relators_at (finding names.0.0)) relators.0 relators.1 in
    ends_sound bs opened.0 names.0.1 parted.0 relators.0.1 names.0.0 relators.0.0 p rest opened.1 opened.2 parted.1 parted.2 relators.2

empty_is : (xs : List ℕ) → (length xs == 0) ≡ true → xs ≡ []
empty_is [] e = refl
empty_is (x ∷ xs) e = absurd (grind (arith, nat_tests))

some_is : (n : ℕ) → (n == 0) ≡ false → 0 < n
some_is n e = grind (arith, nat_tests)

in_range : (n : ℕ) → (nat_lt n 2 || nat_lt MODULUS n) ≡ false → (2 ≤ n) × (n ≤ MODULUS)
in_range n e = (grind (arith, nat_tests), grind (arith, nat_tests))

ending_ok : (n : ℕ) (bs : List ℕ) (m : ℕ) → ending n bs ≡ Ok m → (n ≡ m) × (after_blanks bs ≡ [])
unfolding ending
ending_ok n bs m e =
    let t = test_ok (length (after_blanks bs) == 0) (due (after_blanks bs)) (Ok n) m e in
    (ok_is n m t.1, empty_is (after_blanks bs) t.0)

number_ok : (bs : List ℕ) (m : ℕ) → modulus_number bs ≡ Ok m
    → (0 < length (digits_at bs)) × (m ≡ number 0 (digits_at bs)) × (2 ≤ m) × (m ≤ MODULUS) × (after_blanks (after_digits bs) ≡ [])
unfolding modulus_number
number_ok bs m e =
    let n : ℕ = number 0 (digits_at bs) in
    let some = guard_ok (length (digits_at bs) == 0) (due bs) _ m e in
    let range = guard_ok (nat_lt n 2 || nat_lt MODULUS n) (record { kind = ModulusOutOfRange; left = length bs }) (ending n (after_digits bs)) m some.1 in
    let ends = ending_ok n (after_digits bs) m range.1 in
    let limits = in_range n range.0 in
    (some_is (length (digits_at bs)) some.0, sym ends.0, rw (ends.0) at limits.0, rw (ends.0) at limits.1, ends.1)

written_stands : (bs : List ℕ) (m : ℕ) → WrittenModulus bs m → ModulusAt bs m
written_stands bs zero h = absurd (omega (arith, h.least))
written_stands bs (suc m) h = h

modulus_by : (bs : List ℕ) (m : ℕ) (b : Bool) → (length (after_blanks bs) == 0) ≡ b
    → (if b then Ok 0 else if bytes_eq (name_at (after_blanks bs)) (codes "modulus") then modulus_number (after_blanks (after_name (after_blanks bs)))
    else Err (due (after_blanks bs))) ≡ Ok m → ModulusAt bs m
modulus_by bs m true t e = subst (λ (n : ℕ). ModulusAt bs n) (ok_is 0 m e) (empty_is (after_blanks bs) t)
modulus_by bs m false t e =
    let here : List ℕ = after_blanks bs in
    let w = test_ok (bytes_eq (name_at here) (codes "modulus")) (due here) (modulus_number (after_blanks (after_name here))) m e in
    let n = number_ok (after_blanks (after_name here)) m w.1 in
    written_stands bs m (record {
      word = (bytes_eq-Decides (name_at here) (codes "modulus")).0 w.0;
      some_digit = n.0;
      is = n.1;
      least = n.2;
      greatest = n.3;
      ends = n.4;
    })

-- what stands behind `>`
pub modulus_sound : (bs : List ℕ) (m : ℕ) → modulus_at bs ≡ Ok m → ModulusAt bs m
unfolding modulus_at
modulus_sound bs m e = modulus_by bs m (length (after_blanks bs) == 0) refl e

-- a presentation that is the whole text
pub text_sound : (text : List ℕ) (p : Presented) → presentation_text text ≡ Ok p → IsPresentation text p
unfolding presentation_text
text_sound text p e =
    let x = bind_ok (presentation_at text) _ p e in
    let m = bind_ok (modulus_at x.0.1) _ p x.2 in
    let a = presentation_sound text x.0.0 x.0.1 x.1 in
    subst (λ (q : Presented). IsPresentation text q) (ok_is _ p m.2) (x.0.1, a.0, modulus_sound x.0.1 m.0 m.1)
