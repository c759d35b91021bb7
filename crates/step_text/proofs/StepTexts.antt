-- The texts of single steps.
use Rattle.std.proofs.Common.{◌≡◌, ◌≢◌, inl, inr, ℕ, zero, suc, ◌<◌, ℤ, pos, negsuc, List, ◌∷◌, ◌++◌, length, ◌==◌, false, Some, None, Ok, Err, decimal, refl}
use Rattle.std.proofs.Common.{sym, ap, ◌∙◌, arith}
use Rattle.std.proofs.lemmas.Option.{none-some}
use Rattle.spelling.specs.Spelling.{IsRead, IsSmall, cut, coefficient, IsCoefficient}
use Rattle.spelling.proofs.Cuts.{cut_here, cut_joins}
use Rattle.spelling.proofs.Numbers.{decimal_same}
use Rattle.spelling.proofs.Lacking.{Lacks, lacks_append, decimal_lacks, coefficient_lacks, coefficient_same}
use Rattle.word_text.specs.Scan.{is_name_byte, is_letter, is_digit}
use Rattle.presentation.proofs.WritingBack.{AreNames}
use Rattle.module_vec.specs.declared.steps.Step.{Step}
use Rattle.module_vec.specs.Vectors.{InRange}
use Rattle.vector_text.specs.declared.fault.SpellFault.{SpellFault}
use Rattle.vector_text.specs.declared.fault.SpellFault.TheVariants.{Spelling}
use Rattle.vector_text.specs.Spelling.{monomial_text}
use Rattle.vector_text.specs.Over.{IsMonoOf}
use Rattle.vector_text.specs.Reading.{Reads}
use Rattle.vector_text.proofs.Parts.{IsApart}
use Rattle.vector_text.proofs.PlaceTexts.{some_pair}
use Rattle.vector_text.proofs.MonomialTexts.{IsSeparator, monomial_lacks, monomial_same}
use Rattle.step_text.specs.Spelling.{step_text}
use Rattle.step_text.specs.Over.{IsStepOf}

-- ---- coefficients

nonzero : (n : ℕ) → pos n ≢ pos 0 → 0 < n
nonzero zero some = absurd (some refl)
nonzero (suc n) some = omega arith

pub spelled_coefficient : (z : ℤ) → z ≢ pos 0 → InRange z → IsCoefficient z
spelled_coefficient (pos n) some h = (omega (arith, nonzero n some), omega (arith, h))
spelled_coefficient (negsuc n) some h = omega (arith, h)

in_range : (z : ℤ) → IsCoefficient z → (z ≢ pos 0) × InRange z
in_range (pos n) h = (λ e. some n h.0 e, omega (arith, h.1)) where
  some : (n : ℕ) → 0 < n → pos n ≢ pos 0
  some zero lt e = absurd (omega arith)
  some (suc n) lt e = cc
in_range (negsuc n) h = (λ e. cc, omega (arith, h))

-- ---- the parts of a step's text

-- what stands behind the coefficient
abbrev behind : List (List ℕ) → Step → List ℕ
behind names s = monomial_text names s.t ++ 64 ∷ decimal s.by

factor : (n : ℕ) (s : Step) → IsStepOf n s → IsCoefficient s.q
factor n s h = spelled_coefficient s.q h.nonzero h.range

sign : IsSeparator 64
unfolding is_name_byte is_letter is_digit
sign = record { name = refl; digit = inr (omega arith); tick = λ e. omega (arith, e); hat = λ e. omega (arith, e) }

star_cut : (names : List (List ℕ)) (s : Step) → IsStepOf (length names) s → cut 42 (step_text names s) ≡ Some (coefficient s.q, behind names s)
star_cut names s h =
    cut_here 42 (coefficient s.q) (behind names s) (coefficient_lacks 42 s.q (inl (omega arith)) (λ e. omega (arith, e)) (λ e. omega (arith, e))
    (factor (length names) s h))

sign_cut : (names : List (List ℕ)) → AreNames names → (s : Step) → IsStepOf (length names) s
    → cut 64 (behind names s) ≡ Some (monomial_text names s.t, decimal s.by)
sign_cut names known s h = cut_here 64 (monomial_text names s.t) (decimal s.by) (monomial_lacks 64 names s.t sign (λ e. omega (arith, e)) known h.mono)

fronts : (names : List (List ℕ)) (text front rest : List ℕ) (s : Step) → cut 42 text ≡ Some (front, rest) → IsStepOf (length names) s → text ≡ step_text names s
    → (front ≡ coefficient s.q) × (rest ≡ behind names s)
fronts names text front rest s k h e = some_pair (front, rest) (coefficient s.q, behind names s) (sym k ∙ ap (cut 42) e ∙ star_cut names s h)

lasts : (names : List (List ℕ)) → AreNames names → (rest middle last : List ℕ) (s : Step) → cut 64 rest ≡ Some (middle, last) → IsStepOf (length names) s
    → rest ≡ behind names s
    → (middle ≡ monomial_text names s.t) × (last ≡ decimal s.by)
lasts names known rest middle last s k h e = some_pair (middle, last) (monomial_text names s.t, decimal s.by) (sym k ∙ ap (cut 64) e ∙ sign_cut names known s h)

-- ---- the exits of the reader

pub no_star : (names : List (List ℕ)) (text : List ℕ) → cut 42 text ≡ None → IsRead (step_text names) (IsStepOf (length names)) text None
no_star names text none = λ s h e. none-some _ (sym none ∙ ap (cut 42) e ∙ star_cut names s h)

pub no_coefficient : (names : List (List ℕ)) (text front rest : List ℕ) → cut 42 text ≡ Some (front, rest) → IsRead coefficient IsCoefficient front None
    → IsRead (step_text names) (IsStepOf (length names)) text None
no_coefficient names text front rest k bad = λ s h e. bad s.q (factor (length names) s h) (fronts names text front rest s k h e).0

pub no_sign : (names : List (List ℕ)) → AreNames names → (text front rest : List ℕ) → cut 42 text ≡ Some (front, rest) → cut 64 rest ≡ None
    → IsRead (step_text names) (IsStepOf (length names)) text None
no_sign names known text front rest k none = λ s h e.
    none-some _ (sym none ∙ ap (cut 64) (fronts names text front rest s k h e).1 ∙ sign_cut names known s h)

pub no_monomial : (names : List (List ℕ)) → AreNames names → (text front rest middle last : List ℕ) (f : SpellFault) → cut 42 text ≡ Some (front, rest)
    → cut 64 rest ≡ Some (middle, last)
    → Reads (monomial_text names) (IsMonoOf (length names)) middle (Err f) → f ≡ Spelling → IsRead (step_text names) (IsStepOf (length names)) text None
no_monomial names known text front rest middle last f k m bad is = λ s h e.
    let bad' = rw is at bad in
    bad' s.t h.mono (lasts names known rest middle last s m h (fronts names text front rest s k h e).1).0

pub no_entry : (names : List (List ℕ)) → AreNames names → (text front rest middle last : List ℕ) → cut 42 text ≡ Some (front, rest)
    → cut 64 rest ≡ Some (middle, last)
    → IsRead decimal IsSmall last None → IsRead (step_text names) (IsStepOf (length names)) text None
no_entry names known text front rest middle last k m bad = λ s h e.
    bad s.by h.entry (lasts names known rest middle last s m h (fronts names text front rest s k h e).1).1

pub step_read : (names : List (List ℕ)) (text front rest middle last : List ℕ) (q : ℤ) (t : List ℕ) (by : ℕ) → cut 42 text ≡ Some (front, rest)
    → cut 64 rest ≡ Some (middle, last)
    → IsRead coefficient IsCoefficient front (Some q) → Reads (monomial_text names) (IsMonoOf (length names)) middle (Ok t)
    → IsRead decimal IsSmall last (Some by)
    → IsRead (step_text names) (IsStepOf (length names)) text (Some (record { q = q; t = t; by = by }))
step_read names text front rest middle last q t by k m a b c =
    let r = in_range q a.0 in
    (record { nonzero = r.0; range = r.1; mono = b.0; entry = c.0 }, cut_joins 42 text front rest k ∙ rw (a.1, cut_joins 64 rest middle last m, b.1, c.1) refl)

-- ---- a text is that of one step

step_same : (names : List (List ℕ)) → AreNames names → (s u : Step) → IsStepOf (length names) s → IsStepOf (length names) u
    → step_text names s ≡ step_text names u → s ≡ u
step_same names known s u h k e =
    let front = some_pair (coefficient s.q, behind names s) (coefficient u.q, behind names u) (sym (star_cut names s h) ∙ ap (cut 42) e ∙ star_cut names u k) in
    let last = some_pair (monomial_text names s.t, decimal s.by) (monomial_text names u.t, decimal u.by) (sym (sign_cut names known s h) ∙ ap (cut 64) front.1
    ∙ sign_cut names known u k) in
    let q : s.q ≡ u.q = coefficient_same s.q u.q (factor (length names) s h) (factor (length names) u k) front.0 in
    let t : s.t ≡ u.t = monomial_same names known s.t u.t h.mono k.mono last.0 in
    let by : s.by ≡ u.by = decimal_same s.by u.by (omega (arith, h.entry)) (omega (arith, k.entry)) last.1 in
    λ i. record { q = q i; t = t i; by = by i }

-- a byte that stands in no step: it is no byte of a monomial or of a number, no sign, and no mark between them
pub record IsOutside (c : ℕ) : Type 0 where
  pub other : IsSeparator c
  pub point : 46 ≢ c
  pub plus : c ≢ 43
  pub minus : c ≢ 45
  pub star : (42 == c) ≡ false
  pub at : (64 == c) ≡ false

pub step_lacks : (c : ℕ) (names : List (List ℕ)) → IsOutside c → AreNames names → (s : Step) → IsStepOf (length names) s → Lacks c (step_text names s)
step_lacks c names o known s h =
    lacks_append c (coefficient s.q) (42 ∷ behind names s)
    (coefficient_lacks c s.q o.other.digit o.plus o.minus (factor (length names) s h)) (
      o.star,
      lacks_append c (monomial_text names s.t) (64 ∷ decimal s.by) (monomial_lacks c names s.t o.other o.point known h.mono)
          (o.at, decimal_lacks c s.by o.other.digit (omega (arith, h.entry))),
    )

pub space : IsOutside 32
unfolding is_name_byte is_letter is_digit
space = record {
  other = record { name = refl; digit = inl (omega arith); tick = λ e. omega (arith, e); hat = λ e. omega (arith, e) };
  point = λ e. omega (arith, e);
  plus = λ e. omega (arith, e);
  minus = λ e. omega (arith, e);
  star = refl;
  at = refl;
}

pub steps_apart : (names : List (List ℕ)) → AreNames names → IsApart 32 (step_text names) (IsStepOf (length names))
steps_apart names known = record { lacks = λ s h. step_lacks 32 names space known s h; one = λ s u h k e. step_same names known s u h k e }
