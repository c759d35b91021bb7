-- The texts of terms.
use Rattle.std.proofs.Common.{◌≡◌, ◌≢◌, inl, ℕ, zero, suc, ◌<◌, ℤ, pos, negsuc, List, ◌∷◌, length, Some, None, refl, sym, ap, ◌∙◌, arith}
use Rattle.std.proofs.lemmas.Option.{none-some}
use Rattle.spelling.specs.Spelling.{IsRead, cut, coefficient, IsCoefficient}
use Rattle.spelling.proofs.Cuts.{cut_here, cut_joins}
use Rattle.spelling.proofs.Lacking.{Lacks, lacks_append, coefficient_lacks, coefficient_same}
use Rattle.word_text.specs.Scan.{is_name_byte, is_letter, is_digit}
use Rattle.presentation.proofs.WritingBack.{AreNames}
use Rattle.module_vec.specs.declared.places.Place.{Place}
use Rattle.module_vec.specs.declared.places.Term.{Term}
use Rattle.module_vec.specs.Vectors.{InRange}
use Rattle.vector_text.specs.Spelling.{place_text, term_text}
use Rattle.vector_text.specs.Over.{IsPlaceOf, IsTermOf}
use Rattle.vector_text.proofs.Writing.{spelled_coefficient}
use Rattle.vector_text.proofs.Parts.{IsApart}
use Rattle.vector_text.proofs.MonomialTexts.{IsSeparator}
use Rattle.vector_text.proofs.PlaceTexts.{some_pair, place_lacks, place_same}

place_of : (n : ℕ) (t : Term) → IsTermOf n t → IsPlaceOf n t.at
place_of n t h = record { place = h.term.place; over = h.over }

term_cut : (names : List (List ℕ)) (t : Term) → IsTermOf (length names) t → cut 42 (term_text names t) ≡ Some (coefficient t.k, place_text names t.at)
term_cut names t h =
    cut_here 42 (coefficient t.k) (place_text names t.at) (coefficient_lacks 42 t.k (inl (omega arith)) (λ e. omega (arith, e)) (λ e. omega (arith, e))
    (spelled_coefficient t h.term))

-- the parts of a term's text
parts : (names : List (List ℕ)) (text front rest : List ℕ) (t : Term) → cut 42 text ≡ Some (front, rest) → IsTermOf (length names) t → text ≡ term_text names t
    → (front ≡ coefficient t.k) × (rest ≡ place_text names t.at)
parts names text front rest t k h e = some_pair (front, rest) (coefficient t.k, place_text names t.at) (sym k ∙ ap (cut 42) e ∙ term_cut names t h)

pub no_star : (names : List (List ℕ)) (text : List ℕ) → cut 42 text ≡ None → IsRead (term_text names) (IsTermOf (length names)) text None
no_star names text none = λ t h e. none-some _ (sym none ∙ ap (cut 42) e ∙ term_cut names t h)

pub no_coefficient : (names : List (List ℕ)) (text front rest : List ℕ) → cut 42 text ≡ Some (front, rest) → IsRead coefficient IsCoefficient front None
    → IsRead (term_text names) (IsTermOf (length names)) text None
no_coefficient names text front rest k bad = λ t h e. bad t.k (spelled_coefficient t h.term) (parts names text front rest t k h e).0

pub no_place : (names : List (List ℕ)) (text front rest : List ℕ) → cut 42 text ≡ Some (front, rest)
    → IsRead (place_text names) (IsPlaceOf (length names)) rest None
    → IsRead (term_text names) (IsTermOf (length names)) text None
no_place names text front rest k bad = λ t h e. bad t.at (place_of (length names) t h) (parts names text front rest t k h e).1

in_range : (z : ℤ) → IsCoefficient z → (z ≢ pos 0) × InRange z
in_range (pos n) h = (λ e. nonzero n h.0 e, omega (arith, h.1)) where
  nonzero : (n : ℕ) → 0 < n → pos n ≢ pos 0
  nonzero zero lt e = absurd (omega arith)
  nonzero (suc n) lt e = cc
in_range (negsuc n) h = (λ e. cc, omega (arith, h))

pub term_read : (names : List (List ℕ)) (text front rest : List ℕ) (k : ℤ) (at : Place) → cut 42 text ≡ Some (front, rest)
    → IsRead coefficient IsCoefficient front (Some k)
    → IsRead (place_text names) (IsPlaceOf (length names)) rest (Some at)
    → IsRead (term_text names) (IsTermOf (length names)) text (Some (record { at = at; k = k }))
term_read names text front rest k at is number place =
    let r = in_range k number.0 in (
      record { term = record { place = place.0.place; nonzero = r.0; range = r.1 }; over = place.0.over },
      cut_joins 42 text front rest is
          ∙ rw (number.1, place.1) refl,
    )

space : IsSeparator 32
unfolding is_name_byte is_letter is_digit
space = record { name = refl; digit = inl (omega arith); tick = λ e. omega (arith, e); hat = λ e. omega (arith, e) }

term_lacks : (names : List (List ℕ)) → AreNames names → (t : Term) → IsTermOf (length names) t → Lacks 32 (term_text names t)
term_lacks names known t h =
    lacks_append 32 (coefficient t.k) (42 ∷ place_text names t.at)
    (coefficient_lacks 32 t.k (inl (omega arith)) (λ e. omega (arith, e)) (λ e. omega (arith, e)) (spelled_coefficient t h.term))
    (refl, place_lacks 32 names t.at space (λ e. omega (arith, e)) (λ e. omega (arith, e)) known (place_of (length names) t h))

-- a text is that of one term
term_same : (names : List (List ℕ)) → AreNames names → (t u : Term) → IsTermOf (length names) t → IsTermOf (length names) u
    → term_text names t ≡ term_text names u → t ≡ u
term_same names known t u h k e =
    let both = some_pair (coefficient t.k, place_text names t.at) (coefficient u.k, place_text names u.at) (sym (term_cut names t h) ∙ ap (cut 42) e
    ∙ term_cut names u k) in
    let z : t.k ≡ u.k = coefficient_same t.k u.k (spelled_coefficient t h.term) (spelled_coefficient u k.term) both.0 in
    let at : t.at ≡ u.at = place_same names known t.at u.at (place_of (length names) t h) (place_of (length names) u k) both.1 in
    λ i. record { at = at i; k = z i }

pub terms_apart : (names : List (List ℕ)) → AreNames names → IsApart 32 (term_text names) (IsTermOf (length names))
terms_apart names known = record { lacks = λ t h. term_lacks names known t h; one = λ t u h k e. term_same names known t u h k e }
