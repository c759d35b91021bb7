-- The texts of places.
use Rattle.std.proofs.Common.{◌≡◌, ◌≢◌, inr, ℕ, ◌<◌, List, ◌∷◌, length, Some, None, refl, sym, ap, ◌∙◌, arith}
use Rattle.std.proofs.lemmas.Option.{none-some, same_Some}
use Rattle.spelling.specs.Spelling.{IsRead, cut}
use Rattle.spelling.proofs.Cuts.{cut_here, cut_joins}
use Rattle.spelling.proofs.Lacking.{Lacks, lacks_append, apart}
use Rattle.word_text.specs.Scan.{is_name_byte, is_letter, is_digit}
use Rattle.word_text.specs.Machine.{finding}
use Rattle.presentation.specs.Writing.{name_of}
use Rattle.presentation.proofs.WritingNames.{name_found}
use Rattle.presentation.proofs.WritingBack.{AreNames}
use Rattle.module_vec.specs.declared.places.Place.{Place}
use Rattle.vector_text.specs.Spelling.{monomial_text, place_text}
use Rattle.vector_text.specs.Over.{IsMonoOf, IsPlaceOf}
use Rattle.vector_text.proofs.FactorTexts.{name_is}
use Rattle.vector_text.proofs.MonomialTexts.{IsSeparator, name_lacks, monomial_lacks, monomial_same}

sign : IsSeparator 64
unfolding is_name_byte is_letter is_digit
sign = record { name = refl; digit = inr (omega arith); tick = λ e. omega (arith, e); hat = λ e. omega (arith, e) }

-- the monomial of a place is one over the generators
mono_of : (n : ℕ) (p : Place) → IsPlaceOf n p → IsMonoOf n p.m
mono_of n p h = record { mono = h.place; over = h.over.mono }

place_cut : (names : List (List ℕ)) → AreNames names → (p : Place) → IsPlaceOf (length names) p
    → cut 64 (place_text names p) ≡ Some (monomial_text names p.m, name_of names p.c)
place_cut names known p h =
    cut_here 64 (monomial_text names p.m) (name_of names p.c) (monomial_lacks 64 names p.m sign (λ e. omega (arith, e)) known (mono_of (length names) p h))

pub some_pair : (p q : List ℕ × List ℕ) → Some p ≡ Some q → (p.0 ≡ q.0) × (p.1 ≡ q.1)
some_pair p q e = let k : p ≡ q = same_Some p q e in (ap (λ (r : List ℕ × List ℕ). r.0) k, ap (λ (r : List ℕ × List ℕ). r.1) k)

-- the parts of a place's text
parts : (names : List (List ℕ)) → AreNames names → (text front name : List ℕ) (p : Place) → cut 64 text ≡ Some (front, name) → IsPlaceOf (length names) p
    → text ≡ place_text names p
    → (front ≡ monomial_text names p.m) × (name ≡ name_of names p.c)
parts names known text front name p k h e = some_pair (front, name) (monomial_text names p.m, name_of names p.c) (sym k ∙ ap (cut 64) e
    ∙ place_cut names known p h)

pub no_at : (names : List (List ℕ)) → AreNames names → (text : List ℕ) → cut 64 text ≡ None → IsRead (place_text names) (IsPlaceOf (length names)) text None
no_at names known text none = λ p h e. none-some _ (sym none ∙ ap (cut 64) e ∙ place_cut names known p h)

pub no_mono : (names : List (List ℕ)) → AreNames names → (text front name : List ℕ) → cut 64 text ≡ Some (front, name)
    → IsRead (monomial_text names) (IsMonoOf (length names)) front None
    → IsRead (place_text names) (IsPlaceOf (length names)) text None
no_mono names known text front name k bad = λ p h e. bad p.m (mono_of (length names) p h) (parts names known text front name p k h e).0

found : (names : List (List ℕ)) → AreNames names → (p : Place) → IsPlaceOf (length names) p → finding names (name_of names p.c) ≡ Some p.c
found names known p h = name_found names p.c known.distinct h.over.component

pub no_component : (names : List (List ℕ)) → AreNames names → (text front name : List ℕ) → cut 64 text ≡ Some (front, name) → finding names name ≡ None
    → IsRead (place_text names) (IsPlaceOf (length names)) text None
no_component names known text front name k none = λ p h e.
    none-some p.c (sym none ∙ ap (finding names) (parts names known text front name p k h e).1 ∙ found names known p h)

pub place_read : (names : List (List ℕ)) (text front name m : List ℕ) (c : ℕ) → cut 64 text ≡ Some (front, name)
    → IsRead (monomial_text names) (IsMonoOf (length names)) front (Some m)
    → finding names name ≡ Some c → c < length names → IsRead (place_text names) (IsPlaceOf (length names)) text (Some (record { m = m; c = c }))
place_read names text front name m c k good is lt = (
  record { place = good.0.mono; over = record { mono = good.0.over; component = lt } },
  cut_joins 64 text front name k
      ∙ rw (good.1, name_is names name c is) refl,
)

-- a place's text lacks each byte that isn't its monomial's, its component's or the sign between them
pub place_lacks : (c : ℕ) (names : List (List ℕ)) (p : Place) → IsSeparator c → 46 ≢ c → 64 ≢ c → AreNames names → IsPlaceOf (length names) p
    → Lacks c (place_text names p)
place_lacks c names p o point at known h =
    lacks_append c (monomial_text names p.m) (64 ∷ name_of names p.c) (monomial_lacks c names p.m o point known (mono_of (length names) p h))
    (apart 64 c at, name_lacks c names p.c o.name known h.over.component)

-- a text is that of one place
pub place_same : (names : List (List ℕ)) → AreNames names → (p q : Place) → IsPlaceOf (length names) p → IsPlaceOf (length names) q
    → place_text names p ≡ place_text names q → p ≡ q
place_same names known p q h k e =
    let both = some_pair (monomial_text names p.m, name_of names p.c) (monomial_text names q.m, name_of names q.c) (sym (place_cut names known p h)
    ∙ ap (cut 64) e ∙ place_cut names known q k) in
    let m : p.m ≡ q.m = monomial_same names known p.m q.m (mono_of (length names) p h) (mono_of (length names) q k) both.0 in
    let c : p.c ≡ q.c = same_Some p.c q.c (sym (found names known p h) ∙ ap (finding names) both.1 ∙ found names known q k) in
    λ i. record { m = m i; c = c i }
