-- The texts of stops.
use Rattle.std.proofs.Common.{◌≡◌, ℕ, List, ◌++◌, length, drop, Some, None, Ok, Err, codes, decimal, refl, sym, ap, subst, ◌∙◌}
use Rattle.spelling.specs.Spelling.{IsRead, IsSmall}
use Rattle.presentation.proofs.WritingBack.{AreNames}
use Rattle.module_vec.specs.declared.places.Place.{Place}
use Rattle.module_vec.specs.declared.faults.Stop.{Stop}
use Rattle.module_vec.specs.declared.faults.Stop.TheVariants.{Wide, Long, Deep, Steep}
use Rattle.vector_text.specs.declared.fault.SpellFault.{SpellFault}
use Rattle.vector_text.specs.declared.fault.SpellFault.TheVariants.{Spelling}
use Rattle.vector_text.specs.Spelling.{place_text}
use Rattle.vector_text.specs.Over.{IsPlaceOf}
use Rattle.vector_text.specs.Reading.{Reads}
use Rattle.vector_text.proofs.PlaceTexts.{place_same}
use Rattle.report_lines.specs.Parts.{headed, IsHead, paired, AreBoth}
use Rattle.report_lines.specs.Texts.{stop_text}
use Rattle.report_lines.specs.Lines.{IsStopOf}
use Rattle.report_lines.proofs.Pairs.{clash, no_first, no_second, both_read, pair_same}
use Rattle.report_lines.proofs.Numbers.{number_first, number_same}

-- the parts behind `wide ` and `long `
abbrev wide_text : List (List ℕ) → ℕ × Place → List ℕ
wide_text names = paired decimal (codes " ") (place_text names)

abbrev AreWide : ℕ → ℕ × Place → Type 0
AreWide n = AreBoth IsSmall (IsPlaceOf n)

abbrev long_text : ℕ × ℕ → List ℕ
long_text = paired decimal (codes " ") decimal

abbrev AreLong : ℕ × ℕ → Type 0
AreLong = AreBoth IsSmall IsSmall

-- ---- which stop a text begins like

is_deep : (names : List (List ℕ)) (s : Stop) → codes "deep" ≡ stop_text names s → s ≡ Deep
is_deep names (Wide at step) e = absurd (clash 1 _ _ e refl)
is_deep names (Long terms step) e = absurd (clash 1 _ _ e refl)
is_deep names Deep e = refl
is_deep names (Steep degree) e = absurd (clash 1 _ _ e refl)

is_wide : (names : List (List ℕ)) (rest : List ℕ) (s : Stop) → codes "wide " ++ rest ≡ stop_text names s
    → (x : ℕ × Place) × (s ≡ Wide x.1 x.0) × (rest ≡ wide_text names x)
is_wide names rest (Wide at step) e = ((step, at), refl, ap (drop 5) e)
is_wide names rest (Long terms step) e = absurd (clash 1 _ _ e refl)
is_wide names rest Deep e = absurd (clash 1 _ _ e refl)
is_wide names rest (Steep degree) e = absurd (clash 1 _ _ e refl)

is_long : (names : List (List ℕ)) (rest : List ℕ) (s : Stop) → codes "long " ++ rest ≡ stop_text names s
    → (x : ℕ × ℕ) × (s ≡ Long x.1 x.0) × (rest ≡ long_text x)
is_long names rest (Wide at step) e = absurd (clash 1 _ _ e refl)
is_long names rest (Long terms step) e = ((step, terms), refl, ap (drop 5) e)
is_long names rest Deep e = absurd (clash 1 _ _ e refl)
is_long names rest (Steep degree) e = absurd (clash 1 _ _ e refl)

is_steep : (names : List (List ℕ)) (rest : List ℕ) (s : Stop) → codes "steep " ++ rest ≡ stop_text names s
    → (x : ℕ) × (s ≡ Steep x) × (rest ≡ decimal x)
is_steep names rest (Wide at step) e = absurd (clash 1 _ _ e refl)
is_steep names rest (Long terms step) e = absurd (clash 1 _ _ e refl)
is_steep names rest Deep e = absurd (clash 1 _ _ e refl)
is_steep names rest (Steep degree) e = (degree, refl, ap (drop 6) e)

-- ---- the exits of the readers

no_wide : (names : List (List ℕ)) (text : List ℕ) → IsRead (wide_text names) (AreWide (length names)) text None
    → IsRead (stop_text names) (IsStopOf (length names)) (codes "wide " ++ text) None
no_wide names text bad = λ s h e.
    let i = is_wide names text s e in
    let P : Stop → Type 0 = IsStopOf (length names) in
    let k = subst P i.1 h in
    bad i.0 (k.1, k.0) i.2

pub no_wide_step : (names : List (List ℕ)) (text : List ℕ) → IsRead (headed decimal (codes " ")) (IsHead IsSmall) text None
    → IsRead (stop_text names) (IsStopOf (length names)) (codes "wide " ++ text) None
no_wide_step names text bad = no_wide names text (no_first decimal IsSmall (codes " ") (place_text names) (IsPlaceOf (length names)) text bad)

pub no_wide_place : (names : List (List ℕ)) (text rest : List ℕ) (step : ℕ) (f : SpellFault)
    → IsRead (headed decimal (codes " ")) (IsHead IsSmall) text (Some (step, rest))
    → Reads (place_text names) (IsPlaceOf (length names)) rest (Err f) → f ≡ Spelling
    → IsRead (stop_text names) (IsStopOf (length names)) (codes "wide " ++ text) None
no_wide_place names text rest step f a bad is =
    let bad' = rw is at bad in
    no_wide names text (no_second decimal IsSmall (codes " ") (place_text names) (IsPlaceOf (length names)) number_first text rest step a bad')

pub wide_read : (names : List (List ℕ)) (text rest : List ℕ) (step : ℕ) (at : Place)
    → IsRead (headed decimal (codes " ")) (IsHead IsSmall) text (Some (step, rest))
    → Reads (place_text names) (IsPlaceOf (length names)) rest (Ok at)
    → IsRead (stop_text names) (IsStopOf (length names)) (codes "wide " ++ text) (Some (Wide at step))
wide_read names text rest step at a b =
    let r = both_read decimal IsSmall (codes " ") (place_text names) (IsPlaceOf (length names)) text rest step at a b in
    ((r.0.1, r.0.0), ap (λ (t : List ℕ). codes "wide " ++ t) r.1)

no_long : (names : List (List ℕ)) (text : List ℕ) → IsRead long_text AreLong text None
    → IsRead (stop_text names) (IsStopOf (length names)) (codes "long " ++ text) None
no_long names text bad = λ s h e.
    let i = is_long names text s e in
    let P : Stop → Type 0 = IsStopOf (length names) in
    let k = subst P i.1 h in
    bad i.0 (k.1, k.0) i.2

pub no_long_step : (names : List (List ℕ)) (text : List ℕ) → IsRead (headed decimal (codes " ")) (IsHead IsSmall) text None
    → IsRead (stop_text names) (IsStopOf (length names)) (codes "long " ++ text) None
no_long_step names text bad = no_long names text (no_first decimal IsSmall (codes " ") decimal IsSmall text bad)

pub no_long_terms : (names : List (List ℕ)) (text rest : List ℕ) (step : ℕ) → IsRead (headed decimal (codes " ")) (IsHead IsSmall) text (Some (step, rest))
    → IsRead decimal IsSmall rest None → IsRead (stop_text names) (IsStopOf (length names)) (codes "long " ++ text) None
no_long_terms names text rest step a bad = no_long names text (no_second decimal IsSmall (codes " ") decimal IsSmall number_first text rest step a bad)

pub long_read : (names : List (List ℕ)) (text rest : List ℕ) (step terms : ℕ) → IsRead (headed decimal (codes " ")) (IsHead IsSmall) text (Some (step, rest))
    → IsRead decimal IsSmall rest (Some terms) → IsRead (stop_text names) (IsStopOf (length names)) (codes "long " ++ text) (Some (Long terms step))
long_read names text rest step terms a b =
    let r = both_read decimal IsSmall (codes " ") decimal IsSmall text rest step terms a b in
    ((r.0.1, r.0.0), ap (λ (t : List ℕ). codes "long " ++ t) r.1)

pub no_degree : (names : List (List ℕ)) (text : List ℕ) → IsRead decimal IsSmall text None
    → IsRead (stop_text names) (IsStopOf (length names)) (codes "steep " ++ text) None
no_degree names text bad = λ s h e.
    let i = is_steep names text s e in
    let P : Stop → Type 0 = IsStopOf (length names) in
    bad i.0 (subst P i.1 h) i.2

pub steep_read : (names : List (List ℕ)) (text : List ℕ) (degree : ℕ) → IsRead decimal IsSmall text (Some degree)
    → IsRead (stop_text names) (IsStopOf (length names)) (codes "steep " ++ text) (Some (Steep degree))
steep_read names text degree a = (a.0, ap (λ (t : List ℕ). codes "steep " ++ t) a.1)

pub no_stop : (names : List (List ℕ)) (text : List ℕ) → (text ≡ codes "deep" → ⊥) → ((r : List ℕ) → text ≡ codes "wide " ++ r → ⊥)
    → ((r : List ℕ) → text ≡ codes "long " ++ r → ⊥)
    → ((r : List ℕ) → text ≡ codes "steep " ++ r → ⊥) → IsRead (stop_text names) (IsStopOf (length names)) text None
no_stop names text deep wide long steep = λ s h e. by s e where
  by : (s : Stop) → text ≡ stop_text names s → ⊥
  by (Wide at step) e = wide (wide_text names (step, at)) e
  by (Long terms step) e = long (long_text (step, terms)) e
  by Deep e = deep e
  by (Steep degree) e = steep (decimal degree) e

-- ---- a text is that of one stop

pub stop_same : (names : List (List ℕ)) → AreNames names → (s t : Stop) → IsStopOf (length names) s → IsStopOf (length names) t
    → stop_text names s ≡ stop_text names t → s ≡ t
stop_same names known (Wide at step) t h k e =
    let i = is_wide names (wide_text names (step, at)) t e in
    let P : Stop → Type 0 = IsStopOf (length names) in
    let k' = subst P i.1 k in
    let a = pair_same decimal IsSmall (codes " ") (place_text names) (IsPlaceOf (length names)) number_first (λ x y p q f. place_same names known x y p q f)
    (step, at) i.0 (h.1, h.0) (k'.1, k'.0) i.2 in
    (λ j. Wide (a.1 j) (a.0 j)) ∙ sym i.1
stop_same names known (Long terms step) t h k e =
    let i = is_long names (long_text (step, terms)) t e in
    let P : Stop → Type 0 = IsStopOf (length names) in
    let k' = subst P i.1 k in
    let a = pair_same decimal IsSmall (codes " ") decimal IsSmall number_first number_same (step, terms) i.0 (h.1, h.0) (k'.1, k'.0) i.2 in
    (λ j. Long (a.1 j) (a.0 j)) ∙ sym i.1
stop_same names known Deep t h k e = sym (is_deep names t e)
stop_same names known (Steep degree) t h k e =
    let i = is_steep names (decimal degree) t e in
    let P : Stop → Type 0 = IsStopOf (length names) in
    let a = number_same degree i.0 h (subst P i.1 k) i.2 in
    ap (λ (d : ℕ). Steep d) a ∙ sym i.1
