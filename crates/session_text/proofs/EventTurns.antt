-- Reading events one after another, as a loop does.
use Rattle.std.proofs.Common.{◌≡◌, ℕ, zero, suc, ◌<◌, ◌≤◌, ◌==◌, true, false, List, [], ◌∷◌, ◌++◌, length, Result, Ok, Err, ◌∙◌, refl, sym, ap, arith}
use Rattle.std.proofs.lemmas.Bool.Decides.{nat_tests}
use Rattle.word_text.specs.declared.fault.Fault.{Fault}
use Rattle.word_text.specs.Scan.{after_blanks}
use Rattle.session_text.specs.declared.question.Event.{Event}
use Rattle.session_text.specs.Schedule.{event_at, events_from, schedule_text}

-- what is read of the whole is what is read from here on, behind some events
abbrev pub Going : ℕ → Result (List Event) Fault → List Event → List ℕ → Type 0
Going sessions whole before bs = (n : ℕ) × (length bs < n) × (whole ≡ events_from n sessions before bs)

some_left : (bs : List ℕ) → 0 < length bs → (length bs == 0) ≡ false
some_left bs lt = grind (arith, nat_tests)

none_left : (bs : List ℕ) → length bs ≤ 0 → (length bs == 0) ≡ true
none_left bs le = grind (arith, nat_tests)

pub more : (sessions : ℕ) (whole : Result (List Event) Fault) (before : List Event) (bs rest next : List ℕ) (e : Event)
    → 0 < length bs → event_at sessions bs ≡ Ok (e, rest) → length rest < length bs → next ≡ after_blanks rest → length next ≤ length rest
    → Going sessions whole before bs → Going sessions whole (before ++ e ∷ []) next
more sessions whole before bs rest next e some r less is le (zero, room, g) = absurd (omega arith)
more sessions whole before bs rest next e some r less is le (suc n, room, g) = (n, omega arith, g ∙ rw (some_left bs some, r, is) refl)

pub fails : (sessions : ℕ) (whole : Result (List Event) Fault) (before : List Event) (bs : List ℕ) (f : Fault)
    → 0 < length bs → event_at sessions bs ≡ Err f → Going sessions whole before bs → whole ≡ Err f
fails sessions whole before bs f some r (zero, room, g) = absurd (omega arith)
fails sessions whole before bs f some r (suc n, room, g) = g ∙ rw (some_left bs some, r) refl

pub done : (sessions : ℕ) (whole : Result (List Event) Fault) (before : List Event) (bs : List ℕ)
    → length bs ≤ 0 → Going sessions whole before bs → whole ≡ Ok before
done sessions whole before bs none (zero, room, g) = absurd (omega arith)
done sessions whole before bs none (suc n, room, g) = g ∙ rw (none_left bs none) refl

pub begins : (sessions : ℕ) (text here : List ℕ) (none : List Event) → none ≡ [] → here ≡ after_blanks text → length here ≤ length text
    → Going sessions (schedule_text sessions text) none here
unfolding schedule_text
begins sessions text here none e is le = (
  suc (length text),
  omega arith,
  ap (λ (b : List Event). events_from (suc (length text)) sessions b (after_blanks text)) (sym e)
      ∙ ap (λ (bs : List ℕ). events_from (suc (length text)) sessions none bs) (sym is),
)
