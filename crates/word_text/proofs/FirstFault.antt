-- The first fault of a text, above any reader.
use Rattle.std.proofs.Common.{◌≡◌, inl, inr, ℕ, ◌<◌, ◌≤◌, List, [], ◌∷◌, ◌++◌, length, drop, Err, refl, sym, ◌∙◌, subst}
use Rattle.free_words.specs.declared.letter.Letter.{Letter}
use Rattle.word_text.specs.declared.fault.Fault.{Fault}
use Rattle.word_text.specs.declared.fault.TextKind.{TextKind}
use Rattle.word_text.specs.declared.fault.TextKind.TheVariants.{UnknownName, ExponentTooLarge, WordTooLong}
use Rattle.word_text.specs.declared.machine.Spot.{Spot}
use Rattle.word_text.specs.declared.scan.Mark.{Mark}
use Rattle.word_text.specs.declared.scan.Mark.TheVariants as marks
use Rattle.word_text.specs.Scan.{is_digit, after_blanks, digits_at, mark_of, kind_due, due}
use Rattle.word_text.specs.Machine.{Opening, Round, Square, Second, Frame, Find, word_at}
use Rattle.word_text.specs.Place.{text_within, word_text}
use Rattle.word_text.specs.Powers.{written}
use Rattle.word_text.specs.Fronts.{Begins, FactorAt, Passes}
use Rattle.word_text.specs.Faults.{IsSomeWord, IsFront, Refused, IsBad, IsFault, bytes_before, bytes_from}
use Rattle.word_text.proofs.Lexing.{blanks_once}
use Rattle.word_text.proofs.Ends.{before_is, from_is, left_within}
use Rattle.word_text.proofs.Exponents.{NoSize, SizePlace}
use Rattle.word_text.proofs.Inside.{Opened, Inside, Stops}
use Rattle.word_text.proofs.Reached.{text_stops}
use Rattle.word_text.proofs.Completed.{Splits, inside_splits}
use Rattle.word_text.proofs.Carets.{exponent_splits}
use Rattle.word_text.proofs.Refused.{SameFirst, inside_clear, refuses_blocked, refused_by, run_first, refuses_name}
use Rattle.word_text.proofs.RefusedNumbers.{refuses_exponent, no_size_due, no_size_large}
use Rattle.word_text.proofs.RefusedLengths.{refuses_power, refuses_product, refuses_commutator, refused_within}
use Rattle.word_text.proofs.BadBytes.{bad_is, is_bad}

-- where a fault stands
pub no_size_left : (place : List ℕ) (e : Fault) → NoSize place e → length place ≡ e.left
no_size_left place e (inl h) = rw (h.1) refl
no_size_left place e (inr h) = rw (h.2) refl

abbrev FrontEnds : Find → List ℕ → Fault → Type 0
FrontEnds find text e = (place : List ℕ) × (length place ≡ e.left) × Splits find text place

fault_splits : (limit : ℕ) (find : Find) (text : List ℕ) (e : Fault) → Stops limit find (after_blanks text) e → FrontEnds find text e
fault_splits limit find text _ (Stops.blocked frames w spot bs h b) = (bs, refl, inside_splits limit find text frames w spot bs h)
fault_splits limit find text _ (Stops.unknown frames w spot bs h m f) = (bs, refl, inside_splits limit find text frames w spot bs h)
fault_splits limit find text _ (Stops.no_exponent frames outer spot place mid at a v e h atom p c x) =
    (x.0, no_size_left x.0 e x.2, exponent_splits limit find text frames outer a v spot place mid at x.0 h atom p c x.1)
fault_splits limit find text _ (Stops.long_power frames outer spot place mid at last a v negative n h atom p c x long) =
    (place, refl, inside_splits limit find text frames outer spot place h)
fault_splits limit find text _ (Stops.long_commutator frames outer spot s t place mid last u v h m a c b d long) =
    (place, refl, inside_splits limit find text frames outer spot place h)
fault_splits limit find text _ (Stops.long_product frames outer spot place rest v h f long) =
    (place, refl, inside_splits limit find text frames outer spot place h)

front_of : (find : Find) (text : List ℕ) (e : Fault) → FrontEnds find text e → (e.left ≤ length text) × IsFront find (bytes_before text e.left)
front_of find text e f =
    (left_within text f.2.0 f.0 e.left f.2.1 f.1, subst (λ (l : List ℕ). IsFront find l) (sym (before_is text f.2.0 f.0 e.left f.2.1 f.1)) f.2.2)

-- what stands before a fault is the front of a word
pub before_fault : (find : Find) (text : List ℕ) (e : Fault) → word_text find text ≡ Err e → (e.left ≤ length text) × IsFront find (bytes_before text e.left)
before_fault find text e q = front_of find text e (fault_splits written find text e (text_stops written find text e q))

-- a factor may stand where a reading has come to
begins_inside : (limit : ℕ) (find : Find) (text : List ℕ) (opening : Opening) (u : List Letter) (place begin : List ℕ) → FactorAt limit find text u place
    → Opened limit find opening place begin → Begins limit find text begin
begins_inside limit find text Round u place begin r o =
    subst (Begins limit find text) (sym o.1) (Begins.in_round r.begin place r.spot u r.begins r.so_far o.0)
begins_inside limit find text Square u place begin r o =
    subst (Begins limit find text) (sym o.1) (Begins.in_square r.begin place r.spot u r.begins r.so_far o.0)
begins_inside limit find text (Second v) u place begin r o =
    subst (Begins limit find text) (sym o.5) (Begins.behind_comma r.begin place o.1 r.spot o.0 u v r.begins r.so_far o.2 o.3 o.4)

factor_at : (limit : ℕ) (find : Find) (text : List ℕ) (frames : List Frame) (w : List Letter) (spot : Spot) (bs : List ℕ)
    → Inside limit find (after_blanks text) frames w spot bs → FactorAt limit find text w bs
factor_at limit find text [] w spot bs h = record { begin = after_blanks text; spot = spot; begins = Begins.outermost; so_far = h }
factor_at limit find text (f ∷ fs) w spot bs h =
    let r = factor_at limit find text fs f.outer h.2 h.0 h.3 in
    record { begin = h.1; spot = spot; begins = begins_inside limit find text f.opening f.outer h.0 h.1 r h.4; so_far = h.5 }

-- the kind of a fault at a byte that can't stand there
not_bad : (bs : List ℕ) (m : Mark) → mark_of bs ≡ m → (m ≡ marks.Bad → ⊥) → IsBad bs → ⊥
not_bad bs m e n h = n (sym e ∙ is_bad bs h)

by_due : (find : Find) (text front bs : List ℕ) (m : Mark) → mark_of bs ≡ m → after_blanks bs ≡ bs → Refused find front bs
    → IsFault find text front bs (kind_due m)
by_due find text front bs marks.Bad e c r = (bad_is bs e c, r)
by_due find text front bs marks.Letter e c r = (not_bad bs marks.Letter e (λ d. cc), r)
by_due find text front bs marks.One e c r = (not_bad bs marks.One e (λ d. cc), r)
by_due find text front bs marks.Round e c r = (not_bad bs marks.Round e (λ d. cc), r)
by_due find text front bs marks.Square e c r = (not_bad bs marks.Square e (λ d. cc), r)
by_due find text front bs marks.Star e c r = (not_bad bs marks.Star e (λ d. cc), r)
by_due find text front bs marks.Other e c r = (not_bad bs marks.Other e (λ d. cc), r)

-- a fault is what its kind says
abbrev FaultIs : Find → List ℕ → Fault → Type 0
FaultIs find text e = IsFault find text (bytes_before text e.left) (bytes_from text e.left) e.kind

at_place : (find : Find) (text place : List ℕ) (kind : TextKind) → Splits find text place → IsFault find text (bytes_before text (length place)) place kind
    → FaultIs find text (record { kind = kind; left = length place })
at_place find text place kind s h =
    subst (λ (l : List ℕ). IsFault find text (bytes_before text (length place)) l kind) (sym (from_is text s.0 place (length place) s.1 refl)) h

size_clear : (bs place : List ℕ) → SizePlace bs place → after_blanks bs ≡ bs → after_blanks place ≡ place
size_clear bs place (inl p) c = subst (λ (l : List ℕ). after_blanks l ≡ l) (sym p.1) (blanks_once (drop 1 bs))
size_clear bs place (inr p) c = subst (λ (l : List ℕ). after_blanks l ≡ l) (sym p.1) c

digits_first : (bs cs : List ℕ) → 0 < length (digits_at bs) → digits_at cs ≡ digits_at bs → SameFirst bs cs
unfolding digits_at
digits_first bs cs lt e = run_first is_digit bs cs lt e

-- what stands behind `^` is refused, in all its continuations
abbrev RefusesSizes : Find → List ℕ → List ℕ → Type 0
RefusesSizes find text place = (cs : List ℕ) (e : Fault) → SameFirst place cs → NoSize cs e → IsSomeWord find (bytes_before text (length place) ++ cs) → ⊥

number_fault : (find : Find) (text place : List ℕ) (e : Fault) → Splits find text place → after_blanks place ≡ place → RefusesSizes find text place
    → NoSize place e
    → FaultIs find text e
number_fault find text place e s c r (inl z) =
    subst (FaultIs find text) (sym z.1) (at_place find text place (kind_due (mark_of place)) s
    (by_due find text (bytes_before text (length place)) place (mark_of place) refl c
    (refused_by find (bytes_before text (length place)) place (λ cs f. r cs (due cs) f (no_size_due place cs f z.0)))))
number_fault find text place e s c r (inr z) =
    subst (FaultIs find text) (sym z.2) (at_place find text place ExponentTooLarge s
    (z.1, λ cs d. r cs (record { kind = ExponentTooLarge; left = length cs }) (digits_first place cs z.0 d) (no_size_large place cs d z.0 z.1)))

fault_is : (find : Find) (text : List ℕ) (e : Fault) → Stops written find (after_blanks text) e → FaultIs find text e
fault_is find text _ (Stops.blocked frames w spot bs h b) =
    at_place find text bs (kind_due (mark_of bs)) (inside_splits written find text frames w spot bs h)
    (by_due find text (bytes_before text (length bs)) bs (mark_of bs) refl (inside_clear written find (after_blanks text) frames w spot bs h (blanks_once text))
    (refused_by find (bytes_before text (length bs)) bs (refuses_blocked written find text frames w spot bs h b)))
fault_is find text _ (Stops.unknown frames w spot bs h m f) =
    at_place find text bs UnknownName (inside_splits written find text frames w spot bs h) (m, f, refuses_name written find text frames w spot bs h m f)
fault_is find text _ (Stops.no_exponent frames outer spot place mid at a v e h atom p c x) =
    number_fault find text x.0 e (exponent_splits written find text frames outer a v spot place mid at x.0 h atom p c x.1)
    (size_clear (after_blanks (drop 1 at)) x.0 x.1 (blanks_once (drop 1 at)))
    (refuses_exponent written find text frames outer a v spot place mid at x.0 h atom p c x.1) x.2
fault_is find text _ (Stops.long_power frames outer spot place mid at last a v negative n h atom p c x long) =
    at_place find text place WordTooLong (inside_splits written find text frames outer spot place h) (
      outer,
      last,
      factor_at written find text frames outer spot place h,
      Passes.by_power a v mid at last negative n atom p c x long,
      refused_within written find text last (refuses_power written find text frames outer a v spot place mid at last negative n h atom p c x long),
    )
fault_is find text _ (Stops.long_commutator frames outer spot s t place mid last u v h m a c b d long) =
    at_place find text place WordTooLong (inside_splits written find text frames outer spot place h) (
      outer,
      drop 1 last,
      factor_at written find text frames outer spot place h,
      Passes.by_commutator s t u v mid last m a c b d long,
      refused_within written find text (drop 1 last) (refuses_commutator written find text frames outer u v spot s t place mid last h m a c b d long),
    )
fault_is find text _ (Stops.long_product frames outer spot place rest v h f long) =
    at_place find text place WordTooLong (inside_splits written find text frames outer spot place h) (
      outer,
      rest,
      factor_at written find text frames outer spot place h,
      Passes.by_product v rest f long,
      refused_within written find text rest (refuses_product written find text frames outer v spot place rest h f long),
    )

pub first_fault : (find : Find) (text : List ℕ) (e : Fault) → word_text find text ≡ Err e
    → IsFault find text (bytes_before text e.left) (bytes_from text e.left) e.kind
first_fault find text e q = fault_is find text e (text_stops written find text e q)

-- a fault at the head of a text is the text's
pub head_fault : (find : Find) (text : List ℕ) (e : Fault) → word_at find text ≡ Err e → word_text find text ≡ Err e
unfolding text_within
head_fault find text e q = rw q refl
