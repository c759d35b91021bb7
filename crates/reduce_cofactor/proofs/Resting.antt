-- Entries and their leads, and where no step is due.
use Rattle.std.proofs.Common.{◌≡◌, ℕ, zero, suc, ◌+◌, ◌-◌, ◌≤◌, ◌<◌, ◌/◌, ℤ, pos, negsuc, List, [], ◌∷◌, length, take, drop, get_or, sym, ap, ◌∙◌, subst, arith}
use Rattle.std.specs.Prelude.{◌<ℤ◌, Some, slice_get}
use Rattle.std.specs.Int.{int_div_euclid}
use Rattle.std.specs.List.{AllByRecursion}
use Rattle.std.proofs.lemmas.List.{take_all}
use Rattle.std.proofs.lemmas.Option.{slice_get_within}
use borrow.Author.Differences.{ints}
use Rattle.formal_sums.proofs.Floors.{zero_floor}
use Rattle.laurent_terms.specs.declared.TheConstants.{DEGREE}
use Rattle.laurent_terms.specs.Monomials.{degree, quotient}
use Rattle.laurent_terms.proofs.Combining.{sum-quotient}
use Rattle.module_vec.specs.declared.places.Place.{Place}
use Rattle.module_vec.specs.declared.places.Term.{Term}
use Rattle.module_vec.specs.declared.steps.Step.{Step}
use Rattle.module_vec.specs.Places.{IsPlace}
use Rattle.module_vec.specs.Vectors.{Coefficients, InRange, HasRoom}
use Rattle.module_vec.specs.Reducers.{IsEntry, AreEntries, Entry, IsReducer, FindsReducer}
use Rattle.module_vec.specs.Chains.{Rests}
use Rattle.module_vec.proofs.Determined.{same_reducer}
use Rattle.module_vec.proofs.FallingTerms.{Falls, all_drop, room_each}
use Rattle.reduce_cofactor.specs.Steps.{IsStepAt, RestsWith}
use Rattle.std.specs.Prelude.{None, Result, Ok, Err, MatchResult}
use Rattle.std.specs.Result.{IsErrAnd}

-- ---- entries

all_get : {A : Type 0} (P : A → Type 0) (v : List A) (i : ℕ) (x : A) → AllByRecursion P v → slice_get v i ≡ Some x → P x
all_get P [] i x h e = absurd cc
all_get P (y ∷ v) zero x h e = let same : y ≡ x = cc in subst P same h.0
all_get P (y ∷ v) (suc i) x h e = all_get P v i x h.1 e

pub get_take : {A : Type 0} (n i : ℕ) (v : List A) (x : A) → slice_get (take n v) i ≡ Some x → slice_get v i ≡ Some x
get_take zero i v x e = absurd cc
get_take (suc n) i [] x e = absurd cc
get_take (suc n) zero (y ∷ v) x e = e
get_take (suc n) (suc i) (y ∷ v) x e = get_take n i v x e

pub entries_take : (n : ℕ) (b : List (List Term)) → AreEntries b → AreEntries (take n b)
entries_take zero b h = tt
entries_take (suc n) [] h = tt
entries_take (suc n) (v ∷ b) h = (h.0, entries_take n b h.1)

pub entry_at : (b : List (List Term)) (i : ℕ) (e : Term) (g : List Term) → AreEntries b → Entry b i e g → IsEntry (e ∷ g)
entry_at b i e g h r = all_get IsEntry b i (e ∷ g) h r

pub lead_positive : (e : Term) (g : List Term) → IsEntry (e ∷ g) → pos 0 <ℤ e.k
lead_positive e g h =
    let whole : e ∷ g ≡ h.lead ∷ h.others = h.is in
    let same : h.lead ≡ e = cc in
    subst (λ (t : Term). pos 0 <ℤ t.k) same h.positive

same_lead : (b : List (List Term)) (i j : ℕ) (e f : Term) (g h : List Term) → i ≡ j → Entry b i e g → Entry b j f h → e ≡ f
same_lead b i j e f g h is first second = let both : Some (e ∷ g) ≡ Some (f ∷ h) = sym first ∙ ap (slice_get b) is ∙ second in cc

-- ---- no step is due

-- whether one is depends on the coefficient there alone
pub rests_at : (b : List (List Term)) (f g : Coefficients) (p : Place) → f p ≡ g p → Rests b f p → Rests b g p
rests_at b f g p e r i t h d = r i t h (record { reducer = d.reducer; moves = λ z. d.moves (ap (λ k. int_div_euclid k t.k) (sym e) ∙ z) })

pub rests_zero : (b : List (List Term)) (f : Coefficients) (p : Place) → AreEntries b → f p ≡ pos 0 → Rests b f p
rests_zero b f p h e i t g d =
    let positive : pos 0 <ℤ t.k = lead_positive t g (entry_at b i t g h d.reducer.entry) in
    d.moves (ap (λ k. int_div_euclid k t.k) e ∙ zero_floor (pos 0) t.k (omega (arith, ints)) positive)

-- where the floor by the reducer's lead is 0
pub rests_left : (b : List (List Term)) (f : Coefficients) (p : Place) (i : ℕ) (e : Term) (g : List Term) → IsReducer b p i e g
    → int_div_euclid (f p) e.k ≡ pos 0 → Rests b f p
rests_left b f p i e g r z j t h d =
    let same : e ≡ t = same_lead b i j e t g h (same_reducer b p i j e t g h r d.reducer) r.entry d.reducer.entry in
    d.moves (ap (λ (u : Term). int_div_euclid (f p) u.k) (sym same) ∙ z)

pub rests_without : (b : List (List Term)) (t : Term) → FindsReducer b t.at None → RestsWith b t
rests_without b t none f e i u g d = none i u g d.reducer.entry d.reducer.reduces

pub rests_with : (b : List (List Term)) (t : Term) (i : ℕ) (e : Term) (g : List Term) → IsReducer b t.at i e g → int_div_euclid t.k e.k ≡ pos 0 → RestsWith b t
rests_with b t i e g r z f is = rests_left b f t.at i e g r (ap (λ k. int_div_euclid k e.k) is ∙ z)

-- ---- the floor stays in range

quotient_le : (a l : ℕ) → 0 < l → a / l ≤ a
quotient_le a l h = grind arith

pub floor_in_range : (k l : ℤ) → pos 0 <ℤ l → InRange k → InRange (int_div_euclid k l)
floor_in_range (pos a) (pos l) h w = let le : a / l ≤ a = quotient_le a l (omega (arith, ints)) in omega (arith, w, le)
floor_in_range (negsuc a) (pos l) h w = let le : a / l ≤ a = quotient_le a l (omega (arith, ints)) in omega (arith, w, le)
floor_in_range k (negsuc l) h w = absurd (omega (arith, ints))

-- ---- what is read of an entry

-- the vector that is read is the entry
pub read_entry : (vs : List (List Term)) (front i : ℕ) (v : List Term) (e : Term) (g : List Term) → Entry (take front vs) i e g
    → slice_get vs i ≡ Some v → v ≡ e ∷ g
read_entry vs front i v e g r a = let both : Some (e ∷ g) ≡ Some v = sym (get_take front i vs (e ∷ g) r) ∙ a in cc

-- and its first term the lead
pub read_lead : (vs : List (List Term)) (front i : ℕ) (v terms : List Term) (e : Term) (g : List Term) (x : Term) → Entry (take front vs) i e g
    → slice_get vs i ≡ Some v → terms ≡ v → x ≡ get_or terms 0 x → e ≡ x
read_lead vs front i v terms e g x r a same read = sym (read ∙ ap (λ w. get_or w 0 x) (same ∙ read_entry vs front i v e g r a))

-- an entry in two parts, as the code reads it
pub read_parts : (b : List (List Term)) (i : ℕ) (e : Term) (g entry terms : List Term) (x : Term) → Entry b i e g → slice_get b i ≡ Some entry → terms ≡ entry
    → x ≡ get_or terms 0 x → (e ≡ x) × (g ≡ take (length terms - 1) (drop 1 terms))
read_parts b i e g entry terms x r a same read = (
  sym (read ∙ ap (λ w. get_or w 0 x) whole),
  sym (ap (λ w. take (length w - 1) (drop 1 w)) whole
      ∙ ap (λ n. take n g) one_less ∙ take_all (length g) g (omega arith)),
)
  where
    whole : terms ≡ e ∷ g
    whole = let both : Some (e ∷ g) ≡ Some entry = sym r ∙ a in let last : entry ≡ e ∷ g = cc in same ∙ last

    one_less : suc (length g) - 1 ≡ length g
    one_less = omega arith

all_take : {A : Type 0} (P : A → Type 0) (n : ℕ) (v : List A) → AllByRecursion P v → AllByRecursion P (take n v)
all_take P zero v h = tt
all_take P (suc n) [] h = tt
all_take P (suc n) (x ∷ v) h = (h.0, all_take P n v h.1)

-- no term of the multiple passes the greatest degree
pub room_behind : (t : List ℕ) (entry terms : List Term) (n : ℕ) → Falls entry → HasRoom t entry → terms ≡ entry → HasRoom t (take n (drop 1 terms))
room_behind t entry terms n f h same = subst (λ w. HasRoom t (take n (drop 1 w))) (sym same)
    (first_room (take n (drop 1 entry)) (all_take _ n (drop 1 entry) (all_drop _ 1 entry (room_each t entry f h))))
  where
    first_room : (g : List Term) → AllByRecursion (λ u. degree t + degree u.at.m ≤ DEGREE) g → HasRoom t g
    first_room [] all = tt
    first_room (e ∷ g) all = all.0

-- the number of the reducer is in the list
pub in_list : (vs : List (List Term)) (front i : ℕ) (e : Term) (g : List Term) → Entry (take front vs) i e g → i < length vs
in_list vs front i e g r = slice_get_within vs i (e ∷ g) (get_take front i vs (e ∷ g) r)

-- the multiple stands at the place of t, so its degree is that of t
pub room_at : (vs : List (List Term)) (front : ℕ) (t : Term) (s : Step) (v : List Term) → AreEntries vs → IsPlace t.at → IsStepAt (take front vs) t s
    → slice_get vs s.by ≡ Some v → HasRoom s.t v
room_at vs front t s v h place due e = subst (HasRoom s.t) (sym (read_entry vs front s.by v due.lead due.others due.reducer.entry e)) room
  where
    entry : IsEntry (due.lead ∷ due.others)
    entry = entry_at (take front vs) s.by due.lead due.others (entries_take front vs h) due.reducer.entry

    sums : degree (quotient t.at.m due.lead.at.m) + degree due.lead.at.m ≡ degree t.at.m
    sums = sum-quotient t.at.m due.lead.at.m (place.variables ∙ sym entry.vector.sparse.terms.0.place.variables) due.reducer.reduces.1

    room : degree s.t + degree due.lead.at.m ≤ DEGREE
    room = omega (arith, ap degree due.monomial, sums, place.most)

pub factor_in_range : (vs : List (List Term)) (front : ℕ) (t : Term) (s : Step) → AreEntries vs → InRange t.k → IsStepAt (take front vs) t s → InRange s.q
factor_in_range vs front t s h range due =
    let entry : IsEntry (due.lead ∷ due.others) = entry_at (take front vs) s.by due.lead due.others (entries_take front vs h) due.reducer.entry in
    subst InRange (sym due.factor) (floor_in_range t.k due.lead.k (lead_positive due.lead due.others entry) range)

-- ---- what an error says

pub err_matches : {A E : Type 0} (R : A → Type 0) (answer : Result A E) (P Q : E → Type 0) → IsErrAnd answer P → ((e : E) → P e → Q e) → MatchResult answer R Q
err_matches R (Ok x) P Q h f = absurd h
err_matches R (Err e) P Q h f = f e h

-- the vector that is read stands in the front of the list
pub entry_before : (vs : List (List Term)) (front i : ℕ) (v : List Term) (e : Term) (g : List Term) → Entry (take front vs) i e g → slice_get vs i ≡ Some v
    → slice_get (take front vs) i ≡ Some v
entry_before vs front i v e g r a = r ∙ ap Some (sym (read_entry vs front i v e g r a))
