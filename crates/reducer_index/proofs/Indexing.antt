-- The index as a whole: one more lead, and what a search along the candidates finds among the leads.
use Rattle.std.proofs.Common.{◌≡◌, ℕ, zero, suc, ◌+◌, ◌<◌, ◌≤◌, ◌^◌, List, [], ◌∷◌, ◌++◌, length, take, drop, length-append, append_assoc, ◌⊎◌, inl, inr, sym}
use Rattle.std.proofs.Common.{ap, subst, ◌∙◌, arith}
use borrow.Author.Differences.{ints}
use Rattle.std.proofs.lemmas.List.{take-append-drop}
use Rattle.std.proofs.lemmas.Option.{slice_get_within}
use Rattle.std.specs.Prelude.{Option, Some, None, slice_get}
use Rattle.std.specs.List.{AllByRecursion, insert}
use Rattle.module_vec.specs.declared.places.Place.{Place}
use Rattle.module_vec.specs.declared.places.Term.{Term}
use Rattle.module_vec.specs.Reducers.{Reduces, GoesBefore}
use Rattle.module_vec.proofs.Scans.{read_push_old}
use Rattle.reducer_index.specs.declared.candidates.Candidate.{Candidate}
use Rattle.reducer_index.specs.Candidates.{IsCandidateOf, Precedes, IsInOrder, HasNumber, IsIndex, IsReducing, IsPassed, IsFound, FindsFirst, BeginsAt}
use Rattle.reducer_index.specs.Leads.{FindsLead}
use Rattle.reducer_index.proofs.Leading.{taken_read, read_taken}
use Rattle.reducer_index.proofs.Searching.{all_append, all_insert, all_weaker, same_lead, other_component}

-- ---- candidates by number
has_insert : (i : ℕ) (xs ys : List Candidate) (x : Candidate) → HasNumber i (xs ++ ys) → HasNumber i (xs ++ x ∷ ys)
has_insert i [] ys x h = inr h
has_insert i (y ∷ xs) ys x (inl h) = inl h
has_insert i (y ∷ xs) ys x (inr h) = inr (has_insert i xs ys x h)

has_own : (i : ℕ) (xs ys : List Candidate) (x : Candidate) → x.number ≡ i → HasNumber i (xs ++ x ∷ ys)
has_own i [] ys x h = inl h
has_own i (y ∷ xs) ys x h = inr (has_own i xs ys x h)

has_either : (i : ℕ) (xs ys : List Candidate) → HasNumber i (xs ++ ys) → HasNumber i xs ⊎ HasNumber i ys
has_either i [] ys h = inr h
has_either i (x ∷ xs) ys (inl h) = inl (inl h)
has_either i (x ∷ xs) ys (inr h) = by (has_either i xs ys h)
  where
    by : HasNumber i xs ⊎ HasNumber i ys → HasNumber i (x ∷ xs) ⊎ HasNumber i ys
    by (inl k) = inl (inr k)
    by (inr k) = inr k

has_among : (P : Candidate → Type 0) (xs : List Candidate) → AllByRecursion P xs → (i : ℕ) → HasNumber i xs → (y : Candidate) × P y × (y.number ≡ i)
has_among P [] all i h = absurd h
has_among P (x ∷ xs) all i (inl h) = (x, all.0, h)
has_among P (x ∷ xs) all i (inr h) = has_among P xs all.1 i h

-- ---- one more lead
pub older : (es : List Term) (n : ℕ) (xs : List Candidate) → n ≡ length es → AllByRecursion (IsCandidateOf es) xs → AllByRecursion (λ x. x.number < n) xs
older es n xs e all = all_weaker (IsCandidateOf es) (λ (x : Candidate). x.number < n) xs
    (λ x of. omega (arith, e, slice_get_within es x.number of.lead of.is)) all

pub still_candidate : (es : List Term) (t : Term) (x : Candidate) → IsCandidateOf es x → IsCandidateOf (es ++ t ∷ []) x
still_candidate es t x of = record {
  lead = of.lead;
  is = read_push_old t es x.number of.lead of.is;
  component = of.component;
  coefficient = of.coefficient;
  mask = of.mask;
}

last_cases : (i n : ℕ) → i < n + 1 → (i < n) ⊎ (n ≡ i)
last_cases i zero lt = inr (omega (arith, lt))
last_cases zero (suc n) lt = inl (omega arith)
last_cases (suc i) (suc n) lt = by (last_cases i n (omega (arith, lt)))
  where
    by : (i < n) ⊎ (n ≡ i) → (suc i < suc n) ⊎ (suc n ≡ suc i)
    by (inl h) = inl (omega (arith, h))
    by (inr h) = inr (ap suc h)

pub index_more : (es : List Term) (xs : List Candidate) (t : Term) (x : Candidate) (at : ℕ) → IsIndex es xs → x.number ≡ length es
    → IsCandidateOf (es ++ t ∷ []) x
    → IsInOrder (insert xs at x) → length es + 1 < 2 ^ 32 → IsIndex (es ++ t ∷ []) (insert xs at x)
index_more es xs t x at h number own order few = record {
  candidates = all_insert (IsCandidateOf (es ++ t ∷ [])) (take at xs) (drop at xs) x
      (subst (AllByRecursion (IsCandidateOf (es ++ t ∷ []))) (sym (take-append-drop at xs))
      (all_weaker (IsCandidateOf es) (IsCandidateOf (es ++ t ∷ [])) xs (still_candidate es t) h.candidates)) own;
  order = order;
  all = λ i lt. by i (last_cases i (length es) (omega (arith, lt, length-append es (t ∷ []))));
  few = omega (arith, few, length-append es (t ∷ []));
}
  where
    by : (i : ℕ) → (i < length es) ⊎ (length es ≡ i) → HasNumber i (insert xs at x)
    by i (inl old) = has_insert i (take at xs) (drop at xs) x (subst (HasNumber i) (sym (take-append-drop at xs)) (h.all i old))
    by i (inr new) = has_own i (take at xs) (drop at xs) x (number ∙ new)

pub index_none : IsIndex [] []
index_none = record { candidates = tt; order = tt; all = λ i lt. absurd (omega (arith, lt)); few = omega arith }

-- ---- what is found
module _ (es : List Term) (front : ℕ) (p : Place) (xs : List Candidate) (within : front ≤ length es) (h : IsIndex es xs) where
  none_found : AllByRecursion (IsPassed es front p) xs → FindsLead (take front es) p None
  none_found all i e read reduces =
      let own = taken_read front es i e read in
      let y = has_among (IsPassed es front p) xs all i (h.all i (omega (arith, own.0, within))) in
      y.1 (omega (arith, y.2, own.0)) (e, subst (λ (n : ℕ). slice_get es n ≡ Some e) (sym y.2) own.1, reduces)

  -- the first that isn't passed
  module _ (passed others : List Candidate) (x : Candidate) (split : xs ≡ passed ++ x ∷ others) (below : x.number < front) (reducing : IsReducing es p x)
      (all : AllByRecursion (IsPassed es front p) passed) (of : IsCandidateOf es x) (behind : AllByRecursion (λ y. Precedes x y
      × IsCandidateOf es y) others) where
    abbrev e : Term
    e = reducing.0

    own : of.lead ≡ e
    own = same_lead es x.number of.lead e of.is reducing.1

    goes_first : (y : Candidate) (f : Term) → IsCandidateOf es y → slice_get es y.number ≡ Some f → Reduces f p → Precedes x y
        → GoesBefore e.k x.number f.k y.number
    goes_first y f c read reduces before = by before
      where
        same : c.lead ≡ f
        same = same_lead es y.number c.lead f c.is read

        first : x.component ≡ p.c
        first = of.component ∙ ap (λ (t : Term). t.at.c) own ∙ reducing.2.0

        second : y.component ≡ p.c
        second = c.component ∙ ap (λ (t : Term). t.at.c) same ∙ reduces.0

        k : x.coefficient ≡ e.k
        k = of.coefficient ∙ ap (λ (t : Term). t.k) own

        l : y.coefficient ≡ f.k
        l = c.coefficient ∙ ap (λ (t : Term). t.k) same

        by_coefficient : GoesBefore x.coefficient x.number y.coefficient y.number → GoesBefore e.k x.number f.k y.number
        by_coefficient (inl lt) = inl (omega (arith, ints, lt, k, l))
        by_coefficient (inr equal) = inr (sym k ∙ equal.0 ∙ l, equal.1)

        by : Precedes x y → GoesBefore e.k x.number f.k y.number
        by (inl lt) = absurd (omega (arith, lt, first, second))
        by (inr (equal, before)) = by_coefficient before

    one_found : FindsLead (take front es) p (Some x.number)
    one_found = (
      e,
      record {
        lead = read_taken front es x.number e below reducing.1;
        reduces = reducing.2;
        first = λ j f read reduces. by j f (taken_read front es j f read) reduces;
      },
    )
      where
        at_behind : (j : ℕ) (f : Term) → j < front → slice_get es j ≡ Some f → Reduces f p → HasNumber j (x ∷ others) → GoesBefore e.k x.number f.k j
        at_behind j f lt read reduces (inl here) =
            let same : e ≡ f = same_lead es j e f (subst (λ (n : ℕ). slice_get es n ≡ Some e) here reducing.1) read in
            inr (ap (λ (t : Term). t.k) same, omega (arith, here))
        at_behind j f lt read reduces (inr later) =
            let y = has_among (λ (z : Candidate). Precedes x z × IsCandidateOf es z) others behind j later in
            subst (GoesBefore e.k x.number f.k) y.2 (goes_first y.0 f y.1.1 (subst (λ (n : ℕ). slice_get es n ≡ Some f) (sym y.2) read) reduces y.1.0)

        at_either : (j : ℕ) (f : Term) → j < front → slice_get es j ≡ Some f → Reduces f p → HasNumber j passed ⊎ HasNumber j (x ∷ others)
            → GoesBefore e.k x.number f.k j
        at_either j f lt read reduces (inl before) =
            let y = has_among (IsPassed es front p) passed all j before in
            absurd (y.1 (omega (arith, y.2, lt)) (f, subst (λ (n : ℕ). slice_get es n ≡ Some f) (sym y.2) read, reduces))
        at_either j f lt read reduces (inr k) = at_behind j f lt read reduces k

        by : (j : ℕ) (f : Term) → (j < front) × (slice_get es j ≡ Some f) → Reduces f p → GoesBefore e.k x.number f.k j
        by j f (lt, read) reduces = at_either j f lt read reduces (has_either j passed (x ∷ others)
            (subst (HasNumber j) split (h.all j (omega (arith, lt, within)))))

-- ---- from the candidates of a component on
all_of_both : {X : Type 0} (P Q : X → Type 0) (xs : List X) → AllByRecursion P xs → AllByRecursion Q xs → AllByRecursion (λ x. P x × Q x) xs
all_of_both P Q [] p q = tt
all_of_both P Q (x ∷ xs) p q = ((p.0, q.0), all_of_both P Q xs p.1 q.1)

all_first : {X : Type 0} (P : X → Type 0) (xs ys : List X) → AllByRecursion P (xs ++ ys) → AllByRecursion P xs
all_first P [] ys h = tt
all_first P (x ∷ xs) ys h = (h.0, all_first P xs ys h.1)

all_last : {X : Type 0} (P : X → Type 0) (xs ys : List X) → AllByRecursion P (xs ++ ys) → AllByRecursion P ys
all_last P [] ys h = h
all_last P (x ∷ xs) ys h = all_last P xs ys h.1

order_last : (xs ys : List Candidate) → IsInOrder (xs ++ ys) → IsInOrder ys
order_last [] ys h = h
order_last (x ∷ xs) ys h = order_last xs ys h.1

lower_passed : (es : List Term) (front : ℕ) (p : Place) (xs : List Candidate) → AllByRecursion (IsCandidateOf es) xs
    → AllByRecursion (λ x. x.component < p.c) xs → AllByRecursion (IsPassed es front p) xs
lower_passed es front p [] of lower = tt
lower_passed es front p (x ∷ xs) of lower =
    let lt : x.component < p.c = lower.0 in
    (other_component es front p x of.0 (λ same. omega (arith, same, lt)), lower_passed es front p xs of.1 lower.1)

pub rest_candidates : (es : List Term) (xs rest : List Candidate) (c : ℕ) → IsIndex es xs → BeginsAt c xs rest → AllByRecursion (IsCandidateOf es) rest
rest_candidates es xs rest c h begins = all_last (IsCandidateOf es) begins.before rest (subst (AllByRecursion (IsCandidateOf es)) begins.split h.candidates)

pub rest_order : (es : List Term) (xs rest : List Candidate) (c : ℕ) → IsIndex es xs → BeginsAt c xs rest → IsInOrder rest
rest_order es xs rest c h begins = order_last begins.before rest (subst IsInOrder begins.split h.order)

pub lead_found : (es : List Term) (front : ℕ) (p : Place) (xs rest : List Candidate) (r : Option ℕ) → front ≤ length es → IsIndex es xs → BeginsAt p.c xs rest
    → FindsFirst es front p rest r
    → FindsLead (take front es) p r
lead_found es front p xs rest r within h begins found = by r found
  where
    low : AllByRecursion (IsPassed es front p) begins.before
    low = lower_passed es front p begins.before (all_first (IsCandidateOf es) begins.before rest
        (subst (AllByRecursion (IsCandidateOf es)) begins.split h.candidates)) begins.lower

    by_number : (n : ℕ) → IsFound es front p rest n → FindsLead (take front es) p (Some n)
    by_number n f =
        let x = f.found in
        let ofs : AllByRecursion (IsCandidateOf es) (x ∷ f.others) =
        all_last (IsCandidateOf es) f.passed (x ∷ f.others) (subst (AllByRecursion (IsCandidateOf es)) f.split (rest_candidates es xs rest p.c h begins))
        in
        let whole : xs ≡ (begins.before ++ f.passed) ++ x ∷ f.others = begins.split ∙ ap (λ (l : List Candidate). begins.before ++ l) f.split
        ∙ sym (append_assoc begins.before f.passed (x ∷ f.others)) in
        subst (λ (m : ℕ). FindsLead (take front es) p (Some m)) f.number
        (one_found es front p xs within h (begins.before ++ f.passed) f.others x whole (omega (arith, f.number, f.below)) f.reducing
        (all_append (IsPassed es front p) begins.before f.passed low f.all) ofs.0 (all_of_both (Precedes x) (IsCandidateOf es) f.others f.order ofs.1))

    by : (s : Option ℕ) → FindsFirst es front p rest s → FindsLead (take front es) p s
    by None all = none_found es front p xs within h (subst (AllByRecursion (IsPassed es front p)) (sym begins.split)
        (all_append (IsPassed es front p) begins.before rest low all))
    by (Some n) f = by_number n f
