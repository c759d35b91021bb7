-- Marks of what steps name.
use Rattle.std.proofs.Common.{◌≡◌, ◌⊎◌, ◌↔◌, inl, inr, ℕ, zero, suc, ◌+◌, ◌<◌, ◌≤◌, Bool, List, [], ◌∷◌, length, get_or, slice_get, slice_index_or, Some, None}
use Rattle.std.proofs.Common.{refl, sym, ap, subst, ◌∙◌, arith}
use Rattle.std.specs.List.{AllByRecursion}
use Rattle.module_vec.specs.declared.steps.Step.{Step}
use Rattle.report_reading.specs.declared.data.ReportData.{ReportData}
use Rattle.report_reading.specs.declared.entry.EntryData.{EntryData}
use Rattle.report_reading.specs.declared.replies.ReplyData.{ReplyData}
use Rattle.report_trimming.specs.Kept.{IsMarked}
use Rattle.report_trimming.specs.Used.{Name, NamedInProof, steps_in, IsNeeded, start, named, IsUsed}

pub some_same : {X : Type 0} {x y : X} → Some x ≡ Some y → x ≡ y
some_same e = cc

none_some : {X : Type 0} {x : X} → None ≡ Some x → ⊥
none_some e = cc

-- each step names an entry below n
pub names_below : (n : ℕ) (steps : List Step) → ((k : ℕ) → Name steps k → k < n) → AllByRecursion (λ s. s.by < n) steps
names_below n [] h = tt
names_below n (s ∷ ss) h = (
  h s.by (record { place = 0; step = s; is = refl; by = refl }),
  names_below n ss (λ k m. h k (record { place = suc m.place; step = m.step; is = m.is; by = m.by })),
)

-- what stands in a list stands before its end
pub within : {X : Type 0} (xs : List X) (i : ℕ) (x : X) → slice_get xs i ≡ Some x → i < length xs
within [] i x h = absurd (none_some h)
within (y ∷ xs) zero x h = omega arith
within (y ∷ xs) (suc i) x h = let l = within xs i x h in omega (arith, l)

-- a property of the start that goes over to what recipes name holds of all that is needed
pub needed : (Start P : ℕ → Type 0) (es : List EntryData) → ((k : ℕ) → Start k → P k)
    → ((j k : ℕ) (e : EntryData) → P j → slice_get es j ≡ Some e → Name (steps_in e.recipe) k → P k) → (k : ℕ) → IsNeeded Start es k → P k
needed Start P es first more k (start _ h) = first k h
needed Start P es first more k (named j _ e h is names) = more j k e (needed Start P es first more j h) is names

-- what is needed of a greater start
pub needed_more : (S T : ℕ → Type 0) (es : List EntryData) → ((k : ℕ) → S k → T k) → (k : ℕ) → IsNeeded S es k → IsNeeded T es k
needed_more S T es more k h = needed S (IsNeeded T es) es (λ i s. IsNeeded.start i (more i s)) (λ i j e a is names. IsNeeded.named i j e a is names) k h

-- ---- places

-- what a loop reads
pub got : {A : Type 0} (xs : List A) (i : ℕ) (x : A) → i < length xs → x ≡ get_or xs i x → slice_get xs i ≡ Some x
got [] i x lt is = absurd (omega (arith, lt))
got (y ∷ xs) zero x lt is = ap Some (sym is)
got (y ∷ xs) (suc i) x lt is = got xs i x (omega (arith, lt)) is

pub at_index : {A : Type 0} (xs : List A) (i : ℕ) (d : A) → i < length xs → slice_get xs i ≡ Some (slice_index_or xs i d)
at_index [] i d lt = absurd (omega (arith, lt))
at_index (x ∷ xs) zero d lt = refl
at_index (x ∷ xs) (suc i) d lt = at_index xs i d (omega (arith, lt))

-- a number up to another is below it or is it
pub below_or : (j n : ℕ) → j < n + 1 → (j < n) ⊎ (j ≡ n)
below_or zero zero lt = inr refl
below_or zero (suc n) lt = inl (omega arith)
below_or (suc j) zero lt = absurd (omega (arith, lt))
below_or (suc j) (suc n) lt = next (below_or j n (omega (arith, lt)))
  where
    next : (j < n) ⊎ (j ≡ n) → (suc j < suc n) ⊎ (suc j ≡ suc n)
    next (inl l) = inl (omega (arith, l))
    next (inr e) = inr (ap suc e)

-- ---- one more list of steps

pub step_named : (marks : List Bool) (steps : List Step) → ((i : ℕ) (s : Step) → slice_get steps i ≡ Some s → IsMarked marks s.by) → (k : ℕ) → Name steps k
    → IsMarked marks k
step_named marks steps set k n = subst (IsMarked marks) n.by (set n.place n.step n.is)

module _ (Old New : ℕ → Type 0) (kept : (k : ℕ) → Old k → New k) where
  -- of the proofs of one reply
  pub proofs_next : (proofs : List (List Step)) (index : ℕ) (steps : List Step) → slice_get proofs index ≡ Some steps
      → ((j k : ℕ) (ss : List Step) → j < index → slice_get proofs j ≡ Some ss → Name ss k → Old k)
      → ((k : ℕ) → Name steps k → New k)
      → (j k : ℕ) (ss : List Step) → j < index + 1 → slice_get proofs j ≡ Some ss → Name ss k → New k
  proofs_next proofs index steps read before set j k ss lt is n = by (below_or j index lt)
    where
      by : (j < index) ⊎ (j ≡ index) → New k
      by (inl l) = kept k (before j k ss l is n)
      by (inr e) = set k (subst (λ l. Name l k) (some_same (sym is ∙ (ap (slice_get proofs) e ∙ read))) n)

  -- of the replies
  pub replies_next : (rs : List ReplyData) (index : ℕ) (r : ReplyData) → slice_get rs index ≡ Some r
      → ((i j k : ℕ) (s : ReplyData) (ss : List Step) → i < index → slice_get rs i ≡ Some s → slice_get s.proofs j ≡ Some ss → Name ss k → Old k)
      → ((j k : ℕ) (ss : List Step) → slice_get r.proofs j ≡ Some ss → Name ss k → New k)
      → (i j k : ℕ) (s : ReplyData) (ss : List Step) → i < index + 1 → slice_get rs i ≡ Some s → slice_get s.proofs j ≡ Some ss → Name ss k → New k
  replies_next rs index r read before set i j k s ss lt is shown n = by (below_or i index lt)
    where
      by : (i < index) ⊎ (i ≡ index) → New k
      by (inl l) = kept k (before i j k s ss l is shown n)
      by (inr e) =
          let same : s ≡ r = some_same (sym is ∙ (ap (slice_get rs) e ∙ read)) in
          set j k ss (subst (λ (x : ReplyData). slice_get x.proofs j ≡ Some ss) same shown) n

pub proofs_only : (first old new : List Bool) (proofs : List (List Step)) (index : ℕ) (steps : List Step) → slice_get proofs index ≡ Some steps
    → ((k : ℕ) → IsMarked old k → IsMarked first k ⊎ ((j : ℕ) × (ss : List Step) × (slice_get proofs j ≡ Some ss) × Name ss k))
    → ((k : ℕ) → IsMarked new k → IsMarked old k ⊎ Name steps k)
    → (k : ℕ) → IsMarked new k → IsMarked first k ⊎ ((j : ℕ) × (ss : List Step) × (slice_get proofs j ≡ Some ss) × Name ss k)
proofs_only first old new proofs index steps read before set k h = by (set k h)
  where
    by : IsMarked old k ⊎ Name steps k → IsMarked first k ⊎ ((j : ℕ) × (ss : List Step) × (slice_get proofs j ≡ Some ss) × Name ss k)
    by (inl m) = before k m
    by (inr n) = inr (index, steps, read, n)

pub replies_only : (first old new : List Bool) (rs : List ReplyData) (index : ℕ) (r : ReplyData) → slice_get rs index ≡ Some r
    → ((k : ℕ) → IsMarked old k → IsMarked first k ⊎ NamedInProof rs k)
    → ((k : ℕ) → IsMarked new k → IsMarked old k ⊎ ((j : ℕ) × (ss : List Step) × (slice_get r.proofs j ≡ Some ss) × Name ss k))
    → (k : ℕ) → IsMarked new k → IsMarked first k ⊎ NamedInProof rs k
replies_only first old new rs index r read before set k h = by (set k h)
  where
    by : IsMarked old k ⊎ ((j : ℕ) × (ss : List Step) × (slice_get r.proofs j ≡ Some ss) × Name ss k) → IsMarked first k ⊎ NamedInProof rs k
    by (inl m) = before k m
    by (inr n) = inr (record { place = index; reply = r; subject = n.0; steps = n.1; replied = read; shown = n.2; names = n.3 })

-- ---- one more recipe, from the last entry on

abbrev pub IsLower : List EntryData → Type 0
IsLower es = (j k : ℕ) (e : EntryData) → slice_get es j ≡ Some e → Name (steps_in e.recipe) k → k < j

-- from entry x on, all that marked entries need is marked
abbrev pub IsClosed : List EntryData → List Bool → ℕ → Type 0
IsClosed es marks x = (j k : ℕ) (e : EntryData) → x ≤ j → IsMarked marks j → slice_get es j ≡ Some e → Name (steps_in e.recipe) k → IsMarked marks k

pub closed_next : (es : List EntryData) (old new : List Bool) (x : ℕ) (e : EntryData) → slice_get es x ≡ Some e → IsLower es
    → ((k : ℕ) → Name (steps_in e.recipe) k → IsMarked new k)
    → ((k : ℕ) → IsMarked old k → IsMarked new k)
    → ((k : ℕ) → IsMarked new k → IsMarked old k ⊎ Name (steps_in e.recipe) k)
    → IsClosed es old (x + 1) → IsClosed es new x
closed_next es old new x e read lower set kept only closed j k f le h is n = by (only j h) (below_or x j (omega (arith, le)))
  where
    by : IsMarked old j ⊎ Name (steps_in e.recipe) j → (x < j) ⊎ (x ≡ j) → IsMarked new k
    by (inl m) (inl lt) = kept k (closed j k f (omega (arith, lt)) m is n)
    by m (inr same) =
        set k (subst (λ (y : EntryData). Name (steps_in y.recipe) k) (some_same (sym is ∙ (ap (slice_get es) (sym same) ∙ read))) n)
    by (inr m) (inl lt) = let low = lower x j e read m in absurd (omega (arith, low, lt))

-- an entry that isn't marked needs nothing
pub closed_same : (es : List EntryData) (marks : List Bool) (x : ℕ) → (IsMarked marks x → ⊥) → IsClosed es marks (x + 1) → IsClosed es marks x
closed_same es marks x unmarked closed j k f le h is n = by (below_or x j (omega (arith, le)))
  where
    by : (x < j) ⊎ (x ≡ j) → IsMarked marks k
    by (inl lt) = closed j k f (omega (arith, lt)) h is n
    by (inr same) = absurd (unmarked (subst (IsMarked marks) (sym same) h))

pub only_next : (es : List EntryData) (first old new : List Bool) (x : ℕ) (e : EntryData) → slice_get es x ≡ Some e → IsMarked old x
    → ((k : ℕ) → IsMarked old k → IsNeeded (IsMarked first) es k)
    → ((k : ℕ) → IsMarked new k → IsMarked old k ⊎ Name (steps_in e.recipe) k)
    → (k : ℕ) → IsMarked new k → IsNeeded (IsMarked first) es k
only_next es first old new x e read marked before only k h = by (only k h)
  where
    by : IsMarked old k ⊎ Name (steps_in e.recipe) k → IsNeeded (IsMarked first) es k
    by (inl m) = before k m
    by (inr n) = IsNeeded.named x k e (before x marked) read n

pub all_closed : (es : List EntryData) (first marks : List Bool) → ((k : ℕ) → IsMarked first k → IsMarked marks k)
    → ((k : ℕ) → IsMarked marks k → IsNeeded (IsMarked first) es k) → IsClosed es marks 0 → (k : ℕ) → IsMarked marks k ↔ IsNeeded (IsMarked first) es k
all_closed es first marks kept only closed k = (
  only k,
  needed (IsMarked first) (IsMarked marks) es kept (λ j i e h is n. closed j i e (omega arith) h is n) k,
)

-- ---- all

pub used_by_marks : (d : ReportData) (none first last : List Bool) → ((k : ℕ) → IsMarked none k → ⊥) → ((k : ℕ) → NamedInProof d.replies k → IsMarked first k)
    → ((k : ℕ) → IsMarked first k → IsMarked none k ⊎ NamedInProof d.replies k)
    → ((k : ℕ) → IsMarked last k ↔ IsNeeded (IsMarked first) d.entries k) → (k : ℕ) → IsMarked last k ↔ IsUsed d k
used_by_marks d none first last empty set only is k = (
  λ h. needed_more (IsMarked first) (NamedInProof d.replies) d.entries (λ i m. by i (only i m)) k ((is k).0 h),
  λ h. (is k).1 (needed_more (NamedInProof d.replies) (IsMarked first) d.entries set k h),
)
  where
    by : (i : ℕ) → IsMarked none i ⊎ NamedInProof d.replies i → NamedInProof d.replies i
    by i (inl m) = absurd (empty i m)
    by i (inr n) = n

-- one more recipe that names lower entries
pub lower_next : (es : List EntryData) (x : ℕ) (e : EntryData) → slice_get es x ≡ Some e → ((k : ℕ) → Name (steps_in e.recipe) k → k < x)
    → ((j k : ℕ) (f : EntryData) → j < x → slice_get es j ≡ Some f → Name (steps_in f.recipe) k → k < j)
    → (j k : ℕ) (f : EntryData) → j < x + 1 → slice_get es j ≡ Some f → Name (steps_in f.recipe) k → k < j
lower_next es x e read own before j k f lt is n = by (below_or j x lt)
  where
    by : (j < x) ⊎ (j ≡ x) → k < j
    by (inl l) = before j k f l is n
    by (inr same) =
        let low = own k (subst (λ (y : EntryData). Name (steps_in y.recipe) k) (some_same (sym is ∙ (ap (slice_get es) same ∙ read))) n) in
        omega (arith, low, same)
