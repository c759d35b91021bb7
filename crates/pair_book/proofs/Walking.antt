-- The walk over the third entries of one component, from the last one down.
use Rattle.std.proofs.Common.{ℕ, ◌+◌, ◌<◌, ◌≤◌, ◌≡◌, ◌≢◌, inl, inr, arith, refl, sym, ap, ◌∙◌, Bool, true, false, List, length, Option, Some, None, subst}
use Rattle.std.proofs.lemmas.List.{length-map}
use Rattle.outcomes.specs.declared.tasks.Task.{Task}
use Rattle.strong_pairs.specs.Pairs.{IsPair, lead_at}
use Rattle.chain_rule.specs.Chaining.{ChainsLeads}
use Rattle.task_table.proofs.Ordering.{three}
use Rattle.basis_entry.specs.Entries.{BasisEntry, vectors_of}
use Rattle.pair_book.specs.Books.{Held}
use Rattle.pair_book.specs.Fellows.{component_at, FindsLast}
use Rattle.pair_book.specs.Chaining.{s_task, closed_if, IsDueBy, IsDue, AreChained, ChainsAt, IsDueFrom, AreChainedFrom, done_from, IsFellow}
use Rattle.pair_book.proofs.Dues.{cases}

-- the third entry of a task of a that is due has a's component
fellow_due : (h : Held) (a x b : ℕ) → a ≢ x → IsDueBy h a x b → (x < length h.entries) × (component_at h.entries x ≡ component_at h.entries a)
fellow_due h a x b ne d =
    let long = length-map h.entries (λ (e : BasisEntry). e.vector) in
    let P : Task → Type 0 = λ t. IsPair (vectors_of h.entries) t.i t.j in
    elim (cases a x ne) [
      | inl u ↦ let p = subst P u.1 d.pair in let w = p.within in (omega (arith, w, long), sym p.component)
      | inr u ↦ let p = subst P u.1 d.pair in let w = p.within in let o = p.order in (omega (arith, w, o, long), p.component)
    ]

-- and so has the entry through which the task is closed
fellow_through : (h : Held) (b x a : ℕ) → b ≢ x → IsDueBy h b x a → component_at h.entries x ≡ component_at h.entries a
fellow_through h b x a ne d =
    let same = (fellow_due h b x a ne d).1 in
    let L : Task → Type 0 = λ t. ChainsLeads (lead_at (vectors_of h.entries) a) (lead_at (vectors_of h.entries) t.i) (lead_at (vectors_of h.entries) t.j) in
    elim (cases b x ne) [
      | inl u ↦ let l = subst L u.1 d.chained.leads in same ∙ sym l.reduces.0
      | inr u ↦ let l = subst L u.1 d.chained.leads in sym l.reduces.0
    ]

third_fellow : (n : ℕ) (h : Held) (a b : ℕ) (u : Task) (d : IsDueFrom n h a b u) → (d.third < length h.entries)
    × (component_at h.entries d.third ≡ component_at h.entries a)
third_fellow n h a b u d = elim d.either [
  | inl z ↦ fellow_due h a d.third b (λ q. d.not_first (sym q)) z.1
  | inr z ↦ ((fellow_due h b d.third a (λ q. d.not_second (sym q)) z.1).0, fellow_through h b d.third a (λ q. d.not_second (sym q)) z.1)
]

module _ (mid cur : Held) (a b : ℕ) where
  -- entries of other components are passed over
  chain_down : (n m : ℕ) → m ≤ n → ((k : ℕ) → m ≤ k → k < n → component_at mid.entries k ≢ component_at mid.entries a) → AreChainedFrom n mid a b cur
      → AreChainedFrom m mid a b cur
  chain_down n m le none c = record { rest = c.rest; closed = λ u k d. c.closed u k (raised u d); same = λ u k d. c.same u k (λ z. d (lowered u z)) } where
    lowered : (u : Task) → IsDueFrom n mid a b u → IsDueFrom m mid a b u
    lowered u d = record {
      third = d.third;
      from = let w = d.from in omega (arith, w, le);
      not_first = d.not_first;
      not_second = d.not_second;
      either = d.either;
    }

    raised : (u : Task) → IsDueFrom m mid a b u → IsDueFrom n mid a b u
    raised u d = record {
      third = d.third;
      from = elim (three d.third n) [
        | inl p ↦ absurd (none d.third d.from p (third_fellow m mid a b u d).1)
        | inr q ↦ elim q [ inl e ↦ omega (arith, e) | inr p ↦ omega (arith, p) ]
      ];
      not_first = d.not_first;
      not_second = d.not_second;
      either = d.either;
    }

  -- the next third entry is that which is found
  pub walk_on : (n c : ℕ) (o : Option ℕ) → c ≡ component_at mid.entries a → FindsLast (component_at mid.entries) n c o → AreChainedFrom n mid a b cur
      → AreChainedFrom (done_from o) mid a b cur
  walk_on n c None e h = chain_down n 0 (omega arith) (λ k le lt q. h k lt (q ∙ sym e))
  walk_on n c (Some y) e h = chain_down n (y + 1) (let w = h.0 in omega (arith, w)) (λ k le lt q. h.2 k (omega (arith, le)) lt (q ∙ sym e))

  -- all third entries are done
  pub walk_end : AreChainedFrom 0 mid a b cur → AreChained (length mid.entries) mid a b cur
  walk_end c = record { rest = c.rest; closed = λ u k d. c.closed u k (from_start u d); same = λ u k d. c.same u k (λ z. d (all_below u z)) } where
    from_start : (u : Task) → IsDue (length mid.entries) mid a b u → IsDueFrom 0 mid a b u
    from_start u d = record { third = d.third; from = omega arith; not_first = d.not_first; not_second = d.not_second; either = d.either }

    all_below : (u : Task) → IsDueFrom 0 mid a b u → IsDue (length mid.entries) mid a b u
    all_below u d = record { third = d.third; below = (third_fellow 0 mid a b u d).0; not_first = d.not_first; not_second = d.not_second; either = d.either }

-- no third entry is done yet
pub walk_start : (mid : Held) (a b : ℕ) → AreChainedFrom (length mid.entries) mid a b mid
walk_start mid a b = record {
  rest = refl;
  closed = λ u k d. let w = (third_fellow (length mid.entries) mid a b u d).0 in let v = d.from
      in absurd (omega (arith, w, v));
  same = λ u k d. refl;
}

pub fellow_found : (mid : Held) (a n c : ℕ) (o : Option ℕ) → c ≡ component_at mid.entries a → n ≤ length mid.entries
    → FindsLast (component_at mid.entries) n c o → IsFellow mid.entries a o
fellow_found mid a n c None e le h = tt
fellow_found mid a n c (Some k) e le h = (let w = h.0 in omega (arith, w, le), h.1 ∙ e)

if_entries : (h : Held) (due : Bool) (t : Task) → (closed_if due h t).entries ≡ h.entries
if_entries h false t = refl
if_entries h true t = refl

-- a third entry changes no entry
pub at_entries : (old new : Held) (a b x : ℕ) → ChainsAt old a b x new → new.entries ≡ old.entries
at_entries old new a b x (inl h) = ap (λ (z : Held). z.entries) h.1
at_entries old new a b x (inr h) =
    let w = h.2 in
    let one = closed_if w.first old (s_task a x) in
    ap (λ (z : Held). z.entries) w.is ∙ (if_entries one w.second (s_task b x) ∙ if_entries old w.first (s_task a x))

-- the third entry that comes next, and the walk goes down
pub in_hand : (es : List BasisEntry) (a x : ℕ) (o : Option ℕ) → o ≡ Some x → IsFellow es a o → (x < length es) × (component_at es x ≡ component_at es a)
in_hand es a x o e h = subst (IsFellow es a) e h

pub goes_down : (component : ℕ → ℕ) (n c : ℕ) (o : Option ℕ) → FindsLast component n c o → done_from o < n + 1
goes_down component n c None h = omega arith
goes_down component n c (Some k) h = let w = h.0 in omega (arith, w)
