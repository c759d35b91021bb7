-- A chain over a strong list ends in the one reduced vector.
use Rattle.std.proofs.Common.{◌≡◌, ◌≢◌, ℕ, zero, suc, Bool, true, false, ◌⊎◌, inl, inr, ℤ, pos, negsuc, ◌+ℤ◌, ◌-ℤ◌, ◌*ℤ◌, List, [], ◌∷◌, length, ◌↔◌, refl, sym}
use Rattle.std.proofs.Common.{ap, subst, ◌∙◌, arith}
use borrow.Author.Differences.{ints}
use Rattle.std.specs.Int.{int_div_euclid}
use Rattle.std.specs.List.{AllByRecursion}
use Rattle.std.specs.Prelude.{◌<ℤ◌, ◌≤ℤ◌}
use Rattle.std.proofs.lemmas.Int.{by_lt_z}
use Rattle.formal_sums.proofs.Floors.{floor_zero}
use Rattle.formal_sums.proofs.Falling.{coefficient-first, coefficient-above_first}
use Rattle.formal_sums.specs.FormalSum.{FormalSum, coefficient}
use Rattle.laurent_terms.specs.declared.TheConstants.{VARIABLES}
use Rattle.module_vec.specs.declared.places.Place.{Place}
use Rattle.module_vec.specs.declared.places.Term.{Term}
use Rattle.module_vec.specs.declared.steps.Step.{Step}
use Rattle.module_vec.specs.Chains.{IsNext, Chain, IsEnd, taken_at, after}
use Rattle.module_vec.specs.Modules.{sum_of_steps, steps_at, AreSteps, InModule, IsLead, IsDivided, IsStrong, IsReduced}
use Rattle.module_vec.specs.Places.{IsBelow, same_place}
use Rattle.module_vec.specs.Reducers.{Entry, Reduces, IsReducer, AreEntries}
use Rattle.module_vec.specs.Vectors.{Coefficients, sum_of, coefficient_at, difference_at, IsSparse}
use Rattle.module_vec.proofs.Order.{test, order}
use Rattle.module_vec.proofs.Scans.{reducer_least}
use Rattle.strong_pairs.proofs.Entered.{entry_number, length-quotient}
use Rattle.strong_pairs.proofs.Members.{steps_at-cons, module_same, module_difference, sum_in}
use Rattle.strong_pairs.proofs.Reducing.{reducer_there, lead_of_entry_positive}

-- ---- the steps of a chain add up to what it takes away

pub step_length : (b : List (List Term)) → AreEntries b → (f : Coefficients) (s : Step) → IsNext b f s → length s.t ≡ VARIABLES
step_length b entries f s n =
    ap length n.monomial
    ∙ length-quotient n.lead.at.m n.place.m n.due.reducer.reduces.1
    ∙ (lead_of_entry_positive b entries s.by n.lead n.others n.due.reducer.entry).0

pub chain_sum : (b : List (List Term)) → AreEntries b → (ss : List Step) (f g : Coefficients) → Chain b f ss g
    → AreSteps b ss × ((x : Place) → f x -ℤ g x ≡ steps_at b ss x)
chain_sum b entries [] f g h = (tt, λ x. omega (arith, ints, h x))
chain_sum b entries (s ∷ ss) f g h =
    let rest : AreSteps b ss × ((x : Place) → after b f s x -ℤ g x ≡ steps_at b ss x) = chain_sum b entries ss (after b f s) g h.1 in (
      ((step_length b entries f s h.0, entry_number b s.by (h.0.lead ∷ h.0.others) h.0.due.reducer.entry), rest.0),
      λ x. solve (f x) (g x) (taken_at b s x) (steps_at b ss x) (rest.1 x) ∙ sym (steps_at-cons b s ss x),
    )
  where
    solve : (f g a t : ℤ) → (f -ℤ a) -ℤ g ≡ t → f -ℤ g ≡ a +ℤ t
    solve f g a t e = omega (arith, ints)

-- ---- the end

pub zero_or_not : (z : ℤ) → (z ≡ pos 0) ⊎ (z ≢ pos 0)
zero_or_not (pos zero) = inl refl
zero_or_not (pos (suc n)) = inr (λ e. absurd cc)
zero_or_not (negsuc n) = inr (λ e. absurd cc)

-- where an entry reduces the place, the coefficient is from 0 on and below the entry's
pub at_end : (b : List (List Term)) → AreEntries b → (f : Coefficients) → IsEnd b f → (p : Place) (i : ℕ) (e : Term) (g : List Term) → Entry b i e g
    → Reduces e p → (pos 0 ≤ℤ f p) × (f p <ℤ e.k)
at_end b entries f end p i e g entry reduces = by (reducer_there b entries p i e g entry reduces)
  where
    by : (j : ℕ) × (d : Term) × (h : List Term) × IsReducer b p j d h → (pos 0 ≤ℤ f p) × (f p <ℤ e.k)
    by (j, d, h, r) = rests (zero_or_not (int_div_euclid (f p) d.k))
      where
        rests : (int_div_euclid (f p) d.k ≡ pos 0) ⊎ (int_div_euclid (f p) d.k ≢ pos 0) → (pos 0 ≤ℤ f p) × (f p <ℤ e.k)
        rests (inr moves) = absurd (end p j d h (record { reducer = r; moves = moves }))
        rests (inl none) =
            let small : (pos 0 ≤ℤ f p) × (f p <ℤ d.k) = floor_zero (f p) d.k (lead_of_entry_positive b entries j d h r.entry).1 none in
            let least : d.k ≤ℤ e.k = reducer_least b p j d h r i e g entry reduces in
            (small.0, omega (arith, ints, small.1, least))

-- ---- a number below a positive divisor of a positive number is below that
below_multiple : (a l z q : ℤ) → pos 0 ≤ℤ a → a <ℤ l → z ≡ q *ℤ l → pos 0 <ℤ z → a <ℤ z
below_multiple a (pos l) z (pos zero) n h e p = absurd (omega (arith, ints, e, p))
below_multiple a (pos l) z (pos (suc q)) n h e p = omega (arith, ints, e, h)
below_multiple a (pos l) z (negsuc q) n h e p = absurd (omega (arith, ints, e, p))
below_multiple a (negsuc l) z q n h e p = absurd (omega (arith, ints, n, h))

-- the same number is not a multiple of the divisor, unless it is 0
zero_below : (a l q : ℤ) → pos 0 ≤ℤ a → a <ℤ l → a ≡ q *ℤ l → a ≡ pos 0
zero_below a (pos l) (pos zero) n h e = omega (arith, ints, e)
zero_below a (pos l) (pos (suc q)) n h e = absurd (omega (arith, ints, e, h))
zero_below a (pos l) (negsuc q) n h e = absurd (omega (arith, ints, e, h, n))
zero_below a (negsuc l) q n h e = absurd (omega (arith, ints, n, h))

module _ (gens b : List (List Term)) (entries : AreEntries b) (strong : IsStrong gens b) where
  -- EXACTNESS
  pub reduced : (f g : Coefficients) (ss : List Step) → Chain b f ss g → IsEnd b g → IsReduced gens f g
  reduced f g ss chain end = record {
    differs = let sum : AreSteps b ss × ((x : Place) → f x -ℤ g x ≡ steps_at b ss x) = chain_sum b entries ss f g chain
        in module_same gens (steps_at b ss) (difference_at f g) sum.1 (sum_in gens b strong.members ss sum.0);
    remainder = λ h p member lead positive. by h p lead positive (strong.divided h p member lead);
  }
    where
      by : (h : Coefficients) (p : Place) → IsLead h p → pos 0 <ℤ h p → IsDivided b h p → (pos 0 ≤ℤ g p) × (g p <ℤ h p)
      by h p lead positive d =
          let small : (pos 0 ≤ℤ g p) × (g p <ℤ d.lead.k) = at_end b entries g end p d.number d.lead d.others d.entry d.reduces in
          (small.0, below_multiple (g p) d.lead.k (h p) d.factor small.0 small.1 d.divides positive)

  -- a member at its end has no lead place
  no_lead : (g : Coefficients) → IsEnd b g → InModule gens g → (p : Place) → IsLead g p → ⊥
  no_lead g end member p lead =
      let d : IsDivided b g p = strong.divided g p member lead in
      let small : (pos 0 ≤ℤ g p) × (g p <ℤ d.lead.k) = at_end b entries g end p d.number d.lead d.others d.entry d.reduces in
      lead.nonzero (zero_below (g p) d.lead.k d.factor small.0 small.1 d.divides)

  first_leads : (t : Term) (v : List Term) → IsSparse (t ∷ v) → IsLead (coefficient_at (t ∷ v)) t.at
  first_leads t v sparse = record {
    nonzero = λ e. sparse.terms.0.nonzero (sym (coefficient-first test order (t.k, t.at) (sum_of v) sparse.falling.0) ∙ e);
    above = λ x h. coefficient-above_first test order (t.k, t.at) (sum_of v) x sparse.falling.0 h;
  }

  -- the end is empty exactly for members
  pub empty_for_members : (f : Coefficients) (w : List Term) (ss : List Step) → IsSparse w → Chain b f ss (coefficient_at w) → IsEnd b (coefficient_at w)
      → (w ≡ []) ↔ InModule gens f
  empty_for_members f w ss sparse chain end = (forth, back w sparse end rest)
    where
      differs : InModule gens (difference_at f (coefficient_at w))
      differs = let r : IsReduced gens f (coefficient_at w) = reduced f (coefficient_at w) ss chain end in r.differs

      nothing : (a c : ℤ) → c ≡ pos 0 → a ≡ a -ℤ c
      nothing a c e = omega (arith, ints, e)

      forth : w ≡ [] → InModule gens f
      forth e = module_same gens (difference_at f (coefficient_at w)) f (λ x. nothing (f x) (coefficient_at w x) (ap (λ v. coefficient_at v x) e)) differs

      over : (a c : ℤ) → c ≡ a -ℤ (a -ℤ c)
      over a c = omega (arith, ints)

      rest : InModule gens f → InModule gens (coefficient_at w)
      rest member = module_difference gens f (difference_at f (coefficient_at w)) (coefficient_at w) member differs (λ x. over (f x) (coefficient_at w x))

      back : (v : List Term) → IsSparse v → IsEnd b (coefficient_at v) → (InModule gens f → InModule gens (coefficient_at v)) → InModule gens f → v ≡ []
      back [] sparse end rest member = refl
      back (t ∷ v) sparse end rest member = absurd (no_lead (coefficient_at (t ∷ v)) end (rest member) t.at (first_leads t v sparse))

-- ---- at most one reduced vector

-- P holds of the key of a term, or the coefficient is 0
pub pick : (P : Place → Type 0) (v : FormalSum Place) → AllByRecursion (λ t. P t.1) v → (x : Place) → (coefficient same_place v x ≡ pos 0) ⊎ P x
pick P [] all x = inl refl
pick P (t ∷ v) all x = by (same_place t.1 x) refl (pick P v all.1 x)
  where
    by : (r : Bool) → same_place t.1 x ≡ r → (coefficient same_place v x ≡ pos 0) ⊎ P x → (coefficient same_place (t ∷ v) x ≡ pos 0) ⊎ P x
    by true e rest = inr (subst P (test.sound t.1 x e) all.0)
    by false e (inr h) = inr h
    by false e (inl h) = inl (rw e (let sum : pos 0 +ℤ coefficient same_place v x ≡ pos 0 = omega (arith, ints, h) in sum))

module _ (f : Coefficients) where
  -- f is 0 at the keys above p
  abbrev ZeroAbove : Place → FormalSum Place → Type 0
  ZeroAbove p v = AllByRecursion (λ t. IsBelow p t.1 → f t.1 ≡ pos 0) v

  abbrev ZeroAt : FormalSum Place → Type 0
  ZeroAt v = AllByRecursion (λ t. f t.1 ≡ pos 0) v

  weaker : (p : Place) (v : FormalSum Place) → ZeroAt v → ZeroAbove p v
  weaker p [] h = tt
  weaker p (t ∷ v) h = ((λ l. h.0), weaker p v h.1)

  higher : (p q : Place) → IsBelow p q → (v : FormalSum Place) → ZeroAbove p v → ZeroAbove q v
  higher p q l [] h = tt
  higher p q l (t ∷ v) h = ((λ k. h.0 (order.transitive p q t.1 l k)), higher p q l v h.1)

  -- among the keys of v there is a greatest one where f isn't 0, or none
  top_key : (v : FormalSum Place) → ZeroAt v ⊎ ((p : Place) × (f p ≢ pos 0) × ZeroAbove p v)
  top_key [] = inl tt
  top_key (t ∷ v) = by (zero_or_not (f t.1)) (top_key v)
    where
      by : (f t.1 ≡ pos 0) ⊎ (f t.1 ≢ pos 0) → ZeroAt v ⊎ ((p : Place) × (f p ≢ pos 0) × ZeroAbove p v)
          → ZeroAt (t ∷ v) ⊎ ((p : Place) × (f p ≢ pos 0) × ZeroAbove p (t ∷ v))
      by (inl z) (inl h) = inl (z, h)
      by (inl z) (inr (p, n, h)) = inr (p, n, ((λ l. z), h))
      by (inr n) (inl h) = inr (t.1, n, ((λ l. absurd (order.irreflexive t.1 l)), weaker t.1 v h))
      by (inr n) (inr (p, m, h)) = three (order.total p t.1)
        where
          three : (p ≡ t.1) ⊎ (IsBelow p t.1 ⊎ IsBelow t.1 p) → ZeroAt (t ∷ v) ⊎ ((p : Place) × (f p ≢ pos 0) × ZeroAbove p (t ∷ v))
          three (inl e) = inr (p, m, ((λ l. absurd (order.irreflexive t.1 (subst (λ q. IsBelow q t.1) e l))), h))
          three (inr (inl l)) = inr (t.1, n, ((λ k. absurd (order.irreflexive t.1 k)), higher p t.1 l v h))
          three (inr (inr l)) = inr (p, m, ((λ k. absurd (order.irreflexive p (order.transitive p t.1 p k l))), h))

-- a finite sum is 0 or has a lead place
pub zero_or_lead : (f : Coefficients) (v : FormalSum Place) → ((x : Place) → f x ≡ coefficient same_place v x)
    → ((x : Place) → f x ≡ pos 0) ⊎ ((p : Place) × IsLead f p)
zero_or_lead f v is = by (top_key f v)
  where
    by : ZeroAt f v ⊎ ((p : Place) × (f p ≢ pos 0) × ZeroAbove f p v) → ((x : Place) → f x ≡ pos 0) ⊎ ((p : Place) × IsLead f p)
    by (inl h) = inl (λ x. zero_there x (pick (λ y. f y ≡ pos 0) v h x))
      where
        zero_there : (x : Place) → (coefficient same_place v x ≡ pos 0) ⊎ (f x ≡ pos 0) → f x ≡ pos 0
        zero_there x (inl e) = is x ∙ e
        zero_there x (inr e) = e
    by (inr (p, n, h)) = inr (p, record { nonzero = n; above = λ x l. zero_there x l (pick (λ y. IsBelow p y → f y ≡ pos 0) v h x) })
      where
        zero_there : (x : Place) → IsBelow p x → (coefficient same_place v x ≡ pos 0) ⊎ (IsBelow p x → f x ≡ pos 0) → f x ≡ pos 0
        zero_there x l (inl e) = is x ∙ e
        zero_there x l (inr e) = e l

module _ (gens : List (List Term)) (f g h : Coefficients) (first : IsReduced gens f g) (second : IsReduced gens f h) where
  -- g and h differ by a member
  apart : InModule gens (difference_at g h)
  apart = module_difference gens (difference_at f h) (difference_at f g) (difference_at g h) second.differs first.differs (λ x. over (f x) (g x) (h x))
    where
      over : (a c d : ℤ) → c -ℤ d ≡ (a -ℤ d) -ℤ (a -ℤ c)
      over a c d = omega (arith, ints)

  back : InModule gens (difference_at h g)
  back = module_difference gens (difference_at f g) (difference_at f h) (difference_at h g) first.differs second.differs (λ x. over (f x) (g x) (h x))
    where
      over : (a c d : ℤ) → d -ℤ c ≡ (a -ℤ c) -ℤ (a -ℤ d)
      over a c d = omega (arith, ints)

  turned : (p : Place) → IsLead (difference_at g h) p → IsLead (difference_at h g) p
  turned p lead = record {
    nonzero = λ e. lead.nonzero (other (g p) (h p) e);
    above = λ x l. other (h x) (g x) (lead.above x l);
  }
    where
      other : (a c : ℤ) → c -ℤ a ≡ pos 0 → a -ℤ c ≡ pos 0
      other a c e = omega (arith, ints, e)

  clash : (p : Place) → IsLead (difference_at g h) p → ⊥
  clash p lead = by_sign
    where
      up : pos 0 <ℤ difference_at g h p → ⊥
      up positive =
          let one : (pos 0 ≤ℤ g p) × (g p <ℤ difference_at g h p) = first.remainder (difference_at g h) p apart lead positive in
          let two : (pos 0 ≤ℤ h p) × (h p <ℤ difference_at g h p) = second.remainder (difference_at g h) p apart lead positive in
          absurd (low (g p) (h p) one.1 two.0)
        where
          low : (a c : ℤ) → a <ℤ (a -ℤ c) → pos 0 ≤ℤ c → ⊥
          low a c l n = absurd (omega (arith, ints, l, n))

      down : pos 0 <ℤ difference_at h g p → ⊥
      down positive =
          let one : (pos 0 ≤ℤ g p) × (g p <ℤ difference_at h g p) = first.remainder (difference_at h g) p back (turned p lead) positive in
          let two : (pos 0 ≤ℤ h p) × (h p <ℤ difference_at h g p) = second.remainder (difference_at h g) p back (turned p lead) positive in
          absurd (low (h p) (g p) two.1 one.0)
        where
          low : (a c : ℤ) → a <ℤ (a -ℤ c) → pos 0 ≤ℤ c → ⊥
          low a c l n = absurd (omega (arith, ints, l, n))

      by_sign : ⊥
      by_sign = by_lt_z (pos 0) (g p -ℤ h p) up (λ le. down (other (g p) (h p) le (λ z. lead.nonzero z)))
        where
          other : (a c : ℤ) → (a -ℤ c) ≤ℤ pos 0 → (a -ℤ c ≢ pos 0) → pos 0 <ℤ (c -ℤ a)
          other a c le n = by_lt_z (pos 0) (c -ℤ a) (λ l. l) (λ l. absurd (n (omega (arith, ints, le, l))))

  -- ONE REDUCED VECTOR
  pub same_reduced : (x : Place) → g x ≡ h x
  same_reduced x = by (zero_or_lead (difference_at g h) (sum_of_steps gens apart.steps) apart.is)
    where
      by : ((y : Place) → difference_at g h y ≡ pos 0) ⊎ ((p : Place) × IsLead (difference_at g h) p) → g x ≡ h x
      by (inl z) = equal (g x) (h x) (z x)
        where
          equal : (a c : ℤ) → a -ℤ c ≡ pos 0 → a ≡ c
          equal a c e = omega (arith, ints, e)
      by (inr (p, lead)) = absurd (clash p lead)
