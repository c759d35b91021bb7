-- Where an entry reduces a place, the place has a reducer.
use Rattle.std.proofs.Common.{◌≡◌, ℕ, zero, suc, ◌+◌, ◌<◌, ◌≤◌, Bool, true, false, nat_eq, ◌⊎◌, inl, inr, ℤ, pos, List, [], ◌∷◌, ◌++◌, length, take, refl, sym}
use Rattle.std.proofs.Common.{ap, subst, ◌∙◌, arith}
use borrow.Author.Differences.{ints}
use Rattle.std.specs.Prelude.{◌<ℤ◌, ◌≤ℤ◌, Some, slice_get}
use Rattle.std.proofs.lemmas.List.{take_all}
use Rattle.std.proofs.lemmas.Int.{by_lt_z}
use Rattle.laurent_terms.specs.declared.TheConstants.{VARIABLES}
use Rattle.laurent_terms.specs.Monomials.{divides}
use Rattle.module_vec.specs.declared.places.Place.{Place}
use Rattle.module_vec.specs.declared.places.Term.{Term}
use Rattle.module_vec.specs.Reducers.{Entry, Reduces, IsReducer, GoesBefore, AreEntries}
use Rattle.module_vec.specs.Modules.{vector_at}
use Rattle.module_vec.proofs.Scans.{read_push, read_push_old, read_push_new, read_within, take_read, reducer_least}
use Rattle.strong_pairs.specs.Pairs.{lead_at}
use Rattle.strong_pairs.proofs.Entered.{first_same, read_at, vector_is, lead_positive, entry_number, entry_lead, lead_length, behind}

pub lead_of_entry_positive : (b : List (List Term)) → AreEntries b → (i : ℕ) (e : Term) (g : List Term) → Entry b i e g
    → (length e.at.m ≡ VARIABLES) × (pos 0 <ℤ e.k)
lead_of_entry_positive b entries i e g entry =
    let h : i < length b = entry_number b i (e ∷ g) entry in
    let same = entry_lead b i e g entry in
    (subst (λ (t : Term). length t.at.m ≡ VARIABLES) same (lead_length b entries i h), subst (λ (t : Term). pos 0 <ℤ t.k) same (lead_positive b entries i h))

reduces_or_not : (e : Term) (p : Place) → Reduces e p ⊎ (Reduces e p → ⊥)
reduces_or_not e p = by (nat_eq e.at.c p.c) refl (divides e.at.m p.m) refl
  where
    by : (c : Bool) → nat_eq e.at.c p.c ≡ c → (d : Bool) → divides e.at.m p.m ≡ d → Reduces e p ⊎ (Reduces e p → ⊥)
    by true h true g = inl (grind arith, g)
    by true h false g = inr (λ r. absurd (let wrong : false ≡ true = sym g ∙ r.1 in cc))
    by false h d g = inr (λ r. absurd (let same : e.at.c ≡ p.c = r.0 in grind arith))

-- no entry reduces p, or one of them is the reducer
abbrev Unreduced : List (List Term) → Place → Type 0
Unreduced b p = (i : ℕ) (e : Term) (g : List Term) → Entry b i e g → Reduces e p → ⊥

abbrev Reduced : List (List Term) → Place → Type 0
Reduced b p = (i : ℕ) × (e : Term) × (g : List Term) × IsReducer b p i e g

-- one more entry
module _ (b : List (List Term)) (v others : List Term) (lead : Term) (is : v ≡ lead ∷ others) (p : Place) where
  new_lead : (f : Term) (h : List Term) → v ≡ f ∷ h → lead ≡ f
  new_lead f h e = first_same lead f others h (sym is ∙ e)

  still_none : (Reduces lead p → ⊥) → Unreduced b p → Unreduced (b ++ v ∷ []) p
  still_none not none i e g entry reduces = by (read_push v b i (e ∷ g) entry)
    where
      by : ((slice_get b i ≡ Some (e ∷ g)) × (i < length b)) ⊎ ((i ≡ length b) × (v ≡ e ∷ g)) → ⊥
      by (inl old) = none i e g old.0 reduces
      by (inr new) = not (subst (λ t. Reduces t p) (sym (new_lead e g new.1)) reduces)

  -- an earlier one goes before it
  kept : (i : ℕ) (e : Term) (g : List Term) → IsReducer b p i e g → (Reduces lead p → GoesBefore e.k i lead.k (length b)) → IsReducer (b ++ v ∷ []) p i e g
  kept i e g r before = record {
    entry = read_push_old v b i (e ∷ g) r.entry;
    reduces = r.reduces;
    first = λ j f h entry reduces. by j f h reduces (read_push v b j (f ∷ h) entry);
  }
    where
      by : (j : ℕ) (f : Term) (h : List Term) → Reduces f p → ((slice_get b j ≡ Some (f ∷ h)) × (j < length b)) ⊎ ((j ≡ length b) × (v ≡ f ∷ h))
          → GoesBefore e.k i f.k j
      by j f h reduces (inl old) = r.first j f h old.0 reduces
      by j f h reduces (inr new) =
          let same : lead ≡ f = new_lead f h new.1 in
          subst (λ n. GoesBefore e.k i f.k n) (sym new.0) (subst (λ (t : Term). GoesBefore e.k i t.k (length b)) same
          (before (subst (λ t. Reduces t p) (sym same) reduces)))

  -- it goes before all earlier ones
  new : Reduces lead p → ((j : ℕ) (f : Term) (h : List Term) → Entry b j f h → Reduces f p → lead.k <ℤ f.k) → IsReducer (b ++ v ∷ []) p (length b) lead others
  new own less = record {
    entry = read_push_new v b ∙ ap Some is;
    reduces = own;
    first = λ j f h entry reduces. by j f h reduces (read_push v b j (f ∷ h) entry);
  }
    where
      by : (j : ℕ) (f : Term) (h : List Term) → Reduces f p → ((slice_get b j ≡ Some (f ∷ h)) × (j < length b)) ⊎ ((j ≡ length b) × (v ≡ f ∷ h))
          → GoesBefore lead.k (length b) f.k j
      by j f h reduces (inl old) = inl (less j f h old.0 reduces)
      by j f h reduces (inr last) = inr (ap (λ (t : Term). t.k) (new_lead f h last.1), omega (arith, last.0))

  more : Unreduced b p ⊎ Reduced b p → Unreduced (b ++ v ∷ []) p ⊎ Reduced (b ++ v ∷ []) p
  more found = by (reduces_or_not lead p) found
    where
      by : Reduces lead p ⊎ (Reduces lead p → ⊥) → Unreduced b p ⊎ Reduced b p → Unreduced (b ++ v ∷ []) p ⊎ Reduced (b ++ v ∷ []) p
      by (inr not) (inl none) = inl (still_none not none)
      by (inr not) (inr (i, e, g, r)) = inr (i, e, g, kept i e g r (λ yes. absurd (not yes)))
      by (inl own) (inl none) = inr (length b, lead, others, new own (λ j f h entry reduces. absurd (none j f h entry reduces)))
      by (inl own) (inr (i, e, g, r)) = by_lt_z lead.k e.k
          (λ less. inr (length b, lead, others, new own (λ j f h entry reduces. below lead.k e.k f.k less (reducer_least b p i e g r j f h entry reduces))))
          (λ le. inr (i, e, g, kept i e g r (λ yes. before le)))
        where
          below : (x y z : ℤ) → x <ℤ y → y ≤ℤ z → x <ℤ z
          below x y z l m = omega (arith, ints, l, m)

          before : e.k ≤ℤ lead.k → GoesBefore e.k i lead.k (length b)
          before le = by_lt_z e.k lead.k (λ less. inl less) (λ back. inr (omega (arith, ints, le, back), omega (arith, read_within b i (e ∷ g) r.entry)))

scan : (b : List (List Term)) → AreEntries b → (p : Place) (n : ℕ) → n ≤ length b → Unreduced (take n b) p ⊎ Reduced (take n b) p
scan b entries p zero h = inl (λ i e g entry reduces. absurd cc)
scan b entries p (suc n) h =
    let within : n < length b = omega arith in
    let next : suc n ≡ n + 1 = omega arith in
    let longer : take (suc n) b ≡ take n b ++ vector_at b n ∷ [] = ap (λ m. take m b) next ∙ take_read b n (vector_at b n) (read_at b n within) in
    subst (λ l. Unreduced l p ⊎ Reduced l p) (sym longer)
    (more (take n b) (vector_at b n) (behind (vector_at b n)) (lead_at b n) (vector_is b entries n within) p (scan b entries p n (omega arith)))

pub reducer_there : (b : List (List Term)) → AreEntries b → (p : Place) (i : ℕ) (e : Term) (g : List Term) → Entry b i e g → Reduces e p
    → (j : ℕ) × (d : Term) × (h : List Term) × IsReducer b p j d h
reducer_there b entries p i e g entry reduces =
    by (subst (λ l. Unreduced l p ⊎ Reduced l p) (take_all (length b) b (omega arith)) (scan b entries p (length b) (omega arith)))
  where
    by : Unreduced b p ⊎ Reduced b p → (j : ℕ) × (d : Term) × (h : List Term) × IsReducer b p j d h
    by (inl none) = absurd (none i e g entry reduces)
    by (inr found) = found
