-- A scan of a list of entries finds the reducer.
use Rattle.std.proofs.Common.{◌≡◌, ℕ, zero, suc, ◌+◌, ◌<◌, ℤ, false, List, [], ◌∷◌, ◌++◌, length, take, get_or, ◌⊎◌, inl, inr, refl, sym, ap, ◌∙◌, subst, arith}
use Rattle.std.specs.Prelude.{◌<ℤ◌, ◌≤ℤ◌, Option, Some, None, slice_get}
use Rattle.std.proofs.lemmas.Int.{by_lt_z}
use borrow.Author.Differences.{ints}
use lib.Signed.{le_z}
use Rattle.module_vec.specs.declared.places.Place.{Place}
use Rattle.module_vec.specs.declared.places.Term.{Term}
use Rattle.module_vec.specs.declared.lists.Candidate.{Candidate}
use Rattle.module_vec.specs.Reducers.{Entry, Reduces, GoesBefore, IsReducer}
use Rattle.module_vec.specs.Scanning.{FindsCandidate}

-- ---- one more entry

module _ {A : Type 0} (v : A) where
  pub read_push : (b : List A) (i : ℕ) (w : A) → slice_get (b ++ v ∷ []) i ≡ Some w → ((slice_get b i ≡ Some w) × (i < length b)) ⊎ ((i ≡ length b) × (v ≡ w))
  read_push [] zero w e = inr (refl, cc)
  read_push [] (suc i) w e = absurd cc
  read_push (u ∷ b) zero w e = inl (e, omega arith)
  read_push (u ∷ b) (suc i) w e = by (read_push b i w e)
    where
      by : ((slice_get b i ≡ Some w) × (i < length b)) ⊎ ((i ≡ length b) × (v ≡ w)) → ((slice_get b i ≡ Some w) × (suc i < suc (length b)))
          ⊎ ((suc i ≡ suc (length b)) × (v ≡ w))
      by (inl h) = inl (h.0, omega (arith, h.1))
      by (inr h) = inr (ap suc h.0, h.1)

  pub read_push_old : (b : List A) (i : ℕ) (w : A) → slice_get b i ≡ Some w → slice_get (b ++ v ∷ []) i ≡ Some w
  read_push_old [] i w e = absurd cc
  read_push_old (u ∷ b) zero w e = e
  read_push_old (u ∷ b) (suc i) w e = read_push_old b i w e

  pub read_push_new : (b : List A) → slice_get (b ++ v ∷ []) (length b) ≡ Some v
  read_push_new [] = refl
  read_push_new (u ∷ b) = read_push_new b

pub read_within : {A : Type 0} (b : List A) (i : ℕ) (w : A) → slice_get b i ≡ Some w → i < length b
read_within [] i w e = absurd cc
read_within (u ∷ b) zero w e = omega arith
read_within (u ∷ b) (suc i) w e = omega (arith, read_within b i w e)

-- the first n + 1 elements are the first n and the one with number n
pub take_read : {A : Type 0} (b : List A) (n : ℕ) (v : A) → slice_get b n ≡ Some v → take (n + 1) b ≡ take n b ++ v ∷ []
take_read [] n v e = absurd cc
take_read (u ∷ b) zero v e = let same : u ≡ v = cc in ap (λ w. w ∷ []) same
take_read (u ∷ b) (suc n) v e = let next : suc n + 1 ≡ suc (n + 1) = omega arith in rw next (ap (λ w. u ∷ w) (take_read b n v e))

-- ---- the rule

pub goes_before_le : (k l : ℤ) (i j : ℕ) → GoesBefore k i l j → k ≤ℤ l
goes_before_le k l i j (inl h) = omega (arith, ints)
goes_before_le k l i j (inr h) = omega (arith, ints, h.0)

-- the reducer has the least lead coefficient
pub reducer_least : (b : List (List Term)) (p : Place) (i : ℕ) (e : Term) (g : List Term) → IsReducer b p i e g → (j : ℕ) (f : Term) (h : List Term)
    → Entry b j f h → Reduces f p → e.k ≤ℤ f.k
reducer_least b p i e g r j f h entry reduces = goes_before_le e.k f.k i j (r.first j f h entry reduces)

le_cases : (k l : ℤ) → k ≤ℤ l → (k <ℤ l) ⊎ (k ≡ l)
le_cases k l h = by_lt_z k l (λ below. inl below) (λ above. inr (omega (arith, ints)))

same_entry : (lead f : Term) (others h v : List Term) → v ≡ lead ∷ others → v ≡ f ∷ h → lead ≡ f
same_entry lead f others h v e d = let both : lead ∷ others ≡ f ∷ h = sym e ∙ d in cc

module _ (b : List (List Term)) (v others : List Term) (lead : Term) (p : Place) (is : v ≡ lead ∷ others) where
  -- the new entry doesn't reduce p
  pub not_reduced : (Reduces lead p → ⊥) → (best : Option Candidate) → FindsCandidate b p best → FindsCandidate (b ++ v ∷ []) p best
  not_reduced h None none = λ i e g entry reduces. by i e g reduces (read_push v b i (e ∷ g) entry)
    where
      by : (i : ℕ) (e : Term) (g : List Term) → Reduces e p → ((slice_get b i ≡ Some (e ∷ g)) × (i < length b)) ⊎ ((i ≡ length b) × (v ≡ e ∷ g)) → ⊥
      by i e g reduces (inl old) = none i e g old.0 reduces
      by i e g reduces (inr new) = h (subst (λ t. Reduces t p) (sym (same_entry lead e others g v is new.1)) reduces)
  not_reduced h (Some c) (e, g, r, k) = (
    e,
    g,
    record {
      entry = read_push_old v b c.number (e ∷ g) r.entry;
      reduces = r.reduces;
      first = λ j f w entry reduces. by j f w reduces (read_push v b j (f ∷ w) entry);
    },
    k,
  )
    where
      by : (j : ℕ) (f : Term) (w : List Term) → Reduces f p → ((slice_get b j ≡ Some (f ∷ w)) × (j < length b)) ⊎ ((j ≡ length b) × (v ≡ f ∷ w))
          → GoesBefore e.k c.number f.k j
      by j f w reduces (inl old) = r.first j f w old.0 reduces
      by j f w reduces (inr new) = absurd (h (subst (λ t. Reduces t p) (sym (same_entry lead f others w v is new.1)) reduces))

  -- an entry before it goes first
  pub not_better : (c : Candidate) → c.coefficient ≤ℤ lead.k → FindsCandidate b p (Some c) → FindsCandidate (b ++ v ∷ []) p (Some c)
  not_better c le (e, g, r, k) = (
    e,
    g,
    record {
      entry = read_push_old v b c.number (e ∷ g) r.entry;
      reduces = r.reduces;
      first = λ j f w entry reduces. by j f w reduces (read_push v b j (f ∷ w) entry);
    },
    k,
  )
    where
      new_one : (j : ℕ) (f : Term) → lead ≡ f → j ≡ length b → (e.k <ℤ lead.k) ⊎ (e.k ≡ lead.k) → GoesBefore e.k c.number f.k j
      new_one j f same last (inl below) = inl (subst (λ (t : Term). e.k <ℤ t.k) same below)
      new_one j f same last (inr equal) = inr (equal ∙ ap (λ (t : Term). t.k) same, omega (arith, last, read_within b c.number (e ∷ g) r.entry))

      by : (j : ℕ) (f : Term) (w : List Term) → Reduces f p → ((slice_get b j ≡ Some (f ∷ w)) × (j < length b)) ⊎ ((j ≡ length b) × (v ≡ f ∷ w))
          → GoesBefore e.k c.number f.k j
      by j f w reduces (inl old) = r.first j f w old.0 reduces
      by j f w reduces (inr new) = new_one j f (same_entry lead f others w v is new.1) new.0 (le_cases e.k lead.k (subst (λ z. z ≤ℤ lead.k) k le))

  own_entry : Entry (b ++ v ∷ []) (length b) lead others
  own_entry = read_push_new v b ∙ ap Some is

  -- no entry before it reduces p
  pub first_one : Reduces lead p → FindsCandidate b p None → IsReducer (b ++ v ∷ []) p (length b) lead others
  first_one own none = record {
    entry = own_entry;
    reduces = own;
    first = λ j f w entry reduces. by j f w reduces (read_push v b j (f ∷ w) entry);
  }
    where
      by : (j : ℕ) (f : Term) (w : List Term) → Reduces f p → ((slice_get b j ≡ Some (f ∷ w)) × (j < length b)) ⊎ ((j ≡ length b) × (v ≡ f ∷ w))
          → GoesBefore lead.k (length b) f.k j
      by j f w reduces (inl old) = absurd (none j f w old.0 reduces)
      by j f w reduces (inr new) = inr (ap (λ (t : Term). t.k) (same_entry lead f others w v is new.1), omega (arith, new.0))

  -- it goes before those before it
  pub better_one : Reduces lead p → (c : Candidate) → lead.k <ℤ c.coefficient → FindsCandidate b p (Some c) → IsReducer (b ++ v ∷ []) p (length b) lead others
  better_one own c less (e, g, r, k) = record {
    entry = own_entry;
    reduces = own;
    first = λ j f w entry reduces. by j f w reduces (read_push v b j (f ∷ w) entry);
  }
    where
      by : (j : ℕ) (f : Term) (w : List Term) → Reduces f p → ((slice_get b j ≡ Some (f ∷ w)) × (j < length b)) ⊎ ((j ≡ length b) × (v ≡ f ∷ w))
          → GoesBefore lead.k (length b) f.k j
      by j f w reduces (inl old) =
          let low : lead.k <ℤ e.k = subst (λ z. lead.k <ℤ z) k less in
          let high : e.k ≤ℤ f.k = goes_before_le e.k f.k c.number j (r.first j f w old.0 reduces) in
          inl (omega (arith, ints, low, high))
      by j f w reduces (inr new) = inr (ap (λ (t : Term). t.k) (same_entry lead f others w v is new.1), omega (arith, new.0))

-- the first term of an entry, as it is read
pub read_lead : (v terms others : List Term) (lead x : Term) → v ≡ lead ∷ others → terms ≡ v → x ≡ get_or terms 0 x → v ≡ x ∷ others
read_lead v terms others lead x is same read =
    let first : x ≡ lead = read ∙ ap (λ w. get_or w 0 x) (same ∙ is) in
    is ∙ ap (λ t. t ∷ others) (sym first)

-- the answer with the number that the code has
pub with_number : (b : List (List Term)) (v others : List Term) (x : Term) (p : Place) (n : ℕ) (k : ℤ) → length b ≡ n → k ≡ x.k
    → IsReducer (b ++ v ∷ []) p (length b) x others → FindsCandidate (b ++ v ∷ []) p (Some (record { number = n; coefficient = k }))
with_number b v others x p n k last same r = (x, others, subst (λ m. IsReducer (b ++ v ∷ []) p m x others) last r, same)

-- a test that failed
pub below_from_test : (k l : ℤ) → le_z k l ≡ false → l <ℤ k
below_from_test k l e = grind (arith, ints)
