-- What is known of the entries of a list.
use Rattle.std.proofs.Common.{◌≡◌, ℕ, zero, suc, ◌<◌, Bool, true, false, ◌&&◌, nat_le, List, [], ◌∷◌, length, refl, sym, ap, subst, ◌∙◌, arith, pos}
use Rattle.std.specs.Prelude.{◌<ℤ◌, Some, slice_get}
use Rattle.laurent_terms.specs.declared.TheConstants.{VARIABLES}
use Rattle.laurent_terms.specs.Monomials.{divides, quotient}
use Rattle.module_vec.specs.declared.places.Term.{Term}
use Rattle.module_vec.specs.Modules.{vector_at}
use Rattle.module_vec.specs.Reducers.{Entry, IsEntry, AreEntries}
use Rattle.module_vec.specs.Vectors.{IsVector}
use Rattle.strong_pairs.specs.Pairs.{lead_of, lead_at}

pub first_same : (e f : Term) (g h : List Term) → e ∷ g ≡ f ∷ h → e ≡ f
first_same e f g h e' = ap (λ v. lead_of v) e'

pub entry_at : (b : List (List Term)) → AreEntries b → (i : ℕ) (v : List Term) → slice_get b i ≡ Some v → IsEntry v
entry_at [] h i v e = absurd cc
entry_at (w ∷ b) h zero v e = let same : w ≡ v = cc in subst IsEntry same h.0
entry_at (w ∷ b) h (suc i) v e = entry_at b h.1 i v e

pub read_at : (b : List (List Term)) (i : ℕ) → i < length b → slice_get b i ≡ Some (vector_at b i)
read_at [] i h = absurd (omega arith)
read_at (w ∷ b) zero h = refl
read_at (w ∷ b) (suc i) h = read_at b i (omega arith)

-- the terms behind the lead
abbrev pub behind : List Term → List Term
behind [] = []
behind (t ∷ v) = v

module _ (b : List (List Term)) (entries : AreEntries b) where
  of_entry : (v : List Term) → IsEntry v → (v ≡ lead_of v ∷ behind v) × (pos 0 <ℤ (lead_of v).k)
  of_entry [] h = absurd (let wrong = h.is in cc)
  of_entry (t ∷ v) h = (refl, subst (λ (e : Term). pos 0 <ℤ e.k) (first_same h.lead t h.others v (sym h.is)) h.positive)

  pub is_entry : (i : ℕ) → i < length b → IsEntry (vector_at b i)
  is_entry i h = entry_at b entries i (vector_at b i) (read_at b i h)

  pub vector_is : (i : ℕ) → i < length b → vector_at b i ≡ lead_at b i ∷ behind (vector_at b i)
  vector_is i h = (of_entry (vector_at b i) (is_entry i h)).0

  pub lead_positive : (i : ℕ) → i < length b → pos 0 <ℤ (lead_at b i).k
  lead_positive i h = (of_entry (vector_at b i) (is_entry i h)).1

  pub whole_vector : (i : ℕ) → i < length b → IsVector (lead_at b i ∷ behind (vector_at b i))
  whole_vector i h = subst IsVector (vector_is i h) (is_entry i h).vector

  pub lead_length : (i : ℕ) → i < length b → length (lead_at b i).at.m ≡ VARIABLES
  lead_length i h = (whole_vector i h).sparse.terms.0.place.variables

  pub as_entry : (i : ℕ) → i < length b → Entry b i (lead_at b i) (behind (vector_at b i))
  as_entry i h = read_at b i h ∙ ap Some (vector_is i h)

-- an entry that is read has its number and its lead
pub entry_number : (b : List (List Term)) (i : ℕ) (v : List Term) → slice_get b i ≡ Some v → i < length b
entry_number [] i v e = absurd cc
entry_number (w ∷ b) zero v e = omega arith
entry_number (w ∷ b) (suc i) v e = omega (arith, entry_number b i v e)

pub entry_vector : (b : List (List Term)) (i : ℕ) (v : List Term) → slice_get b i ≡ Some v → vector_at b i ≡ v
entry_vector [] i v e = absurd cc
entry_vector (w ∷ b) zero v e = cc
entry_vector (w ∷ b) (suc i) v e = entry_vector b i v e

pub entry_lead : (b : List (List Term)) (i : ℕ) (e : Term) (g : List Term) → Entry b i e g → lead_at b i ≡ e
entry_lead b i e g h = ap lead_of (entry_vector b i (e ∷ g) h)

-- ---- quotients

and_both : (a c : Bool) → a && c ≡ true → (a ≡ true) × (c ≡ true)
and_both true c e = (refl, e)
and_both false c e = absurd cc

-- a quotient has as many exponents as the divisor
pub length-quotient : (s t : List ℕ) → divides s t ≡ true → length (quotient t s) ≡ length s
length-quotient [] [] h = refl
length-quotient [] (y ∷ t) h = refl
length-quotient (x ∷ s) [] h = absurd cc
length-quotient (x ∷ s) (y ∷ t) h = ap suc (length-quotient s t (and_both (nat_le x y) (divides s t) h).1)
