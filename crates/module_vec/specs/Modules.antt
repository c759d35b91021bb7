-- Sums of multiples of listed vectors: modules, strong lists and reduced vectors (Adams and Loustaunau 1994, chapter 4;
-- Lichtblau 2012).
use Rattle.std.specs.List.{AllByRecursion}
use Rattle.std.specs.Prelude.{◌≡◌, ◌≢◌, ℕ, ◌<◌, ℤ, pos, ◌*ℤ◌, ◌<ℤ◌, ◌≤ℤ◌, List, [], ◌∷◌, ◌++◌, length, slice_index_or}
use Rattle.formal_sums.specs.FormalSum.{FormalSum, coefficient}
use Rattle.laurent_terms.specs.declared.TheConstants.{VARIABLES}
use Rattle.module_vec.specs.declared.places.Place.{Place}
use Rattle.module_vec.specs.declared.places.Term.{Term}
use Rattle.module_vec.specs.declared.steps.Step.{Step}
use Rattle.module_vec.specs.Places.{IsBelow, same_place}
use Rattle.module_vec.specs.Vectors.{Coefficients, coefficient_at, multiple, difference_at}
use Rattle.module_vec.specs.Reducers.{Entry, Reduces}

-- vector number i of the list, the empty one past its end
abbrev pub vector_at : List (List Term) → ℕ → List Term
vector_at b i = slice_index_or b i []

-- what the steps add up to: q·t·g each, where g is vector number `by`
abbrev pub sum_of_steps : List (List Term) → List Step → FormalSum Place
sum_of_steps b [] = []
sum_of_steps b (s ∷ ss) = multiple s.q s.t (vector_at b s.by) ++ sum_of_steps b ss

abbrev pub steps_at : List (List Term) → List Step → Coefficients
steps_at b ss x = coefficient same_place (sum_of_steps b ss) x

-- each step has a monomial in all variables, and names a vector of the list
abbrev pub AreSteps : List (List Term) → List Step → Type 0
AreSteps b ss = AllByRecursion (λ s. (length s.t ≡ VARIABLES) × (s.by < length b)) ss

-- f lies in the module of the generators: it is a finite sum of multiples of them
pub record InModule (gens : List (List Term)) (f : Coefficients) : Type 0 where
  pub steps : List Step
  pub are : AreSteps gens steps
  pub is : (x : Place) → f x ≡ steps_at gens steps x

-- p is the lead place of f
pub record IsLead (f : Coefficients) (p : Place) : Type 0 where
  pub nonzero : f p ≢ pos 0
  pub above : (x : Place) → IsBelow p x → f x ≡ pos 0

-- the lead term of an entry divides the term of f at p
pub record IsDivided (b : List (List Term)) (f : Coefficients) (p : Place) : Type 0 where
  pub number : ℕ
  pub lead : Term
  pub others : List Term
  pub entry : Entry b number lead others
  pub reduces : Reduces lead p
  pub factor : ℤ
  pub divides : f p ≡ factor *ℤ lead.k

-- the list b is a strong Gröbner basis of the module
pub record IsStrong (gens b : List (List Term)) : Type 0 where
  pub members : (i : ℕ) → i < length b → InModule gens (coefficient_at (vector_at b i))
  pub divided : (f : Coefficients) (p : Place) → InModule gens f → IsLead f p → IsDivided b f p

-- g is f modulo the module, with remainders at the places where members have their leads: at least 0, and below each
-- positive lead coefficient there
pub record IsReduced (gens : List (List Term)) (f g : Coefficients) : Type 0 where
  pub differs : InModule gens (difference_at f g)
  pub remainder : (h : Coefficients) (p : Place) → InModule gens h → IsLead h p → pos 0 <ℤ h p →
      (pos 0 ≤ℤ g p) × (g p <ℤ h p)
