-- Pairs of entries with one lead component, and the two multiples whose sum is the pair's S- or G-vector (Möller 1988;
-- Lichtblau 2012, who calls them S- and G-polynomials).
use Rattle.std.specs.Int.{IsGcd}
use Rattle.std.specs.Prelude.{◌≡◌, ℕ, ◌<◌, ℤ, pos, neg_ℤ, unsigned_abs, ◌+ℤ◌, ◌*ℤ◌, List, [], length, slice_index_or}
use Rattle.laurent_terms.specs.Factors.{IsBezout}
use Rattle.laurent_terms.specs.Monomials.{common_multiple, quotient}
use Rattle.module_vec.specs.declared.places.Place.{Place}
use Rattle.module_vec.specs.declared.places.Term.{Term}
use Rattle.module_vec.specs.declared.steps.Step.{Step}
use Rattle.module_vec.specs.Chains.{taken_at}
use Rattle.module_vec.specs.Modules.{vector_at}
use Rattle.module_vec.specs.Vectors.{Coefficients}
use Rattle.outcomes.specs.declared.kinds.PairKind.{PairKind}
use Rattle.outcomes.specs.declared.kinds.PairKind.TheVariants.{S, G}

-- the first term of a vector, with the coefficient 0 where there is none
abbrev pub lead_of : List Term → Term
lead_of v = slice_index_or v 0 (record { at = record { m = []; c = 0 }; k = pos 0 })

-- the lead of vector number i
abbrev pub lead_at : List (List Term) → ℕ → Term
lead_at b i = lead_of (vector_at b i)

-- i and j, i < j, are numbers of vectors of the list whose leads have one component
pub record IsPair (b : List (List Term)) (i j : ℕ) : Type 0 where
  pub order : i < j
  pub within : j < length b
  pub component : (lead_at b i).at.c ≡ (lead_at b j).at.c

-- the least common multiple of two lead monomials, at their common component
abbrev pub meeting_place : Term → Term → Place
meeting_place e f = record { m = common_multiple e.at.m f.at.m; c = e.at.c }

-- the pair's place
abbrev pub pair_place : List (List Term) → ℕ → ℕ → Place
pair_place b i j = meeting_place (lead_at b i) (lead_at b j)

-- the factors u and v of two lead coefficients k and l with the greatest common divisor d. For an S-vector they are l/d
-- and -k/d, so that u·k + v·l is 0; for a G-vector u·k + v·l is d, with the least u from 0 on
abbrev pub AreFactors : PairKind → ℤ → ℤ → ℤ → ℤ → Type 0
AreFactors S k l u v = (d : ℕ) × IsGcd (unsigned_abs k) (unsigned_abs l) d × (u *ℤ pos d ≡ l) × (v *ℤ pos d ≡ neg_ℤ k)
AreFactors G k l u v = (d : ℤ) × IsBezout k l d u v

-- the two multiples whose sum is the pair's vector: both leads are carried to the pair's place
pub record ArePairSteps (kind : PairKind) (b : List (List Term)) (i j : ℕ) (first second : Step) : Type 0 where
  pub factors : AreFactors kind (lead_at b i).k (lead_at b j).k first.q second.q
  pub first_monomial : first.t ≡ quotient (pair_place b i j).m (lead_at b i).at.m
  pub second_monomial : second.t ≡ quotient (pair_place b i j).m (lead_at b j).at.m
  pub first_number : first.by ≡ i
  pub second_number : second.by ≡ j

-- the sum of both multiples
abbrev pub both_at : List (List Term) → Step → Step → Coefficients
both_at b first second x = taken_at b first x +ℤ taken_at b second x
