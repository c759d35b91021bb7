-- Leads of entries.
use Rattle.std.proofs.Common.{◌≡◌, ℕ, zero, suc, ◌+◌, ◌≤◌, true, List, [], ◌∷◌, length}
use Rattle.std.specs.Prelude.{Some, slice_get}
use Rattle.laurent_terms.specs.declared.TheConstants.{DEGREE}
use Rattle.laurent_terms.specs.Monomials.{degree, divides, common_multiple}
use Rattle.laurent_terms.proofs.Division.{divides_self, divides-common_multiple}
use Rattle.module_vec.specs.declared.places.Term.{Term}
use Rattle.module_vec.specs.Modules.{vector_at}
use Rattle.module_vec.specs.Vectors.{HasRoom}
use Rattle.strong_pairs.specs.Pairs.{lead_of}

pub vector_read : (b : List (List Term)) (i : ℕ) (v : List Term) → slice_get b i ≡ Some v → vector_at b i ≡ v
vector_read [] i v e = absurd cc
vector_read (w ∷ b) zero v e = cc
vector_read (w ∷ b) (suc i) v e = vector_read b i v e

pub room_of : (t : List ℕ) (v : List Term) → degree t + degree (lead_of v).at.m ≤ DEGREE → HasRoom t v
room_of t [] h = tt
room_of t (e ∷ v) h = h

-- both monomials divide their common multiple
pub divides_common : (s t : List ℕ) → length s ≡ length t → (divides s (common_multiple s t) ≡ true) × (divides t (common_multiple s t) ≡ true)
divides_common s t e = (divides-common_multiple s t (common_multiple s t) e).0 (divides_self (common_multiple s t))
