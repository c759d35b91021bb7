-- What the call for a pair's vector answers: the vector, or the first of its limits that is met.
use Rattle.std.specs.Prelude.{◌≡◌, ℕ, ◌<◌, ◌≤◌, ◌⊎◌, List, length, Result, Ok, Err}
use Rattle.laurent_terms.specs.declared.TheConstants.{DEGREE}
use Rattle.laurent_terms.specs.Monomials.{degree, IsMonomial}
use Rattle.module_vec.specs.declared.places.Term.{Term}
use Rattle.module_vec.specs.declared.steps.Step.{Step}
use Rattle.module_vec.specs.declared.faults.Stop.{Stop}
use Rattle.module_vec.specs.declared.faults.Stop.TheVariants.{Wide, Long, Deep, Steep}
use Rattle.module_vec.specs.declared.faults.VecFault.{VecFault}
use Rattle.module_vec.specs.declared.faults.VecFault.TheVariants as of_vector
use Rattle.module_vec.specs.Chains.{taken_at}
use Rattle.module_vec.specs.Modules.{vector_at}
use Rattle.module_vec.specs.Results.{SumIsWide, StopsBy, IsMade}
use Rattle.module_vec.specs.Vectors.{InRange, HasRoom}
use Rattle.step_lists.specs.declared.way.Way.TheVariants.{Add}
use Rattle.step_lists.specs.Sums.{IsWideAt}
use Rattle.outcomes.specs.declared.kinds.PairKind.{PairKind}
use Rattle.strong_pairs.specs.declared.faults.PairFault.{PairFault}
use Rattle.strong_pairs.specs.declared.faults.PairFault.TheVariants as faults
use Rattle.strong_pairs.specs.Pairs.{pair_place, ArePairSteps, both_at}

-- the degree of the least common multiple of the lead monomials
abbrev pub pair_degree : List (List Term) → ℕ → ℕ → ℕ
pair_degree b i j = degree (pair_place b i j).m

-- both steps, or the degree where it is too great
abbrev pub FindsSteps : PairKind → List (List Term) → ℕ → ℕ → Result (Step × Step) Stop → Type 0
FindsSteps kind b i j (Ok steps) = (pair_degree b i j ≤ DEGREE) × ArePairSteps kind b i j steps.0 steps.1
FindsSteps kind b i j (Err (Steep d)) = (DEGREE < d) × (d ≡ pair_degree b i j)
FindsSteps kind b i j (Err (Wide p n)) = ⊥
FindsSteps kind b i j (Err (Long terms n)) = ⊥
FindsSteps kind b i j (Err Deep) = ⊥

-- the step's multiple can be asked for: its vector is there, its factor in range, and its degree in reach
pub record IsInReach (b : List (List Term)) (s : Step) : Type 0 where
  pub number : s.by < length b
  pub range : InRange s.q
  pub monomial : IsMonomial s.t
  pub room : HasRoom s.t (vector_at b s.by)

-- the first multiple can be made
abbrev pub FirstIsMade : List (List Term) → Step → Type 0
FirstIsMade b first = (v : List Term) × IsMade (SumIsWide (taken_at b first)) (taken_at b first) v

-- v is the sum of both multiples, on the way to which nothing met a limit
abbrev pub BothAreMade : List (List Term) → Step → Step → List Term → Type 0
BothAreMade b first second v = FirstIsMade b first
    × IsMade (IsWideAt Add (taken_at b first) (taken_at b second)) (both_at b first second) v

-- the first multiple meets a limit, or the second one does when it is added to it
abbrev pub BothStop : List (List Term) → Step → Step → Stop → Type 0
BothStop b first second stop = StopsBy 0 (SumIsWide (taken_at b first)) (taken_at b first) stop
    ⊎ (FirstIsMade b first × StopsBy 0 (IsWideAt Add (taken_at b first) (taken_at b second))
    (both_at b first second) stop)

-- why a pair whose degree is in reach has no vector
pub record StopsPair (kind : PairKind) (b : List (List Term)) (i j : ℕ) (stop : Stop) : Type 0 where
  pub reach : pair_degree b i j ≤ DEGREE
  pub first : Step
  pub second : Step
  pub steps : ArePairSteps kind b i j first second
  pub stops : BothStop b first second stop

-- v is the pair's vector, on the way to which nothing met a limit
pub record IsPairVector (kind : PairKind) (b : List (List Term)) (i j : ℕ) (v : List Term) : Type 0 where
  pub reach : pair_degree b i j ≤ DEGREE
  pub first : Step
  pub second : Step
  pub steps : ArePairSteps kind b i j first second
  pub made : BothAreMade b first second v

-- the pair's vector, or why there is none
abbrev pub MakesPair : PairKind → List (List Term) → ℕ → ℕ → Result (List Term) PairFault → Type 0
MakesPair kind b i j (Ok v) = IsPairVector kind b i j v
MakesPair kind b i j (Err (faults.Stop (Steep d))) = (DEGREE < d) × (d ≡ pair_degree b i j)
MakesPair kind b i j (Err (faults.Stop (Wide p n))) = StopsPair kind b i j (Wide p n)
MakesPair kind b i j (Err (faults.Stop (Long terms n))) = StopsPair kind b i j (Long terms n)
MakesPair kind b i j (Err (faults.Stop Deep)) = ⊥
MakesPair kind b i j (Err faults.NoMemory) = Unit {0}

-- the fault of a vector as that of a pair
abbrev pub pair_fault : VecFault → PairFault
pair_fault (of_vector.Stop stop) = faults.Stop stop
pair_fault of_vector.NoMemory = faults.NoMemory
