-- Pairs that are closed through a third entry.
use Rattle.std.specs.Prelude.{◌≢◌, ℕ, ◌<◌, ◌≤◌, ℤ, List, length}
use Rattle.laurent_terms.specs.declared.TheConstants.{DEGREE}
use Rattle.laurent_terms.specs.Monomials.{degree}
use Rattle.module_vec.specs.declared.places.Term.{Term}
use Rattle.module_vec.specs.Reducers.{Reduces}
use Rattle.outcomes.specs.declared.kinds.PairKind.TheVariants.{S}
use Rattle.strong_pairs.specs.Covering.{Divides}
use Rattle.strong_pairs.specs.Pairs.{lead_at, IsPair, pair_place, meeting_place}
use Rattle.strong_pairs.specs.Tasks.{IsClosed}
use Rattle.chain_rule.specs.ClosedPairs.{IsAmong, IsClosedEither}

-- c divides the least common multiple of k and l, that is each of their common multiples
abbrev pub DividesMultiple : ℤ → ℤ → ℤ → Type 0
DividesMultiple c k l = (n : ℤ) → Divides k n → Divides l n → Divides c n

-- the lead d of a third entry divides the least common multiple of the leads e and f, monomial and coefficient, and the
-- degree of this multiple is in reach
pub record ChainsLeads (d e f : Term) : Type 0 where
  pub reach : degree (meeting_place e f).m ≤ DEGREE
  pub reduces : Reduces d (meeting_place e f)
  pub coefficient : DividesMultiple d.k e.k f.k

-- the pair i, j is closed through entry number k: k is neither of both, its lead divides the least common multiple of
-- theirs, and it makes one of the closed pairs with each of them
pub record IsChained (b : List (List Term)) (pairs : List (ℕ × ℕ)) (i j k : ℕ) : Type 0 where
  pub number : k < length b
  pub not_first : k ≢ i
  pub not_second : k ≢ j
  pub leads : ChainsLeads (lead_at b k) (lead_at b i) (lead_at b j)
  pub with_first : IsAmong pairs i k
  pub with_second : IsAmong pairs k j

-- the chain rule: where the lead of entry number k divides the least common multiple of the leads of a pair, and the S
-- tasks of k with both of them are truly closed, so is that of the pair
abbrev pub ChainRule : List (List Term) → Type 0
ChainRule b = (i j k : ℕ) → IsPair b i j → k < length b → Reduces (lead_at b k) (pair_place b i j) →
    DividesMultiple (lead_at b k).k (lead_at b i).k (lead_at b j).k → IsClosedEither b i k → IsClosedEither b k j
    → IsClosed b S i j
