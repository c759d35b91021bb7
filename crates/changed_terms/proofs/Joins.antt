-- Falling terms, joined and taken apart.
use Rattle.std.proofs.Common.{List, [], ◌∷◌, ◌++◌}
use Rattle.formal_sums.proofs.Falling.{AllBelow_transitive}
use Rattle.module_vec.specs.declared.places.Place.{Place}
use Rattle.module_vec.specs.declared.places.Term.{Term}
use Rattle.module_vec.specs.Vectors.{sum_of}
use Rattle.module_vec.proofs.Order.{test, order}
use Rattle.module_vec.proofs.FallingTerms.{Above, Below, Falls, below_back}

below_front : (p : Place) (a b : List Term) → Below p (a ++ b) → Below p a
below_front p [] b h = tt
below_front p (s ∷ a) b h = (h.0, below_front p a b h.1)

pub falls_front : (a b : List Term) → Falls (a ++ b) → Falls a
falls_front [] b f = tt
falls_front (s ∷ a) b f = (below_front s.at a b f.0, falls_front a b f.1)

-- what stands before a term of a falling list stands above it
pub above_next : (a : List Term) (x : Term) (b : List Term) → Falls (a ++ x ∷ b) → Above x.at a
above_next [] x b f = tt
above_next (s ∷ a) x b f = ((below_back s.at a (x ∷ b) f.0).0, above_next a x b f.1)

below_join : (p : Place) (a b : List Term) → Below p a → Below p b → Below p (a ++ b)
below_join p [] b h g = g
below_join p (s ∷ a) b h g = (h.0, below_join p a b h.1 g)

-- falling terms above a place, and falling terms below it
pub falls_join : (p : Place) (a b : List Term) → Falls a → Falls b → Above p a → Below p b → Falls (a ++ b)
falls_join p [] b f g above below = g
falls_join p (s ∷ a) b f g above below = (
  below_join s.at a b f.0 (AllBelow_transitive test order p s.at above.0 (sum_of b) below),
  falls_join p a b f.1 g above.1 below,
)
