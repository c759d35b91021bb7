-- The entries of the generators of a module.
use Rattle.std.specs.Int.{is_negative}
use Rattle.std.specs.Prelude.{◌≡◌, ℕ, ◌≤◌, Bool, false, MatchBool, negsuc, List, [], ◌∷◌, length, Some, slice_get}
use Rattle.presentation.specs.Presented.{Presented}
use Rattle.formal_sums.specs.FormalSum.{scale}
use Rattle.module_vec.specs.declared.places.Term.{Term}
use Rattle.module_vec.specs.Modules.{vector_at}
use Rattle.module_vec.specs.Vectors.{sum_of}
use Rattle.fox_calculus.specs.Generators.{AreGenerators}
use Rattle.basis_entry.specs.declared.TheConstants.{BASE}
use Rattle.basis_entry.specs.declared.recipes.Recipe.TheVariants.{Gen}
use Rattle.basis_entry.specs.Entries.{BasisEntry}

-- the lead coefficient is negative
abbrev pub has_negative_lead : List Term → Bool
has_negative_lead [] = false
has_negative_lead (e ∷ g) = is_negative e.k

-- e is the entry of the generator g, which has this number: all signs are turned where the lead coefficient is negative
pub record IsOfGenerator (p : Presented) (number : ℕ) (g : List Term) (e : BasisEntry) : Type 0 where
  pub source : e.source ≡ p
  pub vector : MatchBool (has_negative_lead g) (sum_of e.vector ≡ scale (negsuc 0) (sum_of g)) (e.vector ≡ g)
  pub recipe : e.recipe ≡ Gen number (has_negative_lead g)

-- the entries of the generators of the presentation's module, in their order
pub record AreBase (p : Presented) (es : List BasisEntry) : Type 0 where
  pub gens : List (List Term)
  pub generators : AreGenerators p gens
  pub count : length es ≡ length gens
  pub few : length es ≤ BASE
  pub each : (i : ℕ) (e : BasisEntry) → slice_get es i ≡ Some e → IsOfGenerator p i (vector_at gens i) e
