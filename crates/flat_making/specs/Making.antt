-- The flat certificate of a proof, and where there is none.
use Rattle.std.specs.List.{AllByRecursion}
use Rattle.std.specs.Prelude.{◌≡◌, ℕ, ◌<◌, neg_ℤ, Bool, if◌then◌else◌, List, length, map, Option, Some, slice_get}
use Rattle.std.specs.Prelude.{Result, Ok, Err, Vec}
use Rattle.std.specs.declared.alloc.Global.{Global}
use Rattle.presentation.specs.Presented.{Presented}
use Rattle.formal_sums.specs.FormalSum.{FormalSum, coefficient}
use Rattle.module_vec.specs.declared.places.Place.{Place}
use Rattle.module_vec.specs.declared.places.Term.{Term}
use Rattle.module_vec.specs.declared.steps.Step.{Step}
use Rattle.module_vec.specs.Modules.{vector_at, steps_at}
use Rattle.module_vec.specs.Places.{same_place}
use Rattle.module_vec.specs.Vectors.{Coefficients, coefficient_at}
use Rattle.step_text.specs.Over.{AreStepsOf}
use Rattle.fox_calculus.specs.Generators.{AreGenerators}
use Rattle.basis_entry.specs.declared.recipes.Recipe.{Recipe}
use Rattle.basis_entry.specs.declared.recipes.Recipe.TheVariants.{Gen, Sum}
use Rattle.report_reading.specs.declared.entry.EntryData.{EntryData}
use Rattle.flat_cert.specs.declared.faults.FlatFault.{FlatFault}
use Rattle.flat_cert.specs.declared.faults.FlatFault.TheVariants.{Beyond, NoMemory}
use Rattle.flat_cert.specs.declared.lines.Flat.{Flat}
use Rattle.flat_cert.specs.declared.lines.FlatKind.{FlatKind}
use Rattle.flat_cert.specs.Weights.{weight, IsBeyond}
use Rattle.flat_making.specs.Handing.{IsHanded}
use Rattle.flat_making.specs.Kinds.{AreKinds}
use Rattle.flat_making.specs.Lines.{AreLinesFrom}

-- ---- logs and proofs

abbrev pub vectors_of : List EntryData → List (List Term)
vectors_of es = map (λ e. e.vector) es

-- each step names an entry below the front
abbrev pub NameBelow : ℕ → List Step → Type 0
NameBelow front ss = AllByRecursion (λ s. s.by < front) ss

-- a generator, or its negative
abbrev pub signed : Bool → List Term → Coefficients
signed negated g x = if negated then neg_ℤ (coefficient_at g x) else coefficient_at g x

-- f is the value of the recipe of the entry with this number: a generator, its signs turned where it is negated, or a
-- sum of multiples of entries before it
abbrev pub IsValueOf : Presented → List (List Term) → List (List Term) → ℕ → Recipe → Coefficients → Type 0
IsValueOf p gens vectors number (Gen generator negated) f = (generator < length gens)
    × ((x : Place) → f x ≡ signed negated (vector_at gens generator) x)
IsValueOf p gens vectors number (Sum steps) f = AreStepsOf (length p.names) steps × NameBelow number steps
    × ((x : Place) → f x ≡ steps_at vectors steps x)

-- the vectors of the entries are the values of their recipes
pub record IsLog (p : Presented) (es : List EntryData) : Type 0 where
  pub gens : List (List Term)
  pub generators : AreGenerators p gens
  pub values : (i : ℕ) (e : EntryData) → slice_get es i ≡ Some e
      → IsValueOf p gens (vectors_of es) i e.recipe (coefficient_at e.vector)

-- steps over the presentation that name entries of the log
pub record IsProof (p : Presented) (es : List EntryData) (proof : List Step) : Type 0 where
  pub steps : AreStepsOf (length p.names) proof
  pub named : NameBelow (length es) proof

-- ---- certificates

-- the lines are those of what is handed in all
abbrev pub IsCertificateOf : Presented → List EntryData → FormalSum Place → List Flat → Type 0
IsCertificateOf p es all list = (kinds : List (Option FlatKind)) × AreKinds p kinds
    × AreLinesFrom kinds (coefficient same_place all) 0 es list

-- the flat certificate of the proof where what is handed in all is within the limits, and else a refusal
abbrev pub Answers : Presented → List EntryData → List Step → Result (Vec Flat Global) FlatFault → Type 0
Answers p es proof (Ok list) = (all : FormalSum Place) × IsHanded es proof all × (IsBeyond (weight all) → ⊥)
    × IsCertificateOf p es all list.items
Answers p es proof (Err Beyond) = (all : FormalSum Place) × IsHanded es proof all × IsBeyond (weight all)
Answers p es proof (Err NoMemory) = Unit {0}
