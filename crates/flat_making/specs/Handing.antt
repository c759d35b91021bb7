-- What a proof hands to entries, and entries to entries before them. A pair of an entry and an integer vector is
-- written as a place: the monomial of the vector, with the number of the entry as the component.
use Rattle.std.specs.List.{AllByRecursion, flat_map}
use Rattle.std.specs.Prelude.{◌≡◌, ◌≢◌, ℕ, zero, suc, ℤ, pos, List, [], ◌++◌, map, length, slice_index_or}
use Rattle.std.specs.Prelude.{Result, Ok, Err}
use Rattle.formal_sums.specs.FormalSum.{FormalSum, coefficient, Falling, NonZero}
use Rattle.formal_sums.specs.Span.{multiple}
use Rattle.module_vec.specs.declared.places.Place.{Place}
use Rattle.module_vec.specs.declared.steps.Step.{Step}
use Rattle.module_vec.specs.Places.{IsBelow, same_place, moved}
use Rattle.basis_entry.specs.declared.recipes.Recipe.{Recipe}
use Rattle.basis_entry.specs.declared.recipes.Recipe.TheVariants.{Gen, Sum}
use Rattle.report_reading.specs.declared.entry.EntryData.{EntryData}
use Rattle.flat_cert.specs.declared.totals.Total.{Total}
use Rattle.flat_cert.specs.declared.faults.FlatFault.{FlatFault}
use Rattle.flat_cert.specs.declared.faults.FlatFault.TheVariants.{Beyond, NoMemory}
use Rattle.flat_cert.specs.Images.{flat_image}
use Rattle.flat_cert.specs.Weights.{weight, IsBeyond}
use Rattle.flat_cert.specs.Adding.{sum_at, weight_at}

-- ---- what is handed

-- the steps as a sum of pairs: q at t and the entry that the step names
abbrev pub steps_sum : List Step → FormalSum Place
steps_sum ss = map (λ s. (s.q, record { m = s.t; c = s.by })) ss

-- the row of an entry, where M says what is handed to each entry at each vector: what it has, by falling monomials, and
-- none of it 0
pub record IsRow (M : Place → ℤ) (number : ℕ) (row : FormalSum Place) : Type 0 where
  pub falling : Falling IsBelow row
  pub nonzero : NonZero row
  pub own : AllByRecursion (λ t. t.1.c ≡ number) row
  pub is : (x : Place) → x.c ≡ number → coefficient same_place row x ≡ M x

-- an entry that has k at a vector hands k·q on, for each step of its recipe, at the sum of that vector and the step's
abbrev pub hands_on : FormalSum Place → Recipe → FormalSum Place
hands_on row (Gen number negated) = []
hands_on row (Sum steps) = flat_map (λ t. flat_image (multiple moved t.0 t.1.m (steps_sum steps))) row

abbrev pub recipe_at : List EntryData → ℕ → Recipe
recipe_at es n = (slice_index_or es n (record { recipe = Sum []; vector = [] })).recipe

-- `handed` was handed so far, by the proof and by the entries from number n on. The entries below n, from the last to
-- the first, hand on what they have: then `all` was handed
abbrev pub HandDown : List EntryData → ℕ → FormalSum Place → FormalSum Place → Type 0
HandDown es zero handed all = all ≡ handed
HandDown es (suc n) handed all = (row : FormalSum Place) × IsRow (coefficient same_place handed) n row
    × HandDown es n (handed ++ hands_on row (recipe_at es n)) all

-- what is handed by a proof and then by all entries
abbrev pub IsHanded : List EntryData → List Step → FormalSum Place → Type 0
IsHanded es proof all = HandDown es (length es) (flat_image (steps_sum proof)) all

-- ---- steps that hand something

-- no step has the factor 0
abbrev pub HaveFactor : List Step → Type 0
HaveFactor ss = AllByRecursion (λ s. s.q ≢ pos 0) ss

abbrev pub HasFactors : Recipe → Type 0
HasFactors (Gen number negated) = Unit {0}
HasFactors (Sum steps) = HaveFactor steps

abbrev pub HaveFactors : List EntryData → Type 0
HaveFactors es = AllByRecursion (λ e. HasFactors e.recipe) es

-- ---- how it is kept

-- the totals are those of a sum, and of its absolute values
pub record Holds (totals : List (Place × Total)) (handed : FormalSum Place) : Type 0 where
  pub sums : (x : Place) → sum_at totals x ≡ coefficient same_place handed x
  pub weights : (x : Place) → weight_at totals x ≡ weight handed x

-- what comes of handing down: all is handed, or a limit is passed by all that is to be handed
abbrev pub HandsDown : List EntryData → List (Place × Total) → List (Place × Total) → Result (Unit {0}) FlatFault
    → Type 0
HandsDown es old new (Ok _) = (handed : FormalSum Place) → Holds old handed → (all : FormalSum Place)
    × HandDown es (length es) handed all × Holds new all
HandsDown es old new (Err Beyond) = (handed : FormalSum Place) → Holds old handed → (all : FormalSum Place)
    × HandDown es (length es) handed all × IsBeyond (weight all)
HandsDown es old new (Err NoMemory) = Unit {0}
