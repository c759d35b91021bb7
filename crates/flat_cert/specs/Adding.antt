-- Coefficients that are added up at flat places, and their absolute values beside them.
use Rattle.std.specs.List.{AllByRecursion}
use Rattle.std.specs.Map.{lookup}
use Rattle.std.specs.Ordering.{is_eq}
use Rattle.std.specs.Prelude.{◌≡◌, ℕ, ◌+◌, ◌*◌, ◌<◌, ◌≤◌, ℤ, pos, ◌+ℤ◌, ◌-ℤ◌, unsigned_abs, slice_index, List, []}
use Rattle.std.specs.Prelude.{◌∷◌, length, Option, Some, None, Result, Ok, Err, IfOk}
use Rattle.free_words.specs.declared.letter.Letter.{Letter}
use Rattle.presentation.specs.Presented.{Presented}
use Rattle.formal_sums.specs.FormalSum.{FormalSum, coefficient}
use Rattle.formal_sums.specs.Span.{multiple}
use Rattle.module_vec.specs.declared.TheConstants.{COEFFICIENT}
use Rattle.module_vec.specs.declared.places.Place.{Place}
use Rattle.module_vec.specs.declared.places.Term.{Term}
use Rattle.module_vec.specs.Places.{place_cmp, same_place, moved, IsPlace}
use Rattle.module_vec.specs.Vectors.{sum_of}
use Rattle.fox_calculus.specs.Fox.{fox, image}
use Rattle.fox_calculus.specs.Generators.{IsWritten}
use Rattle.flat_cert.specs.declared.TheConstants.{PLACES}
use Rattle.flat_cert.specs.declared.faults.FlatFault.{FlatFault}
use Rattle.flat_cert.specs.declared.faults.FlatFault.TheVariants.{Beyond, NoMemory}
use Rattle.flat_cert.specs.declared.totals.Total.{Total}
use Rattle.flat_cert.specs.declared.relators.RelatorVector.{RelatorVector}
use Rattle.flat_cert.specs.declared.lines.Flat.{Flat}
use Rattle.flat_cert.specs.declared.lines.FlatKind.{FlatKind}
use Rattle.flat_cert.specs.Images.{flat_image}
use Rattle.flat_cert.specs.Certificates.{IsKind, generator_of, certificate_sum}
use Rattle.flat_cert.specs.Weights.{weight, IsBeyond}
use Rattle.flat_cert.specs.Checking.{Vectors, lines_weight}

-- the exponent of x_g less that of y_g in the product
abbrev pub difference_in : List ℕ → List ℕ → ℕ → ℤ
difference_in s t g = pos (slice_index s (2 * g) + slice_index t (2 * g)) -ℤ pos
    (slice_index s (2 * g + 1) + slice_index t (2 * g + 1))

abbrev pub sum_in : Option Total → ℤ
sum_in None = pos 0
sum_in (Some t) = t.sum

abbrev pub weight_in : Option Total → ℕ
weight_in None = 0
weight_in (Some t) = t.weight

abbrev pub found : List (Place × Total) → Place → Option Total
found es x = lookup (λ k. is_eq (place_cmp x k)) es

abbrev pub sum_at : List (Place × Total) → Place → ℤ
sum_at es x = sum_in (found es x)

abbrev pub weight_at : List (Place × Total) → Place → ℕ
weight_at es x = weight_in (found es x)

pub record IsTotal (e : Place × Total) : Type 0 where
  pub place : IsPlace e.0
  pub some : 0 < e.1.weight
  pub most : e.1.weight ≤ COEFFICIENT
  pub small : unsigned_abs e.1.sum ≤ e.1.weight

-- before: at most the limit stands there
pub record IsSmall (t : Option Total) : Type 0 where
  pub most : weight_in t ≤ COEFFICIENT
  pub small : unsigned_abs (sum_in t) ≤ weight_in t

-- k is added to what stood there
pub record IsWith (before : Option Total) (k : ℤ) (after : Total) : Type 0 where
  pub sum : after.sum ≡ sum_in before +ℤ k
  pub weight : after.weight ≡ weight_in before + unsigned_abs k
  pub small : IsSmall (Some after)

pub record AreTotals (es : List (Place × Total)) : Type 0 where
  pub all : AllByRecursion IsTotal es
  pub few : length es ≤ PLACES

-- what comes of adding v: the limits are kept, or else one is passed
abbrev pub Adds : List (Place × Total) → FormalSum Place → List (Place × Total) → Result (Unit {0}) FlatFault → Type 0
Adds old v new (Ok _) = ((x : Place) → sum_at new x ≡ sum_at old x +ℤ coefficient same_place v x)
    × ((x : Place) → weight_at new x ≡ weight_at old x + weight v x)
Adds old v new (Err Beyond) = IsBeyond (λ x. weight_at old x + weight v x)
Adds old v new (Err NoMemory) = Unit {0}

-- the limits are kept where W is added, or else one is passed
abbrev pub Weighs : List (Place × Total) → (Place → ℕ) → List (Place × Total) → Result (Unit {0}) FlatFault → Type 0
Weighs old W new (Ok _) = (x : Place) → weight_at new x ≡ weight_at old x + W x
Weighs old W new (Err Beyond) = IsBeyond (λ x. weight_at old x + W x)
Weighs old W new (Err NoMemory) = Unit {0}

-- v is taken away
abbrev pub Loses : List (Place × Total) → FormalSum Place → List (Place × Total) → Type 0
Loses old v new = (x : Place) → sum_at new x ≡ sum_at old x -ℤ coefficient same_place v x

-- what comes of taking k·t·f away
pub record TakesAway (old : List (Place × Total)) (k : ℤ) (t : List ℕ) (f : FormalSum Place)
    (new : List (Place × Total))
    (r : Result (Unit {0}) FlatFault) : Type 0 where
  pub sums : IfOk r (λ _. Loses old (flat_image (multiple moved k t f)) new)
  pub weights : (g : List Term) → IsWritten f g → Weighs old (weight (flat_image (multiple moved k t (sum_of g)))) new r

-- what comes of taking the values of the lines away
pub record TakesLines (p : Presented) (old : List (Place × Total)) (ls : List Flat) (new : List (Place × Total))
    (r : Result (Unit {0}) FlatFault) : Type 0 where
  pub sums : IfOk r (λ _. Loses old (flat_image (certificate_sum p ls)) new)
  pub weights : (vs : Vectors) → ((what : FlatKind) → IsKind p what → IsWritten (generator_of p what) (vs.of what))
      → Weighs old (lines_weight vs ls) new r

-- the Fox vector of each relator, with the monomial of its exponent sums
abbrev pub AreRelators : List (List Letter) → List RelatorVector → Type 0
AreRelators [] [] = Unit {0}
AreRelators [] (v ∷ vs) = ⊥
AreRelators (r ∷ rs) [] = ⊥
AreRelators (r ∷ rs) (v ∷ vs) = IsWritten (fox r) v.vector × (v.image ≡ image r) × AreRelators rs vs
