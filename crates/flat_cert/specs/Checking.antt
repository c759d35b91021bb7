-- What a check of a certificate answers.
use Rattle.std.specs.Prelude.{◌≡◌, ◌≢◌, ℕ, ◌+◌, ℤ, pos, ◌-ℤ◌, List, [], ◌∷◌, Result, Ok, Err}
use Rattle.free_words.specs.declared.letter.Letter.{Letter}
use Rattle.presentation.specs.Presented.{Presented}
use Rattle.formal_sums.specs.FormalSum.{coefficient}
use Rattle.formal_sums.specs.Span.{multiple}
use Rattle.module_vec.specs.declared.places.Place.{Place}
use Rattle.module_vec.specs.declared.places.Term.{Term}
use Rattle.module_vec.specs.Places.{same_place, moved}
use Rattle.module_vec.specs.Vectors.{sum_of}
use Rattle.module_vec.specs.Results.{IsGreatest}
use Rattle.vector_text.specs.Over.{PlaceIsOver}
use Rattle.fox_calculus.specs.Fox.{fox}
use Rattle.fox_calculus.specs.Generators.{IsWritten}
use Rattle.flat_cert.specs.declared.lines.Flat.{Flat}
use Rattle.flat_cert.specs.declared.lines.FlatKind.{FlatKind}
use Rattle.flat_cert.specs.declared.faults.FlatFault.{FlatFault}
use Rattle.flat_cert.specs.declared.faults.FlatFault.TheVariants as added
use Rattle.flat_cert.specs.declared.faults.FlatSumFault.{FlatSumFault}
use Rattle.flat_cert.specs.declared.faults.FlatSumFault.TheVariants.{Beyond, NotZero, NoMemory}
use Rattle.flat_cert.specs.Images.{flat_image}
use Rattle.flat_cert.specs.Certificates.{IsKind, generator_of, certificate_sum}
use Rattle.flat_cert.specs.Weights.{weight, IsBeyond}

-- the vectors of the word and of all that a line may be a multiple of
pub record Vectors : Type 0 where
  pub word : List Term
  pub of : FlatKind → List Term

pub record AreVectors (p : Presented) (w : List Letter) (vs : Vectors) : Type 0 where
  pub word : IsWritten (fox w) vs.word
  pub of : (what : FlatKind) → IsKind p what → IsWritten (generator_of p what) (vs.of what)

-- what the absolute values of the terms of the lines at x add up to
abbrev pub lines_weight : Vectors → List Flat → Place → ℕ
lines_weight vs [] x = 0
lines_weight vs (l ∷ ls) x = weight (flat_image (multiple moved l.k l.t (sum_of (vs.of l.what)))) x
    + lines_weight vs ls x

-- the same with the terms of the word's vector
abbrev pub whole_weight : Vectors → List Flat → Place → ℕ
whole_weight vs ls x = weight (flat_image (sum_of vs.word)) x + lines_weight vs ls x

-- where the sum is taken from the Fox vector of the word, what is left at x
abbrev pub left_at : Presented → List Letter → List Flat → Place → ℤ
left_at p w ls x = coefficient same_place (flat_image (fox w)) x -ℤ coefficient same_place
    (flat_image (certificate_sum p ls)) x

abbrev pub IsWithin : Presented → List Letter → List Flat → Type 0
IsWithin p w ls = (vs : Vectors) → AreVectors p w vs → IsBeyond (whole_weight vs ls) → ⊥

-- nothing is left, or else the greatest place where something is; or a limit is passed
abbrev pub Answers : Presented → List Letter → List Flat → Result (Unit {0}) FlatSumFault → Type 0
Answers p w ls (Ok _) = ((x : Place) → left_at p w ls x ≡ pos 0) × IsWithin p w ls
Answers p w ls (Err (NotZero at)) = IsGreatest (λ x. left_at p w ls x ≢ pos 0) at × IsWithin p w ls
Answers p w ls (Err Beyond) = (vs : Vectors) → AreVectors p w vs → IsBeyond (whole_weight vs ls)
Answers p w ls (Err NoMemory) = Unit {0}

-- a term that can't be added
abbrev pub sum_fault : FlatFault → FlatSumFault
sum_fault added.Beyond = Beyond
sum_fault added.NoMemory = NoMemory

-- a place that is named is over n generators
abbrev pub FaultIsOver : ℕ → FlatSumFault → Type 0
FaultIsOver n (NotZero at) = PlaceIsOver n at
FaultIsOver n Beyond = Unit {0}
FaultIsOver n NoMemory = Unit {0}
