-- Flat certificates: sums of multiples of the relators' Fox vectors, of relator binomials and of the modulus.
use Rattle.std.specs.Prelude.{◌≢◌, ℕ, ◌-◌, ◌<◌, ◌≤◌, pos, List, [], length, get_or}
use Rattle.std.specs.List.{AllByRecursion, flat_map}
use Rattle.free_words.specs.declared.letter.Letter.{Letter}
use Rattle.presentation.specs.Presented.{Presented}
use Rattle.formal_sums.specs.FormalSum.{FormalSum}
use Rattle.formal_sums.specs.Span.{multiple}
use Rattle.module_vec.specs.declared.places.Place.{Place}
use Rattle.module_vec.specs.Places.{moved}
use Rattle.module_vec.specs.Vectors.{InRange}
use Rattle.vector_text.specs.Over.{IsMonoOf}
use Rattle.fox_calculus.specs.Fox.{fox, image}
use Rattle.fox_calculus.specs.Generators.{binomial, constant}
use Rattle.flat_cert.specs.declared.lines.Flat.{Flat}
use Rattle.flat_cert.specs.declared.lines.FlatKind.{FlatKind}
use Rattle.flat_cert.specs.declared.lines.FlatKind.TheVariants.{Rel, Bin, Mod}
use Rattle.flat_cert.specs.Images.{IsFlatMono}

-- relators are numbered from 1
abbrev pub IsRelator : Presented → ℕ → Type 0
IsRelator p j = (0 < j) × (j ≤ length p.relators)

abbrev pub relator : Presented → ℕ → List Letter
relator p j = get_or p.relators (j - 1) []

-- the relator and the component are there, and the modulus
abbrev pub IsKind : Presented → FlatKind → Type 0
IsKind p (Rel j) = IsRelator p j
IsKind p (Bin j c) = IsRelator p j × (c < length p.names)
IsKind p (Mod c) = (c < length p.names) × (0 < p.modulus)

-- a line of a certificate over the presentation
pub record IsFlat (p : Presented) (l : Flat) : Type 0 where
  pub range : InRange l.k
  pub nonzero : l.k ≢ pos 0
  pub mono : IsMonoOf (length p.names) l.t
  pub flat : IsFlatMono l.t
  pub kind : IsKind p l.what

abbrev pub AreFlat : Presented → List Flat → Type 0
AreFlat p ls = AllByRecursion (IsFlat p) ls

-- what the line is a multiple of: the Fox vector of a relator, (x^a - 1)·e_c for the exponent sums a of a relator,
-- or m·e_c
abbrev pub generator_of : Presented → FlatKind → FormalSum Place
generator_of p (Rel j) = fox (relator p j)
generator_of p (Bin j c) = binomial (image (relator p j)) c
generator_of p (Mod c) = constant p.modulus c

-- the value of a line
abbrev pub value_of : Presented → Flat → FormalSum Place
value_of p l = multiple moved l.k l.t (generator_of p l.what)

-- the sum of a certificate
abbrev pub certificate_sum : Presented → List Flat → FormalSum Place
certificate_sum p ls = flat_map (value_of p) ls
