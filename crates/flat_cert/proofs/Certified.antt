-- A word is trivial whose Fox vector has the flat image of the sum of a certificate.
use Rattle.std.proofs.Common.{ℕ, ◌-◌, Bool, true, false, ℤ, List, [], ◌∷◌, ◌++◌, length, refl, sym, subst, arith}
use Rattle.std.specs.Prelude.{Contains}
use Rattle.std.specs.List.{AllByRecursion}
use Rattle.std.proofs.lemmas.List.Elements.{Contains-get_or}
use Rattle.std.proofs.lemmas.List.Concat.{flat_map-cons}
use Rattle.free_words.specs.declared.letter.Letter.{Letter}
use Rattle.free_words.specs.Words.{IsOver}
use Rattle.presentation.specs.Presented.{Presented, IsPresented}
use Rattle.derivation.specs.Moves.{IsWordOver, Trivial}
use Rattle.formal_sums.specs.FormalSum.{FormalSum, Same}
use Rattle.formal_sums.specs.Span.{multiple}
use Rattle.laurent_terms.specs.declared.TheConstants.{VARIABLES}
use Rattle.laurent_terms.specs.Monomials.{one}
use Rattle.laurent_terms.proofs.IntegerVectors.{length-monomial_of}
use Rattle.module_vec.specs.declared.places.Place.{Place}
use Rattle.module_vec.specs.Places.{same_place, moved}
use Rattle.module_vec.proofs.FallingTerms.{all_join}
use Rattle.vector_text.specs.Over.{MonoIsOver, PlaceIsOver}
use Rattle.vector_text.proofs.Over.{one_over, product_over}
use Rattle.fox_calculus.specs.Fox.{exponent_sums, image, letter_term, fox_after, fox}
use Rattle.fox_calculus.specs.Module.{HasVariables, IsGenerator, IsMember}
use Rattle.fox_calculus.specs.Module.IsGenerator.{relator_vector, relator_binomial, modulus_vector}
use Rattle.fox_calculus.proofs.Sums.{sums_length}
use Rattle.fox_calculus.proofs.Over.{image_over, fox_over}
use Rattle.magnus_laws.proofs.Members.{member_nothing, member_sum, member_of_generator, congruent_member}
use Rattle.magnus_laws.proofs.Monomials.{length-product}
use Rattle.magnus_laws.proofs.Theorem.{member_is_trivial}
use Rattle.magnus_laws.proofs.Upward.{relator_over}
use Rattle.flat_cert.specs.declared.lines.Flat.{Flat}
use Rattle.flat_cert.specs.declared.lines.FlatKind.{FlatKind}
use Rattle.flat_cert.specs.declared.lines.FlatKind.TheVariants.{Rel, Bin, Mod}
use Rattle.flat_cert.specs.Images.{flat_image, IsSumOver}
use Rattle.flat_cert.specs.Certificates.{IsRelator, relator, IsKind, AreFlat, generator_of, value_of, certificate_sum}
use Rattle.flat_cert.proofs.Images.{images_congruent}

pub image_variables : (u : List Letter) → HasVariables (image u)
image_variables u = length-monomial_of (exponent_sums u) (omega (arith, sums_length u))

-- ---- vectors over the presentation

fox_variables : (u w : List Letter) → AllByRecursion (λ t. HasVariables t.1.m) (fox_after u w)
fox_variables u [] = tt
fox_variables u (l ∷ w) = (by l.inv, fox_variables (u ++ l ∷ []) w)
  where
    by : (b : Bool) → HasVariables (letter_term u (record { g = l.g; inv = b })).1.m
    by true = image_variables (u ++ (record { g = l.g; inv = true }) ∷ [])
    by false = image_variables u

sum_is_over : (n : ℕ) (v : FormalSum Place) → AllByRecursion (λ t. HasVariables t.1.m) v → AllByRecursion (λ t. PlaceIsOver n t.1) v → IsSumOver n v
sum_is_over n [] long over = tt
sum_is_over n (t ∷ v) long over = (record { variables = long.0; over = over.0 }, sum_is_over n v long.1 over.1)

pub fox_is_over : (n : ℕ) (w : List Letter) → IsOver n w → IsSumOver n (fox w)
fox_is_over n w over = sum_is_over n (fox w) (fox_variables [] w) (fox_over n [] w tt over)

one_variables : HasVariables one
one_variables = refl

multiple_is_over : (n : ℕ) (q : ℤ) (t : List ℕ) (v : FormalSum Place) → HasVariables t → MonoIsOver n t → IsSumOver n v → IsSumOver n (multiple moved q t v)
multiple_is_over n q t [] long over all = tt
multiple_is_over n q t ((k, x) ∷ v) long over all = (
  record {
    variables = length-product VARIABLES t x.m long all.0.variables;
    over = record { mono = product_over n t x.m over all.0.over.mono; component = all.0.over.component };
  },
  multiple_is_over n q t v long over all.1,
)

module _ (p : Presented) (known : IsPresented p) where
  abbrev n : ℕ
  n = length p.names

  pub relator_listed : (j : ℕ) → IsRelator p j → Contains p.relators (relator p j)
  relator_listed j is = Contains-get_or p.relators (j - 1) [] (omega (arith, is.0, is.1))

  pub relator_is_over : (j : ℕ) → IsRelator p j → IsOver n (relator p j)
  relator_is_over j is = relator_over p known (relator p j) (relator_listed j is)

  -- a line is a multiple of a generator of the module
  pub kind_generates : (what : FlatKind) → IsKind p what → IsGenerator p (generator_of p what)
  kind_generates (Rel j) is = relator_vector (relator p j) (relator_listed j is)
  kind_generates (Bin j c) is = relator_binomial (relator p j) c (relator_listed j is.0) is.1
  kind_generates (Mod c) is = modulus_vector c is.1 is.0

  pub generator_is_over : (what : FlatKind) → IsKind p what → IsSumOver n (generator_of p what)
  generator_is_over (Rel j) is = fox_is_over n (relator p j) (relator_is_over j is)
  generator_is_over (Bin j c) is = (
    record { variables = image_variables (relator p j); over = record { mono = image_over n (relator p j) (relator_is_over j is.0); component = is.1 } },
    (
      record { variables = one_variables; over = record { mono = one_over n; component = is.1 } },
      tt,
    ),
  )
  generator_is_over (Mod c) is = (record { variables = one_variables; over = record { mono = one_over n; component = is.0 } }, tt)

  pub certificate_is_over : (ls : List Flat) → AreFlat p ls → IsSumOver n (certificate_sum p ls)
  certificate_is_over [] are = tt
  certificate_is_over (l ∷ ls) are =
      subst (IsSumOver n) (sym (flat_map-cons (value_of p) l ls))
      (all_join _ (value_of p l) (certificate_sum p ls)
      (multiple_is_over n l.k l.t (generator_of p l.what) are.0.mono.mono.variables are.0.mono.over (generator_is_over l.what are.0.kind))
      (certificate_is_over ls are.1))

  certificate_lies : (ls : List Flat) → AreFlat p ls → IsMember p (certificate_sum p ls)
  certificate_lies [] are = member_nothing p
  certificate_lies (l ∷ ls) are =
      subst (IsMember p) (sym (flat_map-cons (value_of p) l ls))
      (member_sum p (value_of p l) (certificate_sum p ls)
      (member_of_generator p l.k l.t (generator_of p l.what) are.0.mono.mono.variables (kind_generates l.what are.0.kind)) (certificate_lies ls are.1))

pub certified_is_trivial : (p : Presented) (w : List Letter) (ls : List Flat) → IsPresented p → IsWordOver p w → AreFlat p ls
    → Same same_place (flat_image (fox w)) (flat_image (certificate_sum p ls)) → Trivial p w
certified_is_trivial p w ls known over are same =
    member_is_trivial p w known over
    (congruent_member p (fox w) (certificate_sum p ls)
    (images_congruent p known.few_names (fox w) (certificate_sum p ls) (fox_is_over (length p.names) w over) (certificate_is_over p known ls are) same)
    (certificate_lies p known ls are))
