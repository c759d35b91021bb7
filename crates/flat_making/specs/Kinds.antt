-- What a line of a flat certificate names the generators of a presentation's module.
use Rattle.std.specs.Prelude.{ℕ, ◌==◌, List, [], ◌∷◌, ◌++◌, map, length, if◌then◌else◌, Option, Some, None}
use Rattle.std.specs.List.{range_with_len, flat_map}
use Rattle.presentation.specs.Presented.{Presented}
use Rattle.formal_sums.specs.FormalSum.{FormalSum}
use Rattle.module_vec.specs.declared.places.Place.{Place}
use Rattle.fox_calculus.specs.Generators.{components, candidates, IsZero}
use Rattle.flat_cert.specs.declared.lines.FlatKind.{FlatKind}
use Rattle.flat_cert.specs.declared.lines.FlatKind.TheVariants.{Rel, Bin, Mod}

-- the numbers of the relators, from 1
abbrev pub relator_numbers : Presented → List ℕ
relator_numbers p = range_with_len 1 (length p.relators)

abbrev pub relator_kinds : Presented → List (Option FlatKind)
relator_kinds p = map (λ j. Some (Rel j)) (relator_numbers p)

abbrev pub binomial_kinds : Presented → List (Option FlatKind)
binomial_kinds p = flat_map (λ j. map (λ c. Some (Bin j c)) (components p)) (relator_numbers p)

-- unit binomials are named by no line
abbrev pub unit_kinds : Presented → List (Option FlatKind)
unit_kinds p = flat_map (λ g. map (λ c. None) (components p)) (components p)

abbrev pub modulus_kinds : Presented → List (Option FlatKind)
modulus_kinds p = if p.modulus == 0 then [] else map (λ c. Some (Mod c)) (components p)

-- what a line names each candidate for a generator: they have the same order
abbrev pub candidate_kinds : Presented → List (Option FlatKind)
candidate_kinds p = relator_kinds p ++ (binomial_kinds p ++ (unit_kinds p ++ modulus_kinds p))

-- of the kinds of these sums, those of the sums that aren't zero
pub data AreNamed : List (FormalSum Place) → List (Option FlatKind) → List (Option FlatKind) → Type 0 where
  nothing : AreNamed [] [] []
  left_out : (f : FormalSum Place) (kind : Option FlatKind) (fs : List (FormalSum Place))
      (kinds : List (Option FlatKind))
      (named : List (Option FlatKind)) → IsZero f → AreNamed fs kinds named → AreNamed (f ∷ fs) (kind ∷ kinds) named
  written : (f : FormalSum Place) (kind : Option FlatKind) (fs : List (FormalSum Place))
      (kinds : List (Option FlatKind))
      (named : List (Option FlatKind)) → (IsZero f → ⊥) → AreNamed fs kinds named
      → AreNamed (f ∷ fs) (kind ∷ kinds) (kind ∷ named)

-- what a line names the generators of the presentation's module, in their order: candidates that are zero are none
abbrev pub AreKinds : Presented → List (Option FlatKind) → Type 0
AreKinds p named = AreNamed (candidates p) (candidate_kinds p) named

-- where these sums stand behind others, their kinds come behind what was made of those
abbrev pub Names : List (Option FlatKind) → List (FormalSum Place) → List (Option FlatKind) → List (Option FlatKind)
    → Type 0
Names old fs kinds new = (gs : List (FormalSum Place)) (others : List (Option FlatKind)) → AreNamed gs others old
    → AreNamed (gs ++ fs) (others ++ kinds) new
