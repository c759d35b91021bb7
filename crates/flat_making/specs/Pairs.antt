-- Pairs of an entry and a monomial as places.
use Rattle.std.specs.BTreeMap.Range.{entries_between}
use Rattle.std.specs.Ordering.{nat_cmp, ordering_then, int_eq}
use Rattle.std.specs.List.{flat_map}
use Rattle.std.specs.Prelude.{◌≢◌, ℕ, ◌+◌, pos, neg_ℤ, Bool, List, [], ◌∷◌, map, if◌then◌else◌}
use Rattle.std.specs.declared.cmp.Ordering.{Ordering}
use Rattle.std.specs.declared.ops.Bound.TheVariants.{Included, Excluded}
use Rattle.formal_sums.specs.FormalSum.{FormalSum}
use Rattle.formal_sums.specs.Span.{multiple}
use Rattle.laurent_terms.specs.Monomials.{IsMonomial, mono_cmp, one}
use Rattle.module_vec.specs.declared.places.Place.{Place}
use Rattle.module_vec.specs.declared.steps.Step.{Step}
use Rattle.module_vec.specs.Places.{moved}
use Rattle.module_vec.specs.Vectors.{InRange}
use Rattle.flat_cert.specs.declared.lines.Flat.{Flat}
use Rattle.flat_cert.specs.declared.lines.FlatKind.{FlatKind}
use Rattle.flat_cert.specs.Images.{flat_image}
use Rattle.flat_cert.specs.declared.totals.Total.{Total}
use Rattle.flat_making.specs.declared.handed.Pair.{Pair}
use Rattle.flat_making.specs.declared.handed.Share.{Share}
use Rattle.flat_making.specs.Handing.{steps_sum}

-- the entry first
abbrev pub pair_cmp : Pair → Pair → Ordering
pair_cmp x y = ordering_then (nat_cmp x.entry y.entry) (mono_cmp x.t y.t)

abbrev pub place_of : Pair → Place
place_of x = record { m = x.t; c = x.entry }

abbrev pub places_of : List (Pair × Total) → List (Place × Total)
places_of es = map (λ e. (place_of e.0, e.1)) es

-- what the entry with this number has, as a sum of pairs
abbrev pub row_of : ℕ → List Share → FormalSum Place
row_of number row = map (λ s. (s.k, record { m = s.t; c = number })) row

pub record IsShare (s : Share) : Type 0 where
  pub mono : IsMonomial s.t
  pub nonzero : s.k ≢ pos 0
  pub range : InRange s.k

-- what stands from the first pair of the entry with this number on, and below the first pair of the next entry
abbrev pub between_entry : ℕ → List (Pair × Total) → List (Pair × Total)
between_entry number es = entries_between pair_cmp (Included (record { entry = number; t = one }))
    (Excluded (record { entry = number + 1; t = one })) es

-- the sums that aren't 0
abbrev pub shares_of : List (Pair × Total) → List Share
shares_of [] = []
shares_of (e ∷ es) = if int_eq e.1.sum (pos 0) then shares_of es else record { k = e.1.sum; t = e.0.t } ∷ shares_of es

-- what these shares hand on by the steps
abbrev pub shares_hand : List Share → List Step → FormalSum Place
shares_hand row steps = flat_map (λ s. flat_image (multiple moved s.k s.t (steps_sum steps))) row

-- their lines
abbrev pub share_lines : Bool → FlatKind → List Share → List Flat
share_lines negated what row = map (λ s. record {
  k = if negated then neg_ℤ s.k else s.k;
  t = s.t;
  what = what;
}) row
