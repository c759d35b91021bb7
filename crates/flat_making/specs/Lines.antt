-- The lines of the entries of generators.
use Rattle.std.specs.Prelude.{◌≡◌, ℕ, suc, ℤ, neg_ℤ, Bool, List, [], ◌∷◌, ◌++◌, map, if◌then◌else◌, Option, Some, None}
use Rattle.std.specs.Prelude.{slice_index_or}
use Rattle.formal_sums.specs.FormalSum.{FormalSum}
use Rattle.module_vec.specs.declared.places.Place.{Place}
use Rattle.basis_entry.specs.declared.recipes.Recipe.{Recipe}
use Rattle.basis_entry.specs.declared.recipes.Recipe.TheVariants.{Gen, Sum}
use Rattle.report_reading.specs.declared.entry.EntryData.{EntryData}
use Rattle.flat_cert.specs.declared.lines.Flat.{Flat}
use Rattle.flat_cert.specs.declared.lines.FlatKind.{FlatKind}
use Rattle.flat_making.specs.Handing.{IsRow}

-- a line for each vector of a row, its sign turned where the generator was negated; none for a unit binomial
abbrev pub lines_of : Bool → Option FlatKind → FormalSum Place → List Flat
lines_of negated None row = []
lines_of negated (Some what) row = map (λ t. record {
  k = if negated then neg_ℤ t.0 else t.0;
  t = t.1.m;
  what = what;
}) row

-- the entry of a generator has lines; `kinds` says what they name each generator
abbrev pub entry_lines : List (Option FlatKind) → Recipe → FormalSum Place → List Flat
entry_lines kinds (Gen number negated) row = lines_of negated (slice_index_or kinds number None) row
entry_lines kinds (Sum steps) row = []

-- the lines of the entries, of which the first has this number, in their order; M says what is handed to each
abbrev pub AreLinesFrom : List (Option FlatKind) → (Place → ℤ) → ℕ → List EntryData → List Flat → Type 0
AreLinesFrom kinds M number [] list = list ≡ []
AreLinesFrom kinds M number (e ∷ es) list = (row : FormalSum Place) × (rest : List Flat) × IsRow M number row
    × (list ≡ entry_lines kinds e.recipe row ++ rest) × AreLinesFrom kinds M (suc number) es rest
