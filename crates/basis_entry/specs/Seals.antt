-- Seals: lists of entries that are known to be complete.
use Rattle.std.specs.List.{AllByRecursion}
use Rattle.std.specs.Prelude.{ℕ, ◌+◌, ◌<◌, ◌^◌, List, length, Option, Some, None}
use Rattle.presentation.specs.Presented.{Presented}
use Rattle.module_vec.specs.declared.places.Term.{Term}
use Rattle.module_vec.specs.Modules.{IsStrong}
use Rattle.fox_calculus.specs.Generators.{AreGenerators}
use Rattle.basis_entry.specs.Entries.{BasisEntry, IsBasisEntry, AreOf, vectors_of}

-- the vectors are a strong basis of the module of the presentation
pub record IsStrongBasis (p : Presented) (b : List (List Term)) : Type 0 where
  pub gens : List (List Term)
  pub generators : AreGenerators p gens
  pub strong : IsStrong gens b

pub record Seal : Type 0 where
  pub source : Presented
  pub entries : List BasisEntry

-- what holds of every seal
pub record IsSeal (s : Seal) : Type 0 where
  pub source : AreOf s.source s.entries
  pub few : length s.entries + 1 < 2 ^ 32
  pub entries : AllByRecursion IsBasisEntry s.entries
  pub strong : IsStrongBasis s.source (vectors_of s.entries)

-- the number of items: the entries, and the seal if there is one
abbrev pub item_count : List BasisEntry → Option Seal → ℕ
item_count es None = length es
item_count es (Some s) = length es + 1
