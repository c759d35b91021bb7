-- Named bytes in memory.
use Rattle.std.specs.Prelude.{ℕ, List, Option, find, position, option_map, bytes_eq}

-- a name and the bytes under it
pub record Named : Type 0 where
  pub name : List ℕ
  pub bytes : List ℕ

-- the bytes of the first file of this name
abbrev pub file_named : List Named → List ℕ → Option (List ℕ)
file_named files name = option_map (λ f. f.bytes) (find (λ f. bytes_eq f.name name) files)

-- the place of that file
unfoldable pub first_place : List Named → List ℕ → Option ℕ
first_place files name = position (λ f. bytes_eq f.name name) files
