-- The first file of a name, by its place.
use Rattle.std.proofs.Common.{◌≡◌, ℕ, ◌<◌, length, List, [], ◌∷◌, zero, suc, Some, None, refl, arith, ap, ◌∙◌, Bool}
use Rattle.std.proofs.lemmas.List.Folds.{find_at}
use Rattle.std.proofs.lemmas.Option.{slice_get_past}
use Rattle.std.proofs.lemmas.Bool.Decides.{nat_tests}
use Rattle.std.specs.Prelude.{position, bytes_eq, slice_get, option_map, find}
use Rattle.mb_io.specs.Files.{Named, file_named, first_place}
use Rattle.mb_io.specs.MemShelf.{rest_of, rest_of_file}

-- a position that is there is that of the element found
found_at : {X : Type 0} (p : X → Bool) (xs : List X) (i : ℕ) → position p xs ≡ Some i → find p xs ≡ slice_get xs i
found_at p xs i h = grind (arith, nat_tests, find_at p xs)

within : {X : Type 0} (p : X → Bool) (xs : List X) (i : ℕ) → position p xs ≡ Some i → i < length xs
within p xs i h = grind (arith, nat_tests)

found_nowhere : {X : Type 0} (p : X → Bool) (xs : List X) → position p xs ≡ None → find p xs ≡ None
found_nowhere {X = X} p xs h = grind (arith, nat_tests, find_at p xs, slice_get_past {X = X})

whole : (files : List Named) (i : ℕ) → i < length files → option_map (λ f. f.bytes) (slice_get files i) ≡ Some (rest_of_file (slice_get files i) 0)
whole [] i lt = absurd (omega arith)
whole (f ∷ fs) zero lt = refl
whole (f ∷ fs) (suc i) lt = whole fs i (omega arith)

-- where there is no place, there is no file
pub file_named_absent : (files : List Named) (name : List ℕ) → first_place files name ≡ None → file_named files name ≡ None
unfolding first_place
file_named_absent files name h = ap (option_map (λ f. f.bytes)) (found_nowhere (λ f. bytes_eq f.name name) files h)

-- at the place stands the file
pub file_named_at : (files : List Named) (name : List ℕ) (i : ℕ) → first_place files name ≡ Some i → file_named files name ≡ Some (rest_of files (Some i) 0)
unfolding first_place
file_named_at files name i h =
    let lt : i < length files = within (λ f. bytes_eq f.name name) files i h in
    ap (option_map (λ f. f.bytes)) (found_at (λ f. bytes_eq f.name name) files i h) ∙ whole files i lt
