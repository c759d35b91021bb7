-- Reading two lists beside each other.
use Rattle.std.proofs.Common.{◌≡◌, ℕ, ◌+◌, ◌<◌, List, length, map, take, get_or, Some, refl, sym, ap, ◌∙◌}
use Rattle.std.proofs.lemmas.List.{take_more_same, length-map}
use Rattle.std.proofs.lemmas.Option.{slice_get-map, slice_get_read, get_or_from_slice_get}
use Rattle.std.specs.Option.{option_map}
use Rattle.std.specs.Prelude.{slice_get}

module _ {X Y : Type 0} (f : X → Y) where
  pub read_map : (xs : List X) (i : ℕ) (x : X) → i < length xs → x ≡ get_or xs i x → slice_get (map f xs) i ≡ Some (f x)
  read_map xs i x lt is = slice_get-map f xs i ∙ ap (option_map f) (slice_get_read xs (length xs) i x refl lt is)

  pub same_next : (xs ys : List X) (i : ℕ) (x y : X) → i < length xs → i < length ys → x ≡ get_or xs i x → y ≡ get_or ys i y → f x ≡ f y
      → take i (map f xs) ≡ take i (map f ys) → take (i + 1) (map f xs) ≡ take (i + 1) (map f ys)
  same_next xs ys i x y lt lt' is is' same old =
      let a = get_or_from_slice_get (map f xs) i (f x) (f x) (read_map xs i x lt is) in
      let b = get_or_from_slice_get (map f ys) i (f y) (f x) (read_map ys i y lt' is') in
      take_more_same (map f xs) (map f ys) i (f x) (rw (length-map xs f) lt) (rw (length-map ys f) lt') old (a ∙ same ∙ sym b)

  pub same_here : (xs ys : List X) (i : ℕ) (x y : X) → i < length xs → i < length ys → x ≡ get_or xs i x → y ≡ get_or ys i y
      → map f xs ≡ map f ys → f x ≡ f y
  same_here xs ys i x y lt lt' is is' same =
      let a = read_map xs i x lt is in
      let b = read_map ys i y lt' is' in
      let e = sym a ∙ ap (λ l. slice_get l i) same ∙ b in
      cc
