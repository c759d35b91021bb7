-- Where the cells of segments stand among all.
use Rattle.std.proofs.Common.{◌≡◌, ℕ, zero, suc, ◌+◌, ◌*◌, ◌/◌, ◌%◌, ◌<◌, List, [], ◌∷◌, ◌++◌, length, Some, refl, sym, ap, ◌∙◌, arith}
use Rattle.std.proofs.Common.{slice_index_or, subst}
use Rattle.std.proofs.lemmas.List.{append-nil, append_assoc, length-append, map-append, length-map}
use Rattle.std.specs.List.{AllByRecursion}
use Rattle.std.specs.Prelude.{slice_get}
use mathlib.Core.List.{IsPrefix}
use Rattle.basis_log.specs.Places.{cells_of, ArePlaced}
use Rattle.basis_log.specs.Sights.{Sighted, cells_in}
use Rattle.basis_log.proofs.Prefixes.{prefix_snoc}

abbrev pub Segments : Type 0
Segments = List (Sighted (List ℕ))

abbrev pub AreFull : Segments → Type 0
AreFull ss = AllByRecursion (λ s. length s.value ≡ 256) ss

pub full_length : (ss : Segments) → AreFull ss → length (cells_of ss) ≡ 256 * length ss
full_length [] h = refl
full_length (s ∷ ss) h = omega (arith, full_length ss h.1, h.0, length-append s.value (cells_of ss))

pub read_first : {X : Type 0} (xs ys : List X) (i : ℕ) → i < length xs → slice_get (xs ++ ys) i ≡ slice_get xs i
read_first [] ys i lt = absurd (omega (arith, lt))
read_first (x ∷ xs) ys zero lt = refl
read_first (x ∷ xs) ys (suc i) lt = read_first xs ys i (omega (arith, lt))

pub read_rest : {X : Type 0} (xs ys : List X) (i j : ℕ) → j ≡ length xs + i → slice_get (xs ++ ys) j ≡ slice_get ys i
read_rest [] ys i j e = ap (slice_get ys) (omega (arith, e))
read_rest (x ∷ xs) ys i zero e = absurd (omega (arith, e))
read_rest (x ∷ xs) ys i (suc j) e = read_rest xs ys i j (omega (arith, e))

-- the cell r of the segment i
read_at : (ss : Segments) (i r at : ℕ) (d : Sighted (List ℕ)) → AreFull ss → i < length ss → r < 256 → at ≡ 256 * i + r
    → slice_get (cells_of ss) at ≡ slice_get (slice_index_or ss i d).value r
read_at [] i r at d full lt small e = absurd (omega (arith, lt))
read_at (s ∷ ss) zero r at d full lt small e =
    read_first s.value (cells_of ss) at (omega (arith, e, small, full.0)) ∙ ap (slice_get s.value) (omega (arith, e))
read_at (s ∷ ss) (suc i) r at d full lt small e =
    read_rest s.value (cells_of ss) (256 * i + r) at (omega (arith, e, full.0))
    ∙ read_at ss i r (256 * i + r) d full.1 (omega (arith, lt)) small refl

-- the segment in which a cell stands is among those seen where the cell is
pub in_segments : (ss : Segments) (at : ℕ) → AreFull ss → at < length (cells_of ss) → at / 256 < length ss
in_segments ss at full lt = omega (arith, full_length ss full, lt)

pub read_cell : (ss : Segments) (at : ℕ) (d : Sighted (List ℕ)) → AreFull ss → at < length (cells_of ss)
    → slice_get (cells_of ss) at ≡ slice_get (slice_index_or ss (at / 256) d).value (at % 256)
read_cell ss at d full lt = read_at ss (at / 256) (at % 256) at d full (in_segments ss at full lt) (omega arith) (omega arith)

pub cells_of-append : (ss ts : Segments) → cells_of (ss ++ ts) ≡ cells_of ss ++ cells_of ts
cells_of-append [] ts = refl
cells_of-append (s ∷ ss) ts = ap (λ l. s.value ++ l) (cells_of-append ss ts) ∙ sym (append_assoc s.value (cells_of ss) (cells_of ts))

-- more segments, more cells
pub more_cells : (ss ts : Segments) → IsPrefix ss ts → IsPrefix (cells_of ss) (cells_of ts)
more_cells ss ts h = (cells_of h.0, sym (cells_of-append ss h.0) ∙ ap cells_of h.1)

full_more : (ss : Segments) (s : Sighted (List ℕ)) → AreFull ss → length s.value ≡ 256 → AreFull (ss ++ s ∷ [])
full_more [] s h e = (e, tt)
full_more (x ∷ ss) s h e = (h.0, full_more ss s h.1 e)

-- one segment more, in the next cell of the directory
pub placed_more : (directory : List ℕ) (ss : Segments) (s : Sighted (List ℕ)) → ArePlaced directory ss
    → slice_get directory (length ss) ≡ Some s.cell → length s.value ≡ 256 → ArePlaced directory (ss ++ s ∷ [])
placed_more directory ss s h at full =
    let n : length (cells_in ss) ≡ length ss = length-map ss (λ s. s.cell) in
    let next = prefix_snoc (cells_in ss) directory s.cell h.cells (ap (slice_get directory) n ∙ at) in
    record {
      cells = subst (λ l. IsPrefix l directory) (sym (map-append (λ s. s.cell) ss (s ∷ []))) next;
      full = full_more ss s h.full full;
    }

pub cells_more : (ss : Segments) (s : Sighted (List ℕ)) → cells_of (ss ++ s ∷ []) ≡ cells_of ss ++ s.value
cells_more ss s = cells_of-append ss (s ∷ []) ∙ ap (λ l. cells_of ss ++ l) (append-nil s.value)
