-- What holds of seats, as their fields change.
use Rattle.std.proofs.Common.{◌≡◌, ℕ, ◌+◌, ◌<◌, ◌≤◌, ◌⊎◌, inl, inr, Bool, true, false, not, MatchBool, Option, None, MatchOption, List, [], ◌∷◌, ◌++◌}
use Rattle.std.proofs.Common.{length, map, Some, sym, ap, ◌∙◌, arith, subst}
use Rattle.std.proofs.lemmas.List.{length-append, length-map, map-append, append_assoc}
use Rattle.std.proofs.lemmas.Option.{slice_get-map}
use Rattle.std.specs.Option.{option_map}
use Rattle.std.specs.Prelude.{slice_get, is_some}
use mathlib.Core.List.{IsPrefix}
use Rattle.basis_entry.specs.Entries.{BasisEntry}
use Rattle.basis_log.specs.declared.items.Item.{Item}
use Rattle.basis_log.specs.Items.{LogItem, shown, AreItems}
use Rattle.basis_log.specs.Places.{Placed, cells_of}
use Rattle.basis_log.specs.Rows.{Rowed, IsRow, row_source}
use Rattle.basis_log.specs.Seats.{IsSeat, items_of, shown_in}
use Rattle.basis_log.specs.Sights.{Sighted, cells_in, values_in, Agree}
use Rattle.basis_log.proofs.Prefixes.{prefix_trans, prefixes_agree, prefix_snoc, prefix_map, prefix_before, agree_map, agree_before}
use Rattle.basis_log.proofs.Standing.{more_cells}

-- cells that were seen by two seats of one row
pub cells_agree : (xs ys : List ℕ) (ss ts : List (Sighted (List ℕ))) → IsPrefix xs (cells_of ss) → IsPrefix ys (cells_of ts) → Agree ss ts → Agree xs ys
cells_agree xs ys ss ts a b (inl h) = prefixes_agree xs ys (cells_of ts) (prefix_trans xs (cells_of ss) (cells_of ts) a (more_cells ss ts h)) b
cells_agree xs ys ss ts a b (inr h) = prefixes_agree xs ys (cells_of ss) a (prefix_trans ys (cells_of ts) (cells_of ss) b (more_cells ts ss h))

-- the fields after the segments grew
pub seat_same : (places new : Placed) (ss : List (Sighted Item)) → IsSeat places ss → new.row ≡ places.row
    → IsPrefix (cells_of places.segments) (cells_of new.segments) → IsSeat new ss
seat_same places new ss h row grows = record {
  row = subst IsRow (sym row) h.row;
  cells = prefix_trans (cells_in ss) (cells_of places.segments) (cells_of new.segments) h.cells grows;
  few = subst (λ (r : Rowed). length ss ≤ r.cells) (sym row) h.few;
  items = subst (λ (r : Rowed). AreItems (row_source r) (shown_in ss)) (sym row) h.items;
}

-- and after one more was seen in the next cell
pub seat_more : (places new : Placed) (ss : List (Sighted Item)) (s : Sighted Item) → IsSeat places ss → new.row ≡ places.row
    → IsPrefix (cells_of places.segments) (cells_of new.segments) → slice_get (cells_of new.segments) (length ss) ≡ Some s.cell
    → length ss < places.row.cells → AreItems (row_source new.row) (shown_in (ss ++ s ∷ [])) → IsSeat new (ss ++ s ∷ [])
seat_more places new ss s h row grows at lt items =
    let old = seat_same places new ss h row grows in
    let n : length (cells_in ss) ≡ length ss = length-map ss (λ t. t.cell) in
    let next = prefix_snoc (cells_in ss) (cells_of new.segments) s.cell old.cells (ap (slice_get (cells_of new.segments)) n ∙ at) in
    let below : length ss < new.row.cells = subst (λ (r : Rowed). length ss < r.cells) (sym row) lt in
    record {
      row = old.row;
      cells = subst (λ l. IsPrefix l (cells_of new.segments)) (sym (map-append (λ t. t.cell) ss (s ∷ []))) next;
      few = omega (arith, below, length-append ss (s ∷ []));
      items = items;
    }

-- and after another seat of the row told what it saw
pub seat_learnt : (places others new : Placed) (ss ts zs : List (Sighted Item)) → IsSeat places ss → IsSeat others ts → others.row ≡ places.row
    → new.row ≡ places.row → IsPrefix places.segments new.segments → IsPrefix others.segments new.segments → (zs ≡ ss) ⊎ (zs ≡ ts) → IsSeat new zs
seat_learnt places others new ss ts zs a b rows row grows told (inl e) =
    subst (IsSeat new) (sym e) (seat_same places new ss a row (more_cells places.segments new.segments grows))
seat_learnt places others new ss ts zs a b rows row grows told (inr e) =
    subst (IsSeat new) (sym e) (seat_same others new ts b (row ∙ sym rows) (more_cells others.segments new.segments told))

-- more was seen, and the list is longer
pub items_grow : (base : List BasisEntry) (ss ts : List (Sighted Item)) → IsPrefix ss ts → IsPrefix (items_of base (shown_in ss)) (items_of base (shown_in ts))
items_grow base ss ts h =
    prefix_before (map LogItem.an_entry base) (shown_in ss) (shown_in ts)
    (prefix_map shown (values_in ss) (values_in ts) (prefix_map (λ t. t.value) ss ts h))

pub items_agree : (base : List BasisEntry) (ss ts : List (Sighted Item)) → Agree ss ts → Agree (items_of base (shown_in ss)) (items_of base (shown_in ts))
items_agree base ss ts h =
    agree_before (map LogItem.an_entry base) (shown_in ss) (shown_in ts)
    (agree_map shown (values_in ss) (values_in ts) (agree_map (λ t. t.value) ss ts h))

-- one more was seen
pub shown_more : (ss : List (Sighted Item)) (s : Sighted Item) → shown_in (ss ++ s ∷ []) ≡ shown_in ss ++ shown s.value ∷ []
shown_more ss s = ap (map shown) (map-append (λ t. t.value) ss (s ∷ [])) ∙ map-append shown (values_in ss) (s.value ∷ [])

pub items_one_more : (base : List BasisEntry) (ss : List (Sighted Item)) (s : Sighted Item)
    → items_of base (shown_in (ss ++ s ∷ [])) ≡ items_of base (shown_in ss) ++ shown s.value ∷ []
items_one_more base ss s =
    ap (items_of base) (shown_more ss s) ∙ sym (append_assoc (map LogItem.an_entry base) (shown_in ss) (shown s.value ∷ []))

-- how many items
pub items_length : (base : List BasisEntry) (ss : List (Sighted Item)) → length (items_of base (shown_in ss)) ≡ length base + length ss
items_length base ss =
    let a = length-append (map LogItem.an_entry base) (shown_in ss) in
    let b = length-map base LogItem.an_entry in
    let c = length-map (values_in ss) shown in
    let d = length-map ss (λ t. t.value) in
    omega (arith, a, b, c, d)

pub shown_length : (ss : List (Sighted Item)) → length (shown_in ss) ≡ length ss
shown_length ss = length-map (values_in ss) shown ∙ length-map ss (λ t. t.value)

-- what is read of the list of what was seen
pub shown_at : (ss : List (Sighted Item)) (i : ℕ) (s : Sighted Item) → slice_get ss i ≡ Some s → slice_get (shown_in ss) i ≡ Some (shown s.value)
shown_at ss i s at =
    slice_get-map shown (values_in ss) i
    ∙ ap (option_map shown) (slice_get-map (λ (t : Sighted Item). t.value) ss i ∙ ap (option_map (λ (t : Sighted Item). t.value)) at)

-- ---- what an answer tells
pub as_none : {R A : Type 0} (B : R → Type 0) (r : Option R) → is_some r ≡ false → MatchOption r A B → A
as_none B None e h = h
as_none B (Some x) e h = absurd cc

-- what was seen in the next cell went into the list, or it didn't
module _ {R : Type 0} where
  pub seat_admitted : (places new : Placed) (ss zs : List (Sighted Item)) (s : Sighted Item) (r : Option R) → IsSeat places ss → new.row ≡ places.row
      → IsPrefix (cells_of places.segments) (cells_of new.segments) → slice_get (cells_of new.segments) (length ss) ≡ Some s.cell
      → length ss < places.row.cells → AreItems (row_source new.row) (shown_in zs)
      → MatchOption r (zs ≡ ss ++ s ∷ []) (λ _. zs ≡ ss) → IsSeat new zs
  seat_admitted places new ss zs s None h row grows at lt items is =
      let here : AreItems (row_source new.row) (shown_in (ss ++ s ∷ [])) = subst (λ l. AreItems (row_source new.row) (shown_in l)) is items in
      subst (IsSeat new) (sym is) (seat_more places new ss s h row grows at lt here)
  seat_admitted places new ss zs s (Some x) h row grows at lt items is = subst (IsSeat new) (sym is) (seat_same places new ss h row grows)

  pub items_admitted : (base base' : List BasisEntry) (old : List LogItem) (ss zs : List (Sighted Item)) (s : Sighted Item) (r : Option R) (b : Bool)
      → base' ≡ base → items_of base (shown_in ss) ≡ old → is_some r ≡ not b
      → MatchOption r (zs ≡ ss ++ s ∷ []) (λ _. zs ≡ ss)
      → MatchBool b ((x : LogItem) × (items_of base' (shown_in zs) ≡ old ++ x ∷ [])) (items_of base' (shown_in zs) ≡ old)
  items_admitted base base' old ss zs s None true rows seen e is = (shown s.value, rw (rows, is, ← seen) (items_one_more base ss s))
  items_admitted base base' old ss zs s None false rows seen e is = absurd cc
  items_admitted base base' old ss zs s (Some x) true rows seen e is = absurd cc
  items_admitted base base' old ss zs s (Some x) false rows seen e is = rw (rows, is) seen
