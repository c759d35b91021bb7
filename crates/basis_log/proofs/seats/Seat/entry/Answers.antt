use Rattle.std.proofs.Common.{rules, arith, ◌≡◌, ◌<◌, ◌≤◌, ◌-◌, ◌+◌, List, ◌++◌, length, Some, ap, sym, subst, refl, ◌∙◌}
use Rattle.std.proofs.lemmas.List.{length-map, length-append}
use Rattle.std.proofs.lemmas.Option.{slice_get-map, slice_get_within, slice_get_read}
use Rattle.std.specs.Arc.{arc_value}
use Rattle.std.specs.Option.{option_map}
use Rattle.std.specs.Prelude.{slice_get}
use Rattle.basis_entry.specs.Entries.{BasisEntry}
use Rattle.basis_log.specs.Items.{entries_of, AreSomeItems}
use Rattle.basis_log.specs.Rows.{row_source}
use Rattle.basis_log.specs.Seats.{shown_in}
use Rattle.basis_log.proofs.Logs.{entries_after}
use Rattle.basis_log.proofs.Standing.{read_first, read_rest}
use Rattle.basis_log.proofs.seats.Seat.entry.Goals as goal

pub entry_in-requires-clause-items : goal.entry_in-requires-clause-items
entry_in-requires-clause-items c =
    let items : AreSomeItems (shown_in c.self.inside.seen.items) = record { source = row_source c.self.inside.places.row; items = c.self.invariant.0.items } in
    subst (λ ss. AreSomeItems (shown_in ss)) (sym c.as_slice.ensures.value) items

pub entry_in-requires-clause-at : goal.entry_in-requires-clause-at
entry_in-requires-clause-at c =
    let base = c.self.inside.places.row.base in
    let xs = shown_in c.self.inside.seen.items in
    let whole : entries_of c.args.self.now.items ≡ base ++ entries_of xs = sym (ap (λ s. entries_of s.items) c.self.view_is) ∙ entries_after base xs in
    let rows = c.base-base.ensures.is ∙ ap (λ r. r.base) c.row.ensures ∙ sym (ap (λ s. s.row.base) c.self.view_is) in
    let n : length c.base-base.result.now ≡ length base = sym (length-map c.base-base.result.now arc_value) ∙ ap length rows in
    let past : length c.base-base.result.now ≤ c.args.at = search rules in
    let all : length (entries_of c.args.self.now.items) ≡ length base + length (entries_of xs) = ap length whole ∙ length-append base (entries_of xs) in
    let lt : c.args.at - length c.base-base.result.now < length (entries_of xs) = omega (arith, c.requires, n, past, all) in
    subst (λ ss. c.args.at - length c.base-base.result.now < length (entries_of (shown_in ss))) (sym c.as_slice.ensures.value) lt

pub returns-in-Some : goal.returns-in-Some
returns-in-Some c =
    let base = c.self.inside.places.row.base in
    let xs = shown_in c.self.inside.seen.items in
    let whole : entries_of c.args.self.now.items ≡ base ++ entries_of xs = sym (ap (λ s. entries_of s.items) c.self.view_is) ∙ entries_after base xs in
    let rows = c.base-base.ensures.is ∙ ap (λ r. r.base) c.row.ensures ∙ sym (ap (λ s. s.row.base) c.self.view_is) in
    let read : slice_get c.base-base.result.now c.args.at ≡ Some c.in-Some.entry.now =
    slice_get_read c.base-base.result.now _ c.args.at c.in-Some.entry.now refl c.in-Some.ensures.lookup.3.0 c.in-Some.ensures.lookup.1 in
    let here : slice_get base c.args.at ≡ Some (arc_value c.in-Some.entry.now) =
    sym (ap (λ (es : List BasisEntry). slice_get es c.args.at) rows)
    ∙ (slice_get-map arc_value c.base-base.result.now c.args.at ∙ ap (option_map arc_value) read) in
    ap (λ (es : List BasisEntry). slice_get es c.args.at) whole ∙ (read_first base (entries_of xs) c.args.at (slice_get_within base c.args.at _ here) ∙ here)

pub returns-in-None : goal.returns-in-None
returns-in-None c =
    let base = c.self.inside.places.row.base in
    let xs = shown_in c.self.inside.seen.items in
    let whole : entries_of c.args.self.now.items ≡ base ++ entries_of xs = sym (ap (λ s. entries_of s.items) c.self.view_is) ∙ entries_after base xs in
    let rows = c.base-base.ensures.is ∙ ap (λ r. r.base) c.row.ensures ∙ sym (ap (λ s. s.row.base) c.self.view_is) in
    let n : length c.base-base.result.now ≡ length base = sym (length-map c.base-base.result.now arc_value) ∙ ap length rows in
    let past : length c.base-base.result.now ≤ c.args.at = search rules in
    let there = read_rest base (entries_of xs) (c.args.at - length c.base-base.result.now) c.args.at (omega (arith, n, past)) in
    let here : slice_get (entries_of xs) (c.args.at - length c.base-base.result.now) ≡ Some (arc_value c.entry_in.result.now) =
    subst (λ ss. slice_get (entries_of (shown_in ss)) (c.args.at - length c.base-base.result.now)
    ≡ Some (arc_value c.entry_in.result.now)) c.as_slice.ensures.value c.entry_in.ensures in
    ap (λ (es : List BasisEntry). slice_get es c.args.at) whole ∙ (there ∙ here)
