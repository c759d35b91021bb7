use Rattle.std.proofs.Common.{rules, arith, ◌≡◌, ◌<◌, length, Some, ap, sym, ◌∙◌, refl}
use Rattle.std.proofs.lemmas.Option.{slice_get_read}
use Rattle.std.specs.Arc.{arc_value}
use Rattle.basis_log.specs.Items.{LogItem, shown}
use Rattle.basis_log.specs.Seats.{shown_in}
use Rattle.basis_log.proofs.Logs.{few_entries, read_entry, read_seal}
use Rattle.basis_log.proofs.Sitting.{shown_length, shown_at}
use Rattle.basis_log.proofs.seats.entry_in.Goals as goal

pub bounds-seen-at : goal.bounds-seen-at
bounds-seen-at c = omega (arith, c.requires.at, few_entries (shown_in c.args.seen.now), shown_length c.args.seen.now)

pub offset_bounds-seen-at : goal.offset_bounds-seen-at
offset_bounds-seen-at c =
    let below : c.args.at < length c.args.seen.now = omega (arith, c.requires.at, few_entries (shown_in c.args.seen.now), shown_length c.args.seen.now) in
    search rules

pub unreachable-requires : goal.unreachable-requires
unreachable-requires c =
    let below : c.args.at < length c.args.seen.now = omega (arith, c.requires.at, few_entries (shown_in c.args.seen.now), shown_length c.args.seen.now) in
    let read = shown_at c.args.seen.now c.args.at c.index-seen-at.result (slice_get_read c.args.seen.now _ c.args.at c.index-seen-at.result refl below
    c.index-seen-at.is) in
    let is : shown c.index-seen-at.result.value ≡ LogItem.a_seal (arc_value c.in-Seal.field-0) = ap shown (sym c.value.ensures ∙ c.in-Seal.is) in
    let past = read_seal c.requires.items.source (shown_in c.args.seen.now) c.args.at (arc_value c.in-Seal.field-0) c.requires.items.items (read
    ∙ ap Some is) in
    omega (arith, past, c.requires.at)

pub returns : goal.returns
returns c =
    let below : c.args.at < length c.args.seen.now = omega (arith, c.requires.at, few_entries (shown_in c.args.seen.now), shown_length c.args.seen.now) in
    let read = shown_at c.args.seen.now c.args.at c.index-seen-at.result (slice_get_read c.args.seen.now _ c.args.at c.index-seen-at.result refl below
    c.index-seen-at.is) in
    let is : shown c.index-seen-at.result.value ≡ LogItem.an_entry (arc_value c.in-Entry.entry) = ap shown (sym c.value.ensures ∙ c.in-Entry.is) in
    read_entry c.requires.items.source (shown_in c.args.seen.now) c.args.at (arc_value c.in-Entry.entry) c.requires.items.items (read ∙ ap Some is)
