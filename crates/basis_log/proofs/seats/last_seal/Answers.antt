use Rattle.std.proofs.Common.{rules, arith, ◌≡◌, ◌-◌, ◌+◌, length, Some, ap, sym, ◌∙◌}
use Rattle.std.proofs.lemmas.Option.{slice_get_within}
use Rattle.std.specs.Arc.{arc_value}
use Rattle.std.specs.Prelude.{slice_get}
use Rattle.basis_log.specs.Items.{LogItem, shown}
use Rattle.basis_log.specs.Seats.{shown_in}
use Rattle.basis_log.proofs.Logs.{last_entry, last_is_seal}
use Rattle.basis_log.proofs.Sitting.{shown_length, shown_at}
use Rattle.basis_log.proofs.seats.last_seal.Goals as goal

pub returns-in-Entry : goal.returns-in-Entry
returns-in-Entry c =
    let ss = c.args.seen.now in
    let last = length ss - 1 in
    let at : slice_get ss last ≡ Some c.in_ok-last.field-0.now = sym c.in_ok-last.ensures.value in
    let is : shown c.in_ok-last.field-0.now.value ≡ LogItem.an_entry (arc_value c.in-Entry.field-0) = ap shown (sym c.value.ensures ∙ c.in-Entry.is) in
    let read = shown_at ss last c.in_ok-last.field-0.now at ∙ ap Some is in
    let n : length (shown_in ss) ≡ last + 1 = omega (arith, shown_length ss, slice_get_within ss last _ at) in
    last_entry c.requires.source (shown_in ss) last (arc_value c.in-Entry.field-0) c.requires.items n read

pub returns-in-Seal : goal.returns-in-Seal
returns-in-Seal c =
    let ss = c.args.seen.now in
    let last = length ss - 1 in
    let at : slice_get ss last ≡ Some c.in_ok-last.field-0.now = sym c.in_ok-last.ensures.value in
    let is : shown c.in_ok-last.field-0.now.value ≡ LogItem.a_seal (arc_value c.in-Seal.seal) = ap shown (sym c.value.ensures ∙ c.in-Seal.is) in
    let read = shown_at ss last c.in_ok-last.field-0.now at ∙ ap Some is in
    last_is_seal c.requires.source (shown_in ss) last (arc_value c.in-Seal.seal) c.requires.items read ∙ ap Some (search rules)
