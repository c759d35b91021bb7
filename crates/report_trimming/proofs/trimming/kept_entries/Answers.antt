use Rattle.std.proofs.Common.{◌≡◌, ◌∷◌, [], ◌++◌, List, length, slice_get, arith, length-append, append_assoc, sym, ap, ◌∙◌}
use Rattle.std.specs.Vec.Iter.{into_iter_items}
use Rattle.report_reading.specs.declared.entry.EntryData.{EntryData}
use Rattle.report_trimming.proofs.Marking.{within}
use Rattle.report_trimming.proofs.Pairing.{behind_front}
use Rattle.report_trimming.proofs.trimming.kept_entries.Goals as goal

pub put_kept-requires-clause-within : goal.put_kept-requires-clause-within
put_kept-requires-clause-within c =
    let at = c.loop-entry in
    let steps : into_iter_items at.entry-iterator ≡ c.in-Some.entry ∷ into_iter_items c.next.new.self = c.in-Some.ensures.steps.0 in
    let split = ap (λ (r : List EntryData). at.yielded ++ r) (sym steps) ∙ at.invariant.split in
    let read = behind_front at.yielded c.in-Some.entry (into_iter_items c.next.new.self) c.args.entries.items split in
    let lt = within c.args.entries.items (length at.yielded) c.in-Some.entry read in
    omega (arith, lt, at.invariant.number, c.requires.length)

pub put_kept-requires-clause-closed : goal.put_kept-requires-clause-closed
put_kept-requires-clause-closed c = λ m k n.
    let at = c.loop-entry in
    let steps : into_iter_items at.entry-iterator ≡ c.in-Some.entry ∷ into_iter_items c.next.new.self = c.in-Some.ensures.steps.0 in
    let split = ap (λ (r : List EntryData). at.yielded ++ r) (sym steps) ∙ at.invariant.split in
    let read = behind_front at.yielded c.in-Some.entry (into_iter_items c.next.new.self) c.args.entries.items split in
    c.requires.closed at.at k c.in-Some.entry m (ap (slice_get c.args.entries.items) at.invariant.number ∙ read) n

pub loop-entry-preserved : goal.loop-entry-preserved
loop-entry-preserved c =
    let at = c.loop-entry in
    let steps : into_iter_items at.entry-iterator ≡ c.in-Some.entry ∷ into_iter_items c.next.new.self = c.in-Some.ensures.steps.0 in
    let one = c.in-Some.ensures.steps.1 in
    let split = ap (λ (r : List EntryData). at.yielded ++ r) (sym steps) ∙ at.invariant.split in
    let read = behind_front at.yielded c.in-Some.entry (into_iter_items c.next.new.self) c.args.entries.items split in
    record {
      split = append_assoc at.yielded (c.in-Some.entry ∷ []) (into_iter_items c.next.new.self) ∙ split;
      left = omega (arith, ap length steps, one, at.invariant.left);
      number = omega (arith, at.invariant.number, length-append at.yielded (c.in-Some.entry ∷ []));
      kept = c.in_ok-put_kept.ensures c.args.entries.items (ap (slice_get c.args.entries.items) at.invariant.number ∙ read) at.invariant.kept;
    }
