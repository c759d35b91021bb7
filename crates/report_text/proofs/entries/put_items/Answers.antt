use Rattle.std.proofs.Common.{refl, rules, arith, ◌≡◌, ◌<◌, ◌+◌, length, slice_get, Some}
use Rattle.std.proofs.lemmas.Result.{err_from_is_err_and}
use Rattle.report_lines.specs.Texts.{lines_text}
use Rattle.basis_entry.specs.Entries.{vectors_of}
use Rattle.report_text.specs.Histories.{live_at, told_from, item_lines, seal_lines}
use Rattle.report_text.proofs.Orders.{told_after}
use Rattle.report_text.proofs.Telling.{entries_count, entry_stops, entry_goes_on, seal_is_left}
use Rattle.report_text.proofs.Written.{goes_more, goes_stops, goes_puts}
use Rattle.report_text.proofs.entries.put_items.Goals as goal

pub returns-in_err-put_entry-clause-text : goal.returns-in_err-put_entry-clause-text
returns-in_err-put_entry-clause-text g c = λ ts are.
    let p = err_from_is_err_and c.from_residual.result c.from_residual.ensures.1 in
    let read : slice_get c.args.log.now.entries c.loop-number.number ≡ Some c.deref.result.now = search rules in
    let n : length (vectors_of c.args.log.now.entries) ≡ length c.args.log.now.entries =
    entries_count (vectors_of c.args.log.now.entries) c.args.log.now.entries
    refl in
    let lt : c.loop-number.number < length c.args.log.now.entries = search rules in
    rw p.1 (entry_stops c.args.log.now.pres c.args.log.now.entries c.args.log.now.seal ts c.loop-number.number
    c.deref.result.now read lt (g.K.Sink.taken c.args.out.now) (g.K.Sink.taken c.loop-number.out) (g.K.Sink.taken c.put_entry.new.out)
    (c.loop-number.invariant.text ts are) (rw c.pres.ensures.is at c.in_err-put_entry.ensures.text))

pub returns-in_err-put_live_at-clause-text : goal.returns-in_err-put_live_at-clause-text
returns-in_err-put_live_at-clause-text g c = λ ts are.
    let p = err_from_is_err_and c.from_residual-in_err-put_live_at.result c.from_residual-in_err-put_live_at.ensures.1 in
    let read : slice_get c.args.log.now.entries c.loop-number.number ≡ Some c.deref.result.now = search rules in
    let n : length (vectors_of c.args.log.now.entries) ≡ length c.args.log.now.entries =
    entries_count (vectors_of c.args.log.now.entries) c.args.log.now.entries
    refl in
    let lt : c.loop-number.number < length c.args.log.now.entries = search rules in
    rw p.1 (goes_stops (g.K.Sink.taken c.args.out.now) (g.K.Sink.taken c.put_entry.new.out) (g.K.Sink.taken c.put_live_at.new.out)
    (lines_text c.args.log.now.pres (told_from ts 0 (item_lines c.args.log.now.entries c.args.log.now.seal)))
    (lines_text c.args.log.now.pres (live_at (c.loop-number.number + 1) ts)) (lines_text c.args.log.now.pres
    (told_after ts c.args.log.now.entries c.args.log.now.seal (c.loop-number.number + 1)))
    (entry_goes_on c.args.log.now.pres c.args.log.now.entries c.args.log.now.seal ts c.loop-number.number
    c.deref.result.now read lt (g.K.Sink.taken c.args.out.now) (g.K.Sink.taken c.loop-number.out) (g.K.Sink.taken c.put_entry.new.out)
    (c.loop-number.invariant.text ts are) (rw c.pres.ensures.is at c.in_ok-put_entry.ensures.text))
    (c.in_err-put_live_at.ensures.text ts are))

pub loop-number-preserved : goal.loop-number-preserved
loop-number-preserved g c =
    let read : slice_get c.args.log.now.entries c.loop-number.number ≡ Some c.deref.result.now = search rules in
    let n : length (vectors_of c.args.log.now.entries) ≡ length c.args.log.now.entries =
    entries_count (vectors_of c.args.log.now.entries) c.args.log.now.entries
    refl in
    let lt : c.loop-number.number < length c.args.log.now.entries = search rules in
    record {
      text = λ ts are. goes_more (g.K.Sink.taken c.args.out.now) (g.K.Sink.taken c.put_entry.new.out) (g.K.Sink.taken c.put_live_at.new.out)
          (lines_text c.args.log.now.pres (told_from ts 0 (item_lines c.args.log.now.entries c.args.log.now.seal)))
          (lines_text c.args.log.now.pres (live_at (c.loop-number.number + 1) ts)) (lines_text c.args.log.now.pres
          (told_after ts c.args.log.now.entries c.args.log.now.seal (c.loop-number.number + 1)))
          (entry_goes_on c.args.log.now.pres c.args.log.now.entries c.args.log.now.seal ts c.loop-number.number
          c.deref.result.now read lt (g.K.Sink.taken c.args.out.now) (g.K.Sink.taken c.loop-number.out) (g.K.Sink.taken c.put_entry.new.out)
          (c.loop-number.invariant.text ts are) (rw c.pres.ensures.is at c.in_ok-put_entry.ensures.text))
          (c.in_ok-put_live_at.ensures.text ts are);
      later = omega (arith, c.loop-number.invariant.later, c.in_ok-put_entry.ensures.counts, c.in_ok-put_live_at.ensures.counts);
    }

pub returns-clause-text : goal.returns-clause-text
returns-clause-text g c = λ ts are.
    let n : length (vectors_of c.args.log.now.entries) ≡ length c.args.log.now.entries =
    entries_count (vectors_of c.args.log.now.entries) c.args.log.now.entries
    refl in
    let count : length c.args.log.now.entries ≡ c.loop-number.number = search rules in
    goes_puts (g.K.Sink.taken c.args.out.now) (g.K.Sink.taken c.loop-number.out) (g.K.Sink.taken c.put_seal.new.out)
    (lines_text c.args.log.now.pres (told_from ts 0 (item_lines c.args.log.now.entries c.args.log.now.seal)))
    (lines_text c.args.log.now.pres (told_from ts (length c.args.log.now.entries) (seal_lines c.args.log.now.seal)))
    c.put_seal.result
    (seal_is_left c.args.log.now.pres c.args.log.now.entries c.args.log.now.seal ts c.loop-number.number
    (g.K.Sink.taken c.args.out.now) (g.K.Sink.taken c.loop-number.out) count (c.loop-number.invariant.text ts are)) (c.put_seal.ensures.text ts are)
