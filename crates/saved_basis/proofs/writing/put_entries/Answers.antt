use Rattle.std.proofs.Common.{rules, arith, ◌≡◌, ◌<◌, length, slice_get, Some}
use Rattle.std.proofs.lemmas.List.{length-map}
use Rattle.std.proofs.lemmas.Result.{err_from_is_err_and}
use Rattle.basis_entry.specs.Entries.{BasisEntry}
use Rattle.saved_basis.proofs.Written.{entry_goes, entry_stops}
use Rattle.saved_basis.proofs.writing.put_entries.Goals as goal

pub returns-in_err-put_entry-clause-text : goal.returns-in_err-put_entry-clause-text
returns-in_err-put_entry-clause-text g c =
    let p = err_from_is_err_and c.from_residual.result c.from_residual.ensures.1 in
    let at : slice_get c.args.items.now.entries c.loop-number.number ≡ Some c.deref.result.now = search rules in
    let n = length-map c.args.items.now.entries (λ (e : BasisEntry). e.vector) in
    let lt : c.loop-number.number < length c.args.items.now.entries = omega (arith, n, c.loop-number-test.true, c.count-number-end.ensures.is) in
    rw p.1 (entry_stops c.args.p.now c.args.items.now.entries c.loop-number.number c.deref.result.now lt at (g.K.Sink.taken c.args.out.now)
    (g.K.Sink.taken c.loop-number.out) (g.K.Sink.taken c.put_entry.new.out) c.loop-number.invariant.text c.in_err-put_entry.ensures.text)

pub loop-number-preserved : goal.loop-number-preserved
loop-number-preserved g c =
    let at : slice_get c.args.items.now.entries c.loop-number.number ≡ Some c.deref.result.now = search rules in
    let n = length-map c.args.items.now.entries (λ (e : BasisEntry). e.vector) in
    let lt : c.loop-number.number < length c.args.items.now.entries = omega (arith, n, c.loop-number-test.true, c.count-number-end.ensures.is) in
    record {
      text = entry_goes c.args.p.now c.args.items.now.entries c.loop-number.number c.deref.result.now lt at (g.K.Sink.taken c.args.out.now)
          (g.K.Sink.taken c.loop-number.out) (g.K.Sink.taken c.put_entry.new.out) c.loop-number.invariant.text c.in_ok-put_entry.ensures.text;
      later = omega (arith, c.loop-number.invariant.later, c.in_ok-put_entry.ensures.counts);
    }
