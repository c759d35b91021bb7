use Rattle.std.proofs.Common.{arith, sym, ap, ◌∙◌, ◌≡◌, ◌<◌, ◌+◌, ◌++◌, ◌∷◌, [], length, map, take, subst, List}
use Rattle.std.proofs.lemmas.List.{length-map, length-take-le}
use Rattle.std.proofs.lemmas.List.Sums.{sum_by_push}
use Rattle.std.specs.Arc.{arc_value}
use Rattle.task_table.specs.Tables.{Table}
use Rattle.task_table.specs.Rows.{grown}
use Rattle.basis_entry.specs.Entries.{BasisEntry}
use Rattle.pair_book.specs.Settled.{settled_row}
use Rattle.pair_book.specs.Books.{AreNew}
use Rattle.pair_book.specs.LogEntries.{terms_of}
use Rattle.pair_book.proofs.Starting.{map_take_more, one_new}
use Rattle.pair_book.proofs.opening.enter_all.Goals as goal

pub loop-entry-preserved : goal.loop-entry-preserved
loop-entry-preserved c =
    let i = c.loop-entry.entry-index in
    let base = c.args.base.now in
    let inv = c.loop-entry.invariant in
    let e : BasisEntry = arc_value c.entry-item.result in
    let xs : List BasisEntry = map arc_value (take i base) in
    let lt : i < length base = omega arith in
    let g : map arc_value (take (i + 1) base) ≡ xs ++ e ∷ [] = map_take_more arc_value base i c.entry-item.result lt c.entry-item.is in
    let same : arc_value c.in_ok-try_clone.field-0 ≡ e = c.in_ok-try_clone.ensures in
    let t : c.enter.new.tasks ≡ grown c.loop-entry.tasks (settled_row xs e.vector) e.vector = c.enter.ensures.tasks
    ∙ (λ k. grown c.loop-entry.tasks (settled_row (inv.log_is k).entries (same k).vector) (same k).vector) in
    let n : length xs ≡ i = length-map (take i base) arc_value ∙ length-take-le i base (omega (arith, lt)) in
    let s = sum_by_push (λ (z : BasisEntry). length z.vector) xs e in
    let long : length c.terms.result.now ≡ length e.vector = ap length (c.terms.ensures.is
    ∙ (c.vector.ensures.is ∙ ap (λ (z : BasisEntry). z.vector) c.deref.ensures)) in
    let q = ap terms_of g in
    let room : c.loop-entry.tasks.count < c.loop-entry.tasks.room = omega (arith, n, lt, inv.tasks_new.count, inv.room, c.requires.room, c.requires.within) in
    let fresh : AreNew (xs ++ e ∷ []) (grown c.loop-entry.tasks (settled_row xs e.vector) e.vector) = one_new xs e c.loop-entry.tasks inv.tasks_new room in
    record {
      log_is = c.enter.ensures.log ∙ ((λ k. record (inv.log_is k) { entries = (inv.log_is k).entries ++ same k ∷ [] })
          ∙ ap (λ (es : List BasisEntry). record c.args.log.now { entries = es }) (sym g));
      tasks_new = subst (λ (es : List BasisEntry). AreNew es c.enter.new.tasks) (sym g) (subst (λ (ts : Table). AreNew (xs ++ e ∷ []) ts) (sym t) fresh);
      order = ap (λ (z : Table). z.order) t ∙ inv.order;
      room = ap (λ (z : Table). z.room) t ∙ inv.room;
      terms_is = omega (arith, s, long, q, inv.terms_is);
      few = omega (arith, inv.few, c.terms.ensures.vector.most, ap length c.terms.ensures.is);
    }
