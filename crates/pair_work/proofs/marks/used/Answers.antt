use Rattle.std.proofs.Common.{map}
use Rattle.std.proofs.lemmas.Result.{IfOk-weaker}
use Rattle.pair_work.specs.Outcomes.{used_entry}
use Rattle.std.proofs.Common.{subst, List, Bool}
use Rattle.pair_work.specs.Works.{AreMarked}
use Rattle.pair_work.proofs.Using.{used_by_marks}
use Rattle.pair_work.proofs.marks.used.Goals as goal

pub returns : goal.returns
returns g c =
    IfOk-weaker c.marked.result _ _
    (λ made h. used_by_marks (g.F.Front.entries c.args.list.now) c.args.numbers.now c.args.steps.now c.in_ok-marks.marks.items c.mark_numbers.new.marks.items
    c.mark_steps.new.marks.items (map used_entry made.items)
    c.in_ok-marks.ensures.none c.mark_numbers.ensures.set c.mark_numbers.ensures.only c.mark_steps.ensures.set c.mark_steps.ensures.kept
    c.mark_steps.ensures.only
    (subst (λ (ms : List Bool). AreMarked (g.F.Front.entries c.args.list.now) ms (map used_entry made.items)) c.deref.ensures.value h)) c.marked.ensures
