use Rattle.std.proofs.Common.{map, refl, ◌∷◌, [], List}
use Rattle.std.specs.Arc.{arc_value}
use Rattle.outcomes.specs.declared.tasks.Task.{Task}
use Rattle.basis_entry.specs.Entries.{BasisEntry}
use Rattle.pair_work.specs.Outcomes.{UsedEntry, used_entry}
use Rattle.pair_work.specs.Works.{AreUsed}
use Rattle.pair_work.proofs.Seen.{pair_there, covered_there}
use Rattle.pair_work.specs.declared.outcome.Close.TheVariants.{Covered}
use Rattle.pair_work.proofs.Closes.{counted, works}
use Rattle.pair_work.proofs.Using.{used_for, same_numbers}
use Rattle.pair_work.proofs.working.covered.Goals as goal

pub of-requires : goal.of-requires
of-requires g c =
    let es : List BasisEntry = g.F.Front.entries c.args.list.now in
    let t : Task = c.args.task in
    let used : List UsedEntry = map used_entry c.in_ok-used.used.items in
    let are : AreUsed es (t.i ∷ (t.j ∷ (c.args.by ∷ []))) [] used = c.in_ok-used.ensures in
    let one = are.numbered 0 t.i refl in
    let two = are.numbered 1 t.j refl in
    record {
      rising = are.rising;
      pair = λ fs others. pair_there es t used are.there one two c.requires.pair fs others;
      close = λ fs others. (
        c.requires.covers.0,
        covered_there es t used are.there one two c.requires.pair fs others c.args.by (are.numbered 2 c.args.by refl)
            c.requires.covers.1.1,
      );
    }

pub returns : goal.returns
returns g c =
    let es : List BasisEntry = g.F.Front.entries c.args.list.now in
    let t : Task = c.args.task in
    let used : List UsedEntry = map used_entry c.in_ok-used.used.items in
    let are : AreUsed es (t.i ∷ (t.j ∷ (c.args.by ∷ []))) [] used = c.in_ok-used.ensures in
    works (arc_value c.args.p.now) es t used c.count.result (Covered c.args.by) c.of.result c.of.ensures
    (counted c.count.result (g.F.VecList.vectors c.args.list.now) es c.count.ensures.is (g.met.F.Front.vectors_are c.args.list.now)) are.there c.requires.covers
    (used_for es t (t.i ∷ (t.j ∷ (c.args.by ∷ []))) [] used (Covered c.args.by) are
    (same_numbers (t.i ∷ (t.j ∷ (c.args.by ∷ []))) (t.i ∷ (t.j ∷ (c.args.by ∷ []))) refl))
