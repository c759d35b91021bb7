use Rattle.std.proofs.Common.{◌≡◌, ◌≢◌, List, [], ◌∷◌, map, refl, sym, subst, ap, ◌∙◌}
use Rattle.std.specs.Arc.{arc_value}
use Rattle.module_vec.specs.declared.steps.Step.{Step}
use Rattle.outcomes.specs.declared.kinds.PairKind.TheVariants.{S}
use Rattle.outcomes.specs.declared.tasks.Task.{Task}
use Rattle.basis_entry.specs.Entries.{BasisEntry, vectors_of}
use Rattle.pair_work.specs.declared.outcome.Close.TheVariants.{Zero, Rest}
use Rattle.pair_work.specs.Outcomes.{UsedEntry, used_entry, Zeroes}
use Rattle.pair_work.specs.Works.{AreUsed, numbers_of}
use Rattle.pair_work.proofs.Closes.{empty_of, some_of, counted, outcome, works, reduces}
use Rattle.pair_work.proofs.Seen.{zero_there, rest_there}
use Rattle.pair_work.proofs.Using.{used_for, rest_numbers, same_numbers, named_twice}
use Rattle.pair_work.proofs.working.close.Goals as goal

pub of-requires : goal.of-requires
of-requires g c =
    let es : List BasisEntry = g.F.Front.entries c.args.list.now in
    let t : Task = c.args.task in
    let d = c.args.done in
    let used : List UsedEntry = map used_entry c.in_ok-used.used.items in
    let are : AreUsed es (t.i ∷ (t.j ∷ [])) d.steps.items used = subst (λ (ss : List Step). AreUsed es (t.i ∷ (t.j ∷ [])) ss used) c.deref.ensures.value
    c.in_ok-used.ensures in
    let none : d.rest ≡ [] = empty_of c.terms.result.now d.rest c.terms.ensures.is c.if-is_empty.ensures in
    outcome es t d.steps.items used c.count.result (Zero c.of-steps.result) are c.requires.pair
    (λ fs others. subst (λ (ss : List Step). (t.kind ≡ S) × Zeroes (vectors_of fs) t.i t.j ss) (sym c.of-steps.ensures)
    (zero_there es t used are.there (are.numbered 0 t.i refl) (are.numbered 1 t.j refl) c.requires.pair fs others c.known.ensures c.requires.uncovered
    d.first d.second d.steps.items d.rest c.requires.done are.stepped none))

pub returns-then-is_empty : goal.returns-then-is_empty
returns-then-is_empty g c =
    let es : List BasisEntry = g.F.Front.entries c.args.list.now in
    let t : Task = c.args.task in
    let d = c.args.done in
    let used : List UsedEntry = map used_entry c.in_ok-used.used.items in
    let are : AreUsed es (t.i ∷ (t.j ∷ [])) c.deref.result.now used = c.in_ok-used.ensures in
    let none : d.rest ≡ [] = empty_of c.terms.result.now d.rest c.terms.ensures.is c.if-is_empty.ensures in
    works (arc_value c.args.p.now) es t used c.count.result (Zero c.of-steps.result) c.of.result c.of.ensures
    (counted c.count.result (g.F.VecList.vectors c.args.list.now) es c.count.ensures.is (g.met.F.Front.vectors_are c.args.list.now)) are.there
    (reduces (vectors_of es) t d.first d.second d.steps.items c.of-steps.result d.rest [] c.requires.uncovered c.requires.done c.of-steps.ensures none)
    (used_for es t (t.i ∷ (t.j ∷ [])) c.deref.result.now used (Zero c.of-steps.result) are
    (same_numbers _ _ (ap (λ (ss : List Step). t.i ∷ (t.j ∷ numbers_of ss)) (c.deref.ensures.value ∙ sym c.of-steps.ensures))))

pub of-requires-2 : goal.of-requires-2
of-requires-2 g c =
    let es : List BasisEntry = g.F.Front.entries c.args.list.now in
    let t : Task = c.args.task in
    let d = c.args.done in
    let used : List UsedEntry = map used_entry c.in_ok-used.used.items in
    let are : AreUsed es (t.i ∷ (t.j ∷ [])) d.steps.items used = subst (λ (ss : List Step). AreUsed es (t.i ∷ (t.j ∷ [])) ss used) c.deref.ensures.value
    c.in_ok-used.ensures in
    let some : d.rest ≢ [] = some_of c.terms.result.now d.rest c.terms.ensures.is c.if-is_empty.ensures in
    outcome es t d.steps.items used c.count-2.result (Rest c.in_ok-entry.entry) are c.requires.pair
    (λ fs others. rest_there es t used are.there (are.numbered 0 t.i refl) (are.numbered 1 t.j refl) c.requires.pair fs others c.known.ensures
    c.requires.uncovered d.first d.second d.steps.items d.rest c.requires.done are.stepped some (arc_value c.args.p.now) (arc_value c.in_ok-entry.entry)
    c.in_ok-entry.ensures)

pub returns : goal.returns
returns g c =
    let es : List BasisEntry = g.F.Front.entries c.args.list.now in
    let t : Task = c.args.task in
    let d = c.args.done in
    let used : List UsedEntry = map used_entry c.in_ok-used.used.items in
    let are : AreUsed es (t.i ∷ (t.j ∷ [])) c.deref.result.now used = c.in_ok-used.ensures in
    let some : d.rest ≢ [] = some_of c.terms.result.now d.rest c.terms.ensures.is c.if-is_empty.ensures in
    works (arc_value c.args.p.now) es t used c.count-2.result (Rest c.in_ok-entry.entry) c.of-2.result c.of-2.ensures
    (counted c.count-2.result (g.F.VecList.vectors c.args.list.now) es c.count-2.ensures.is (g.met.F.Front.vectors_are c.args.list.now)) are.there
    (record {
      first = d.first;
      second = d.second;
      pair_steps = c.requires.done.pair_steps;
      steps = d.steps.items;
      rest = d.rest;
      reduces = reduces (vectors_of es) t d.first d.second d.steps.items d.steps.items d.rest d.rest c.requires.uncovered c.requires.done refl refl;
      some = some;
      entry = c.in_ok-entry.ensures;
    })
    (used_for es t (t.i ∷ (t.j ∷ [])) c.deref.result.now used (Rest c.in_ok-entry.entry) are
    (named_twice t _ _ _ (ap (λ (ss : List Step). t.i ∷ (t.j ∷ numbers_of ss)) c.deref.ensures.value)
    (rest_numbers (arc_value c.args.p.now) (vectors_of es) t d.first d.second d.steps.items d.rest (arc_value c.in_ok-entry.entry) c.requires.done.pair_steps
    c.in_ok-entry.ensures)))
