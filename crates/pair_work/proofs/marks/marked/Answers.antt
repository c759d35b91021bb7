use Rattle.std.proofs.Common.{◌≡◌, ◌+◌, List, [], ◌∷◌, ◌++◌, length, map, sym, subst, ap, ◌∙◌, arith}
use Rattle.std.proofs.lemmas.List.{length-map, map-append}
use Rattle.std.specs.Arc.{arc_value}
use Rattle.basis_entry.specs.Entries.{BasisEntry, vectors_of}
use Rattle.pair_work.specs.declared.used.Used.{Used}
use Rattle.pair_work.specs.Outcomes.{UsedEntry, used_entry}
use Rattle.pair_work.proofs.Marking.{AreMarkedBelow, next, none_marked, skipped, collected, all_marked, unset, marked_at}
use Rattle.pair_work.proofs.marks.marked.Goals.{then-marks-number+in_ok-try_clone+in_ok-push, else-marks-number}
use Rattle.pair_work.proofs.marks.marked.Goals as goal

pub loop-number-init : goal.loop-number-init
loop-number-init g c = subst (λ (us : List Used). AreMarkedBelow (g.F.Front.entries c.args.list.now) c.args.marks.now 0 (map used_entry us))
    (sym c.new-used.ensures.items) (none_marked (g.F.Front.entries c.args.list.now) c.args.marks.now)

pub loop-number-preserved : goal.loop-number-preserved
loop-number-preserved g c = elim c.if-marks-number.branch [
  | then-marks-number+in_ok-try_clone+in_ok-push w ↦
      let es : List BasisEntry = g.F.Front.entries c.args.list.now in
      let n = c.loop-number.number in
      let old : List Used = c.loop-number.used.items in
      let pushed : map used_entry c.if-marks-number.used.items ≡ map used_entry old ++ next n (arc_value w.entry.result.now) ∷ [] =
      (λ i. map used_entry (w.used-is i).items)
      ∙ ap (map used_entry) w.in_ok-push.ensures.items
      ∙ map-append used_entry old (record { number = n; entry = w.in_ok-try_clone.field-0 } ∷ [])
      ∙ ap (λ (z : BasisEntry). map used_entry old ++ next n z ∷ []) w.in_ok-try_clone.ensures in
      subst (λ (us : List UsedEntry). AreMarkedBelow es c.args.marks.now (n + 1) us) (sym pushed)
      (collected es c.args.marks.now n (map used_entry old) c.loop-number.invariant (arc_value w.entry.result.now) w.entry.ensures
      (marked_at c.args.marks.now n w.if-marks-number.true))
  | else-marks-number w ↦
      let es : List BasisEntry = g.F.Front.entries c.args.list.now in
      let n = c.loop-number.number in
      subst (λ (us : List UsedEntry). AreMarkedBelow es c.args.marks.now (n + 1) us) (λ i. map used_entry (sym w.used-is i).items)
      (skipped es c.args.marks.now n (map used_entry c.loop-number.used.items) c.loop-number.invariant (unset c.args.marks.now n w.if-marks-number.false))
]

pub returns : goal.returns
returns g c =
    let es : List BasisEntry = g.F.Front.entries c.args.list.now in
    let law : length (g.F.VecList.vectors c.args.list.now) ≡ length (vectors_of es) = ap length (g.met.F.Front.vectors_are c.args.list.now) in
    let long : length (vectors_of es) ≡ length es = length-map es (λ (e : BasisEntry). e.vector) in
    all_marked es c.args.marks.now c.loop-number.number (map used_entry c.loop-number.used.items)
    (omega (arith, c.requires, c.count-count.ensures.is, law, long, c.loop-number-test.false)) c.loop-number.invariant
