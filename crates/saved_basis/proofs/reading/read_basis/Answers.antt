use Rattle.std.proofs.Common.{rules, ◌≡◌, List, length, map, sym, ap, subst}
use Rattle.std.proofs.lemmas.Result.{err_from_is_err_and}
use Rattle.std.specs.Arc.{arc_value}
use Rattle.presentation.specs.Presented.{IsPresented}
use Rattle.basis_entry.specs.Entries.{BasisEntry, vectors_of}
use Rattle.basis_entry.specs.Seals.{IsStrongBasis}
use Rattle.saved_basis.specs.Tasks.{AllPass, IsAny, TellsFirst}
use Rattle.saved_basis.specs.Reading.{IsFileOf, ReadsBasis, FaultIsOver}
use Rattle.saved_basis.proofs.EachLine.{if_fault, tells_reads}
use Rattle.saved_basis.proofs.Named.{lines_over, tasks_over}
use Rattle.saved_basis.proofs.Strength.{strong}
use Rattle.saved_basis.proofs.reading.read_basis.Goals as goal

pub returns-in_err-entries-clause-over : goal.returns-in_err-entries-clause-over
returns-in_err-entries-clause-over c =
    let same : c.deref.result.now ≡ arc_value c.args.p.now = search rules in
    let known : IsPresented (arc_value c.args.p.now) = subst IsPresented same c.known.ensures in
    let p = err_from_is_err_and c.from_residual.result c.from_residual.ensures.1 in
    if_fault c.from_residual.result (FaultIsOver (length (arc_value c.args.p.now).names)) p.0 c.in_err-entries.field-0.0 p.1 p.2
    (lines_over (arc_value c.args.p.now) c.args.text.now c.in_err-entries.field-0.0 known c.in_err-entries.ensures)

pub returns-in_err-test_tasks-clause-exact : goal.returns-in_err-test_tasks-clause-exact
returns-in_err-test_tasks-clause-exact c =
    let es : List BasisEntry = map arc_value c.in_ok-entries.entries.items in
    let list : c.over.result.list.now.entries ≡ es = search rules in
    let tells : TellsFirst IsAny (vectors_of es) c.in_err-test_tasks.field-0.0 =
    subst (λ (xs : List BasisEntry). TellsFirst IsAny (vectors_of xs) c.in_err-test_tasks.field-0.0) list c.in_err-test_tasks.ensures in
    let p = err_from_is_err_and c.from_residual-in_err-test_tasks.result c.from_residual-in_err-test_tasks.ensures.1 in
    subst (ReadsBasis (arc_value c.args.p.now) c.args.text.now) (sym p.1)
    (tells_reads (arc_value c.args.p.now) c.args.text.now es c.in_ok-entries.ensures p.0 (subst (TellsFirst IsAny (vectors_of es)) (sym p.2) tells))

pub returns-in_err-test_tasks-clause-over : goal.returns-in_err-test_tasks-clause-over
returns-in_err-test_tasks-clause-over c =
    let es : List BasisEntry = map arc_value c.in_ok-entries.entries.items in
    let list : c.over.result.list.now.entries ≡ es = search rules in
    let file : IsFileOf (arc_value c.args.p.now) c.args.text.now es = c.in_ok-entries.ensures in
    let tells : TellsFirst IsAny (vectors_of es) c.in_err-test_tasks.field-0.0 =
    subst (λ (xs : List BasisEntry). TellsFirst IsAny (vectors_of xs) c.in_err-test_tasks.field-0.0) list c.in_err-test_tasks.ensures in
    let p = err_from_is_err_and c.from_residual-in_err-test_tasks.result c.from_residual-in_err-test_tasks.ensures.1 in
    if_fault c.from_residual-in_err-test_tasks.result (FaultIsOver (length (arc_value c.args.p.now).names)) p.0 c.in_err-test_tasks.field-0.0 p.1 p.2
    (tasks_over (arc_value c.args.p.now) es c.in_err-test_tasks.field-0.0 file.saved.entries file.saved.log.source tells)

pub make-requires-clause-strong : goal.make-requires-clause-strong
make-requires-clause-strong c =
    let es : List BasisEntry = map arc_value c.in_ok-entries.entries.items in
    let list : c.over.result.list.now.entries ≡ es = search rules in
    let file : IsFileOf (arc_value c.args.p.now) c.args.text.now es = c.in_ok-entries.ensures in
    let passes : AllPass (vectors_of es) = subst (λ (xs : List BasisEntry). AllPass (vectors_of xs)) list c.in_ok-test_tasks.ensures in
    let given : c.in_ok-entries.entries.items ≡ c.deref-3.result.now = search rules in
    subst (λ (xs : List BasisEntry). IsStrongBasis (arc_value c.args.p.now) (vectors_of xs)) (ap (map arc_value) given)
    (strong (arc_value c.args.p.now) es file.saved passes)
