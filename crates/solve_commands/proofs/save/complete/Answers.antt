use Rattle.std.proofs.Common.{rules, ◌≡◌, List, Option, Some, None, [], ℕ, subst}
use Rattle.std.specs.Arc.{arc_value}
use Rattle.mb_io.specs.Shelf.{CountRose}
use Rattle.presentation.specs.Presented.{Presented, IsPresented}
use Rattle.basis_entry.specs.Seals.{Seal, IsSeal}
use Rattle.report_text.specs.Reports.{reported}
use Rattle.legal_report.specs.Solutions.{IsSolution}
use Rattle.solve_commands.specs.Presentations.{IsPresentedIn}
use Rattle.solve_commands.specs.Save.{SaveAsked, save_asked}
use Rattle.solve_commands.proofs.SaveFound.{open_due, basis_due, not_presented, none_of, some_of}
use Rattle.solve_commands.proofs.save.complete.Goals as goal

pub returns-in_err-p-clause-gives : goal.returns-in_err-p-clause-gives
returns-in_err-p-clause-gives g c = search (rules, not_presented)

pub returns-in_default-clause-gives : goal.returns-in_default-clause-gives
returns-in_default-clause-gives g c =
    let p : Presented = c.in_ok-p.p in
    let q : SaveAsked = save_asked c.args.words.now in
    let under : List ℕ → Option (List ℕ) = g.S.Shelf.under c.args.shelf.now in
    let arc : arc_value c.in_ok-p-2.p ≡ p = search rules in
    let presented : IsPresentedIn under q.presentation p = search rules in
    let solution : IsSolution p q.limits [] (reported c.in_ok-solved.solved.report) =
    subst (λ (x : Presented). IsSolution x q.limits [] (reported c.in_ok-solved.solved.report)) arc c.in_ok-solved.ensures.solution in
    let none : (reported c.in_ok-solved.solved.report).seal ≡ None = search (rules, none_of arc_value c.in_ok-solved.solved.report.sealed) in
    open_due (CountRose (g.S.Shelf.faults c.args.shelf.now) (g.S.Shelf.faults c.load_presentation.new.shelf)) under q p c.in_ok-solved.solved presented
    solution c.in_ok-solved.ensures.last none

pub returns-clause-gives : goal.returns-clause-gives
returns-clause-gives g c =
    let p : Presented = c.in_ok-p.p in
    let q : SaveAsked = save_asked c.args.words.now in
    let under : List ℕ → Option (List ℕ) = g.S.Shelf.under c.args.shelf.now in
    let seal : Seal = arc_value c.in_ok-try_clone.field-0 in
    let arc : arc_value c.in_ok-p-2.p ≡ p = search rules in
    let presented : IsPresentedIn under q.presentation p = search rules in
    let solution : IsSolution p q.limits [] (reported c.in_ok-solved.solved.report) =
    subst (λ (x : Presented). IsSolution x q.limits [] (reported c.in_ok-solved.solved.report)) arc c.in_ok-solved.ensures.solution in
    let known : IsPresented p = search rules in
    let same : arc_value c.in-Some.seal ≡ seal = search rules in
    let some : (reported c.in_ok-solved.solved.report).seal ≡ Some seal =
    some_of arc_value c.in_ok-solved.solved.report.sealed c.in-Some.seal seal c.in-Some.is same in
    let of_seal : IsSeal seal = search rules in
    basis_due (CountRose (g.S.Shelf.faults c.args.shelf.now) (g.S.Shelf.faults c.load_presentation.new.shelf)) under q p c.in_ok-solved.solved presented
    solution c.requires known seal some of_seal c.written_bases_are_read.ensures
