use Rattle.std.proofs.Common.{rules, ◌≤◌}
use Rattle.presentation.specs.Presented.{Presented, IsPresented}
use Rattle.basis_entry.specs.declared.TheConstants.{BASE, BASE_TERMS}
use Rattle.pair_book.specs.declared.limits.Limits.{Limits}
use Rattle.solve_commands.proofs.limits.generators_fit.Goals as goal

pub returns : goal.returns
returns c =
    let p : Presented = c.args.p.now in
    let limits : Limits = c.args.limits in
    let known : IsPresented p = search rules in
    let entries : BASE ≤ limits.entries = search rules in
    let terms : BASE_TERMS ≤ limits.terms = search rules in
    c.generator_entries_are_within.ensures p limits known entries terms
