use Rattle.std.proofs.Common.{◌≡◌, ◌∙◌, ap, sym, subst, drop, ◌∷◌, [], ◌+◌, List, Ok, Err}
use Rattle.std.specs.List.{AllByRecursion}
use Rattle.std.proofs.lemmas.List.{drop_all}
use Rattle.std.proofs.lemmas.Result.{err_from_is_err_and}
use Rattle.module_vec.proofs.FallingTerms.{all_drop, drop_read}
use Rattle.flat_cert.specs.declared.lines.Flat.{Flat}
use Rattle.flat_cert.specs.Certificates.{IsFlat}
use Rattle.flat_cert.specs.Adding.{TakesLines}
use Rattle.flat_cert.proofs.Taking.{takes_nothing, takes_on, takes_fails}
use Rattle.flat_cert.proofs.check.take_lines.Goals as goal

pub returns-in_err-take_line : goal.returns-in_err-take_line
returns-in_err-take_line c =
    let p = err_from_is_err_and c.from_residual.result c.from_residual.ensures.1 in
    let rest : List Flat = drop (c.loop-line.line-index + 1) c.args.list.now in
    let split : drop c.loop-line.line-index c.args.list.now ≡ c.line-item.result ∷ rest =
    drop_read c.args.list.now c.loop-line.line-index c.line-item.result c.loop-line-test.true c.line-item.is in
    let own = (subst (AllByRecursion (IsFlat c.args.p.now)) split (all_drop (IsFlat c.args.p.now) c.loop-line.line-index c.args.list.now c.requires.lines)).0 in
    let fails = takes_fails c.args.p.now c.loop-line.totals c.take_line.new.totals c.line-item.result rest c.in_err-take_line.field-0.0 own
    c.in_err-take_line.ensures in
    subst (λ r. TakesLines c.args.p.now c.args.totals.now c.args.list.now c.take_line.new.totals r) (ap Err (sym p.2) ∙ sym p.1)
    (c.loop-line.invariant c.take_line.new.totals (Err c.in_err-take_line.field-0.0)
    (subst (λ ls. TakesLines c.args.p.now c.loop-line.totals ls c.take_line.new.totals (Err c.in_err-take_line.field-0.0)) (sym split) fails))

pub loop-line-preserved : goal.loop-line-preserved
loop-line-preserved c new r h =
    let rest : List Flat = drop (c.loop-line.line-index + 1) c.args.list.now in
    let split : drop c.loop-line.line-index c.args.list.now ≡ c.line-item.result ∷ rest =
    drop_read c.args.list.now c.loop-line.line-index c.line-item.result c.loop-line-test.true c.line-item.is in
    let own = (subst (AllByRecursion (IsFlat c.args.p.now)) split (all_drop (IsFlat c.args.p.now) c.loop-line.line-index c.args.list.now c.requires.lines)).0 in
    c.loop-line.invariant new r (subst (λ ls. TakesLines c.args.p.now c.loop-line.totals ls new r) (sym split)
    (takes_on c.args.p.now c.loop-line.totals c.take_line.new.totals new c.line-item.result rest r own c.in_ok-take_line.ensures h))

pub returns : goal.returns
returns c =
    let none : drop c.loop-line.line-index c.args.list.now ≡ [] = drop_all c.loop-line.line-index c.args.list.now c.loop-line-test.false in
    c.loop-line.invariant c.loop-line.totals (Ok tt) (subst (λ ls. TakesLines c.args.p.now c.loop-line.totals ls c.loop-line.totals (Ok tt)) (sym none)
    (takes_nothing c.args.p.now c.loop-line.totals))
