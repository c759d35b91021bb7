use Rattle.std.proofs.Common.{◌∙◌, ap, sym, subst, pos, [], Ok, Err}
use Rattle.std.proofs.lemmas.Result.{err_from_is_err_and}
use Rattle.laurent_terms.specs.Monomials.{one}
use Rattle.flat_cert.specs.Checking.{Answers}
use Rattle.flat_cert.specs.Adding.{Adds, AreTotals, TakesLines}
use Rattle.flat_cert.proofs.Adding.{terms_of}
use Rattle.flat_cert.proofs.Answering.{begin_fails, lines_fail, nothing_left, something_left}
use Rattle.flat_cert.proofs.check.checked.Goals as goal

pub returns-in_err-add_multiple : goal.returns-in_err-add_multiple
returns-in_err-add_multiple c =
    let p = c.args.p.now in
    let v = c.in_ok-vector.vector in
    let first = c.add_multiple.new.self in
    let one_added : Adds c.new-totals.result (terms_of (pos 1) c.one.result c.terms.result.now) first c.add_multiple.result = c.add_multiple.ensures in
    let added : Adds [] (terms_of (pos 1) one v) first c.add_multiple.result =
    subst (λ es. Adds es (terms_of (pos 1) one v) first c.add_multiple.result) c.new-totals.ensures
    (subst (λ m. Adds c.new-totals.result (terms_of (pos 1) m v) first c.add_multiple.result) c.one.ensures.is
    (subst (λ g. Adds c.new-totals.result (terms_of (pos 1) c.one.result g) first c.add_multiple.result) c.terms.ensures.is one_added)) in
    let e = c.in_err-add_multiple.field-0.0 in
    let q = err_from_is_err_and c.from_residual-in_err-add_multiple.result c.from_residual-in_err-add_multiple.ensures.1 in
    subst (Answers p c.args.w.now c.args.list.now) (ap Err (sym q.2) ∙ sym q.1)
    (begin_fails p c.args.w.now c.args.list.now v c.in_ok-vector.ensures.is first e
    (subst (λ r. Adds [] (terms_of (pos 1) one v) first r) c.in_err-add_multiple.was added))

pub returns-in_err-take_lines : goal.returns-in_err-take_lines
returns-in_err-take_lines c =
    let p = c.args.p.now in
    let v = c.in_ok-vector.vector in
    let first = c.add_multiple.new.self in
    let one_added : Adds c.new-totals.result (terms_of (pos 1) c.one.result c.terms.result.now) first c.add_multiple.result = c.add_multiple.ensures in
    let added : Adds [] (terms_of (pos 1) one v) first c.add_multiple.result =
    subst (λ es. Adds es (terms_of (pos 1) one v) first c.add_multiple.result) c.new-totals.ensures
    (subst (λ m. Adds c.new-totals.result (terms_of (pos 1) m v) first c.add_multiple.result) c.one.ensures.is
    (subst (λ g. Adds c.new-totals.result (terms_of (pos 1) c.one.result g) first c.add_multiple.result) c.terms.ensures.is one_added)) in
    let begins : Adds [] (terms_of (pos 1) one v) first (Ok tt) = subst (λ r. Adds [] (terms_of (pos 1) one v) first r) c.in_ok-add_multiple.was added in
    let taken : TakesLines p first c.args.list.now c.take_lines.new.totals c.take_lines.result = c.take_lines.ensures in
    let e = c.in_err-take_lines.field-0.0 in
    let q = err_from_is_err_and c.from_residual-in_err-take_lines.result c.from_residual-in_err-take_lines.ensures.1 in
    subst (Answers p c.args.w.now c.args.list.now) (ap Err (sym q.2) ∙ sym q.1)
    (lines_fail p c.args.w.now c.args.list.now v c.in_ok-vector.ensures.is first begins c.take_lines.new.totals e
    (subst (λ r. TakesLines p first c.args.list.now c.take_lines.new.totals r) c.in_err-take_lines.was taken))

pub returns-in-Some : goal.returns-in-Some
returns-in-Some c =
    let p = c.args.p.now in
    let v = c.in_ok-vector.vector in
    let first = c.add_multiple.new.self in
    let one_added : Adds c.new-totals.result (terms_of (pos 1) c.one.result c.terms.result.now) first c.add_multiple.result = c.add_multiple.ensures in
    let added : Adds [] (terms_of (pos 1) one v) first c.add_multiple.result =
    subst (λ es. Adds es (terms_of (pos 1) one v) first c.add_multiple.result) c.new-totals.ensures
    (subst (λ m. Adds c.new-totals.result (terms_of (pos 1) m v) first c.add_multiple.result) c.one.ensures.is
    (subst (λ g. Adds c.new-totals.result (terms_of (pos 1) c.one.result g) first c.add_multiple.result) c.terms.ensures.is one_added)) in
    let begins : Adds [] (terms_of (pos 1) one v) first (Ok tt) = subst (λ r. Adds [] (terms_of (pos 1) one v) first r) c.in_ok-add_multiple.was added in
    let taken : TakesLines p first c.args.list.now c.take_lines.new.totals c.take_lines.result = c.take_lines.ensures in
    let takes : TakesLines p first c.args.list.now c.take_lines.new.totals (Ok tt) =
    subst (λ r. TakesLines p first c.args.list.now c.take_lines.new.totals r) c.in_ok-take_lines.was taken in
    let known : AreTotals c.take_lines.new.totals = subst AreTotals c.totals-2.view_is c.totals-2.invariant in
    something_left p c.args.w.now c.args.list.now v c.in_ok-vector.ensures.is first begins c.take_lines.new.totals known takes c.in-Some.at c.in-Some.ensures

pub returns : goal.returns
returns c =
    let p = c.args.p.now in
    let v = c.in_ok-vector.vector in
    let first = c.add_multiple.new.self in
    let one_added : Adds c.new-totals.result (terms_of (pos 1) c.one.result c.terms.result.now) first c.add_multiple.result = c.add_multiple.ensures in
    let added : Adds [] (terms_of (pos 1) one v) first c.add_multiple.result =
    subst (λ es. Adds es (terms_of (pos 1) one v) first c.add_multiple.result) c.new-totals.ensures
    (subst (λ m. Adds c.new-totals.result (terms_of (pos 1) m v) first c.add_multiple.result) c.one.ensures.is
    (subst (λ g. Adds c.new-totals.result (terms_of (pos 1) c.one.result g) first c.add_multiple.result) c.terms.ensures.is one_added)) in
    let begins : Adds [] (terms_of (pos 1) one v) first (Ok tt) = subst (λ r. Adds [] (terms_of (pos 1) one v) first r) c.in_ok-add_multiple.was added in
    let taken : TakesLines p first c.args.list.now c.take_lines.new.totals c.take_lines.result = c.take_lines.ensures in
    let takes : TakesLines p first c.args.list.now c.take_lines.new.totals (Ok tt) =
    subst (λ r. TakesLines p first c.args.list.now c.take_lines.new.totals r) c.in_ok-take_lines.was taken in
    let known : AreTotals c.take_lines.new.totals = subst AreTotals c.totals-2.view_is c.totals-2.invariant in
    nothing_left p c.args.w.now c.args.list.now v c.in_ok-vector.ensures.is first begins c.take_lines.new.totals known takes c.in-None.ensures
