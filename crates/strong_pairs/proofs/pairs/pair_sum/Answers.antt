use Rattle.std.proofs.Common.{sym, subst}
use Rattle.std.specs.Prelude.{Ok, Err}
use Rattle.module_vec.specs.Chains.{taken_at}
use Rattle.strong_pairs.specs.Results.{MakesPair, pair_fault}
use Rattle.strong_pairs.proofs.Adding.{first_added, first_stops, second_stops, both_made, handed_on}
use Rattle.strong_pairs.proofs.pairs.pair_sum.Goals as goal

pub returns-in_err-multiple : goal.returns-in_err-multiple
returns-in_err-multiple g c kind i j steps =
    let b = g.L.VecList.vectors c.args.list.now in
    let fault = c.in_err-multiple.field-0.0 in
    subst (MakesPair kind b i j) (sym (handed_on c.from_residual.result (pair_fault fault)
    c.from_residual.ensures.0 c.from_residual.ensures.1))
    (first_stops kind b i j c.args.first.now c.args.second.now steps fault
    (first_added c.empty.result c.empty.ensures (taken_at b c.args.first.now) (Err fault) c.in_err-multiple.ensures))

pub returns-in_err-plus : goal.returns-in_err-plus
returns-in_err-plus g c kind i j steps =
    let b = g.L.VecList.vectors c.args.list.now in
    let fault = c.in_err-plus.field-0.0 in
    subst (MakesPair kind b i j) (sym (handed_on c.from_residual-in_err-plus.result (pair_fault fault)
    c.from_residual-in_err-plus.ensures.0 c.from_residual-in_err-plus.ensures.1))
    (second_stops kind b i j c.args.first.now c.args.second.now steps c.in_ok-multiple.multiple
    (first_added c.empty.result c.empty.ensures (taken_at b c.args.first.now) (Ok c.in_ok-multiple.multiple) c.in_ok-multiple.ensures) fault
    c.in_err-plus.ensures)

pub returns : goal.returns
returns g c kind i j steps =
    let b = g.L.VecList.vectors c.args.list.now in
    both_made kind b i j c.args.first.now c.args.second.now steps c.in_ok-multiple.multiple
    (first_added c.empty.result c.empty.ensures (taken_at b c.args.first.now) (Ok c.in_ok-multiple.multiple) c.in_ok-multiple.ensures) c.in_ok-plus.field-0
    c.in_ok-plus.ensures
