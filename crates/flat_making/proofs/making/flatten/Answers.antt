use Rattle.std.proofs.Common.{◌∙◌, ap, sym, subst, pos, [], Ok, Err}
use Rattle.std.proofs.lemmas.Result.{err_from_is_err_and}
use Rattle.laurent_terms.specs.Monomials.{one}
use Rattle.flat_cert.specs.Adding.{Adds, AreTotals}
use Rattle.formal_sums.specs.FormalSum.{FormalSum, coefficient}
use Rattle.module_vec.specs.declared.places.Place.{Place}
use Rattle.module_vec.specs.Places.{same_place}
use Rattle.flat_making.specs.Handing.{Holds}
use Rattle.flat_making.specs.Lines.{AreLinesFrom}
use Rattle.flat_making.specs.Making.{Answers}
use Rattle.flat_making.proofs.Flattening.{have_factors, start_holds, start_fails, then_fails, flatten_exact, flatten_certificate, flatten_sum}
use Rattle.flat_making.proofs.Steps.{handed_by}
use Rattle.flat_making.proofs.making.flatten.Goals as goal

pub returns-in_err-hand_on-clause-exact : goal.returns-in_err-hand_on-clause-exact
returns-in_err-hand_on-clause-exact c =
    let e = c.in_err-hand_on.field-0.0 in
    let q = err_from_is_err_and c.from_residual.result c.from_residual.ensures.1 in
    let adds : Adds [] (handed_by (pos 1) one c.args.proof.now) c.hand_on.new.self (Err e) =
    subst (λ es. Adds es (handed_by (pos 1) one c.args.proof.now) c.hand_on.new.self (Err e)) c.new-handed.ensures
    (subst (λ m. Adds c.new-handed.result (handed_by (pos 1) m c.args.proof.now) c.hand_on.new.self (Err e)) c.one.ensures.is c.in_err-hand_on.ensures) in
    subst (Answers c.args.p.now c.args.entries.now c.args.proof.now) (ap Err (sym q.2) ∙ sym q.1)
    (start_fails c.args.p.now c.known.ensures c.args.entries.now c.requires.log c.vectors_known.ensures c.args.proof.now c.requires.proof
    c.hand_on.new.self e adds)

pub hand_down-requires : goal.hand_down-requires
hand_down-requires c = have_factors c.args.p.now c.args.entries.now c.requires.log

pub returns-in_err-hand_down-clause-exact : goal.returns-in_err-hand_down-clause-exact
returns-in_err-hand_down-clause-exact c =
    let e = c.in_err-hand_down.field-0.0 in
    let q = err_from_is_err_and c.from_residual-in_err-hand_down.result c.from_residual-in_err-hand_down.ensures.1 in
    let adds : Adds [] (handed_by (pos 1) one c.args.proof.now) c.hand_on.new.self (Ok tt) =
    subst (λ es. Adds es (handed_by (pos 1) one c.args.proof.now) c.hand_on.new.self (Ok tt)) c.new-handed.ensures
    (subst (λ m. Adds c.new-handed.result (handed_by (pos 1) m c.args.proof.now) c.hand_on.new.self (Ok tt)) c.one.ensures.is c.in_ok-hand_on.ensures) in
    let held = start_holds c.args.p.now c.known.ensures c.args.entries.now c.requires.log c.vectors_known.ensures c.args.proof.now c.requires.proof
    c.hand_on.new.self adds in
    subst (Answers c.args.p.now c.args.entries.now c.args.proof.now) (ap Err (sym q.2) ∙ sym q.1)
    (then_fails c.args.p.now c.known.ensures c.args.entries.now c.requires.log c.vectors_known.ensures c.args.proof.now c.requires.proof
    c.hand_on.new.self c.hand_down.new.handed e held c.in_err-hand_down.ensures)

pub returns-clause-exact : goal.returns-clause-exact
returns-clause-exact c =
    let adds : Adds [] (handed_by (pos 1) one c.args.proof.now) c.hand_on.new.self (Ok tt) =
    subst (λ es. Adds es (handed_by (pos 1) one c.args.proof.now) c.hand_on.new.self (Ok tt)) c.new-handed.ensures
    (subst (λ m. Adds c.new-handed.result (handed_by (pos 1) m c.args.proof.now) c.hand_on.new.self (Ok tt)) c.one.ensures.is c.in_ok-hand_on.ensures) in
    let held = start_holds c.args.p.now c.known.ensures c.args.entries.now c.requires.log c.vectors_known.ensures c.args.proof.now c.requires.proof
    c.hand_on.new.self adds in
    let totals = c.hand_down.new.handed in
    let known : AreTotals totals = subst AreTotals c.handed-2.view_is c.handed-2.invariant in
    let reached = c.in_ok-hand_down.ensures _ held in
    let lines : (all : FormalSum Place) → Holds totals all → AreLinesFrom c.in_ok-kinds.kinds.items (coefficient same_place all) 0 c.args.entries.now
    c.in_ok-list.list.items = subst (λ ks. (all : FormalSum Place) → Holds totals all → AreLinesFrom ks (coefficient same_place all) 0 c.args.entries.now
    c.in_ok-list.list.items) c.deref.ensures.value c.in_ok-list.ensures in
    flatten_exact c.args.p.now c.known.ensures c.args.entries.now c.requires.log c.vectors_known.ensures c.args.proof.now c.requires.proof
    totals known reached c.in_ok-kinds.kinds.items c.in_ok-kinds.ensures c.in_ok-list.list.items lines

pub returns-clause-certificate : goal.returns-clause-certificate
returns-clause-certificate c =
    let adds : Adds [] (handed_by (pos 1) one c.args.proof.now) c.hand_on.new.self (Ok tt) =
    subst (λ es. Adds es (handed_by (pos 1) one c.args.proof.now) c.hand_on.new.self (Ok tt)) c.new-handed.ensures
    (subst (λ m. Adds c.new-handed.result (handed_by (pos 1) m c.args.proof.now) c.hand_on.new.self (Ok tt)) c.one.ensures.is c.in_ok-hand_on.ensures) in
    let held = start_holds c.args.p.now c.known.ensures c.args.entries.now c.requires.log c.vectors_known.ensures c.args.proof.now c.requires.proof
    c.hand_on.new.self adds in
    let totals = c.hand_down.new.handed in
    let known : AreTotals totals = subst AreTotals c.handed-2.view_is c.handed-2.invariant in
    let reached = c.in_ok-hand_down.ensures _ held in
    let lines : (all : FormalSum Place) → Holds totals all → AreLinesFrom c.in_ok-kinds.kinds.items (coefficient same_place all) 0 c.args.entries.now
    c.in_ok-list.list.items = subst (λ ks. (all : FormalSum Place) → Holds totals all → AreLinesFrom ks (coefficient same_place all) 0 c.args.entries.now
    c.in_ok-list.list.items) c.deref.ensures.value c.in_ok-list.ensures in
    flatten_certificate c.args.p.now c.known.ensures c.args.entries.now c.requires.log c.vectors_known.ensures c.args.proof.now c.requires.proof
    totals known reached c.in_ok-kinds.kinds.items c.in_ok-kinds.ensures c.in_ok-list.list.items lines

pub returns-clause-sum : goal.returns-clause-sum
returns-clause-sum c =
    let adds : Adds [] (handed_by (pos 1) one c.args.proof.now) c.hand_on.new.self (Ok tt) =
    subst (λ es. Adds es (handed_by (pos 1) one c.args.proof.now) c.hand_on.new.self (Ok tt)) c.new-handed.ensures
    (subst (λ m. Adds c.new-handed.result (handed_by (pos 1) m c.args.proof.now) c.hand_on.new.self (Ok tt)) c.one.ensures.is c.in_ok-hand_on.ensures) in
    let held = start_holds c.args.p.now c.known.ensures c.args.entries.now c.requires.log c.vectors_known.ensures c.args.proof.now c.requires.proof
    c.hand_on.new.self adds in
    let totals = c.hand_down.new.handed in
    let known : AreTotals totals = subst AreTotals c.handed-2.view_is c.handed-2.invariant in
    let reached = c.in_ok-hand_down.ensures _ held in
    let lines : (all : FormalSum Place) → Holds totals all → AreLinesFrom c.in_ok-kinds.kinds.items (coefficient same_place all) 0 c.args.entries.now
    c.in_ok-list.list.items = subst (λ ks. (all : FormalSum Place) → Holds totals all → AreLinesFrom ks (coefficient same_place all) 0 c.args.entries.now
    c.in_ok-list.list.items) c.deref.ensures.value c.in_ok-list.ensures in
    flatten_sum c.args.p.now c.known.ensures c.args.entries.now c.requires.log c.vectors_known.ensures c.args.proof.now c.requires.proof
    totals known reached c.in_ok-kinds.kinds.items c.in_ok-kinds.ensures c.in_ok-list.list.items lines
