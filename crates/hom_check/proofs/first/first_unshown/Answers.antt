use Rattle.std.proofs.Common.{rules, arith, ◌≤◌, ◌<◌, ◌+◌, List, length, take, sym, subst}
use Rattle.module_vec.specs.declared.places.Term.{Term}
use Rattle.session_text.specs.Questions.{subjects}
use Rattle.hom_check.specs.Subjects.{subject_at}
use Rattle.hom_check.specs.Shown.{IsShown, LeavesRest, StopsAt}
use Rattle.hom_check.proofs.Fitting.{Fits, subject_fits}
use Rattle.hom_check.proofs.Chaining.{one_more, all_shown, is_first, shown_sums}
use Rattle.hom_check.proofs.first.first_unshown.Goals as goal

pub subject-requires-clause-short : goal.subject-requires-clause-short
subject-requires-clause-short g c =
    let lt : c.loop-place.place + 1 ≤ length (subjects c.args.q.now) = search rules in
    let fits : Fits (length c.args.p.now.names) (subject_at c.args.q.now (c.loop-place.place + 1)) =
    subject_fits c.args.p.now c.args.q.now (c.loop-place.place + 1) c.requires.question c.requires.images (omega arith) lt in
    fits.1

pub ending_of-requires-clause-over : goal.ending_of-requires-clause-over
ending_of-requires-clause-over g c =
    let lt : c.loop-place.place + 1 ≤ length (subjects c.args.q.now) = search rules in
    let fits : Fits (length c.args.p.now.names) c.in_ok-w.w =
    subst (Fits (length c.args.p.now.names)) (sym c.in_ok-w.ensures) (subject_fits c.args.p.now c.args.q.now (c.loop-place.place + 1) c.requires.question
    c.requires.images (omega arith) lt) in
    fits.0

pub ending_of-requires-clause-short : goal.ending_of-requires-clause-short
ending_of-requires-clause-short g c =
    let lt : c.loop-place.place + 1 ≤ length (subjects c.args.q.now) = search rules in
    let fits : Fits (length c.args.p.now.names) c.in_ok-w.w =
    subst (Fits (length c.args.p.now.names)) (sym c.in_ok-w.ensures) (subject_fits c.args.p.now c.args.q.now (c.loop-place.place + 1) c.requires.question
    c.requires.images (omega arith) lt) in
    fits.1

pub returns-in-Rest-clause-is : goal.returns-in-Rest-clause-is
returns-in-Rest-clause-is g c =
    let b : List (List Term) = take c.args.front (g.L.VecList.vectors c.args.list.now) in
    let lt : c.loop-place.place < length (subjects c.args.q.now) = search rules in
    is_first b c.args.q.now c.loop-place.place c.in_ok-w.w (LeavesRest b c.in-Rest.rest) lt c.loop-place.invariant c.in_ok-w.ensures (search rules)

pub returns-in-Stopped-clause-is : goal.returns-in-Stopped-clause-is
returns-in-Stopped-clause-is g c =
    let b : List (List Term) = take c.args.front (g.L.VecList.vectors c.args.list.now) in
    let lt : c.loop-place.place < length (subjects c.args.q.now) = search rules in
    is_first b c.args.q.now c.loop-place.place c.in_ok-w.w (StopsAt b c.in-Stopped.stop) lt c.loop-place.invariant c.in_ok-w.ensures (search rules)

pub loop-place-preserved : goal.loop-place-preserved
loop-place-preserved g c =
    let b : List (List Term) = take c.args.front (g.L.VecList.vectors c.args.list.now) in
    let now : IsShown b c.in_ok-w.w = search rules in
    one_more b c.args.q.now c.loop-place.place c.loop-place.invariant (subst (IsShown b) c.in_ok-w.ensures now)

pub returns-clause-is : goal.returns-clause-is
returns-clause-is g c =
    let past : length (subjects c.args.q.now) ≤ c.loop-place.place = search rules in
    all_shown (take c.args.front (g.L.VecList.vectors c.args.list.now)) c.args.q.now c.loop-place.place c.loop-place.invariant past

pub returns-clause-sums : goal.returns-clause-sums
returns-clause-sums g c =
    let b : List (List Term) = take c.args.front (g.L.VecList.vectors c.args.list.now) in
    let past : length (subjects c.args.q.now) ≤ c.loop-place.place = search rules in
    λ _. shown_sums b (subjects c.args.q.now) (all_shown b c.args.q.now c.loop-place.place c.loop-place.invariant past)
