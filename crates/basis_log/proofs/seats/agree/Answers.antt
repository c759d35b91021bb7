use Rattle.std.proofs.Common.{ap, sym, ◌∙◌}
use Rattle.basis_log.specs.Seats.{shown_in, items_of}
use Rattle.basis_log.specs.Sights.{Agree, cells_in}
use Rattle.basis_log.proofs.Sitting.{cells_agree, items_agree}
use Rattle.basis_log.proofs.seats.agree.Goals as goal

pub agree-requires-2 : goal.agree-requires-2
agree-requires-2 c =
    let mine = c.seat.inside in
    let theirs = c.other.inside in
    let both = cells_agree (cells_in mine.seen.items) (cells_in theirs.seen.items) mine.places.segments theirs.places.segments c.seat.invariant.0.cells
    c.other.invariant.0.cells c.agree.ensures.agree in
    rw (c.as_mut_slice.ensures.value, c.as_mut_slice-2.ensures.value) both

pub returns-clause-agree : goal.returns-clause-agree
returns-clause-agree c =
    let mine = c.seat.inside in
    let theirs = c.other.inside in
    let seen : Agree mine.seen.items theirs.seen.items = rw (← c.as_mut_slice.ensures.value, ← c.as_mut_slice-2.ensures.value) c.agree-2.ensures.agree in
    let rows = ap (λ s. s.row.base) c.other.view_is ∙ (ap (λ r. r.base) c.requires ∙ sym (ap (λ s. s.row.base) c.seat.view_is)) in
    let both = items_agree mine.places.row.base mine.seen.items theirs.seen.items seen in
    let there = sym (ap (λ b. items_of b (shown_in theirs.seen.items)) rows) ∙ ap (λ s. s.items) c.other.view_is in
    rw (← ap (λ s. s.items) c.seat.view_is, ← there) both
