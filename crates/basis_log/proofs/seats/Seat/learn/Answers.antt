use Rattle.std.proofs.Common.{◌≡◌, ◌⊎◌, ap, sym, ◌∙◌}
use mathlib.Core.List.{IsPrefix}
use Rattle.basis_log.specs.Places.{cells_of}
use Rattle.basis_log.specs.Sights.{cells_in}
use Rattle.basis_log.proofs.Prefixes.{prefix_trans, prefixes_agree}
use Rattle.basis_log.proofs.Standing.{more_cells}
use Rattle.basis_log.proofs.Sitting.{seat_learnt, items_grow}
use Rattle.basis_log.proofs.seats.Seat.learn.Goals as goal

pub learn-requires-2-clause-cells : goal.learn-requires-2-clause-cells
learn-requires-2-clause-cells c =
    let mine = c.self.inside in
    let theirs = c.other.inside in
    let new = c.learn.new.self in
    let a = prefix_trans (cells_in mine.seen.items) (cells_of mine.places.segments) (cells_of new.segments) c.self.invariant.0.cells
    (more_cells mine.places.segments new.segments c.learn.ensures.grows) in
    let b = prefix_trans (cells_in theirs.seen.items) (cells_of theirs.places.segments) (cells_of new.segments) c.other.invariant.0.cells
    (more_cells theirs.places.segments new.segments c.learn.ensures.told) in
    rw (c.as_mut_slice.ensures.value) (prefixes_agree (cells_in mine.seen.items) (cells_in theirs.seen.items) (cells_of new.segments) a b)

pub invariant_of-self : goal.invariant_of-self
invariant_of-self c =
    let mine = c.self.inside in
    let theirs = c.other.inside in
    let rows = ap (λ s. s.row) c.other.view_is ∙ (c.requires ∙ sym (ap (λ s. s.row) c.self.view_is)) in
    let one : (c.learn-2.new.sights.items ≡ mine.seen.items) ⊎ (c.learn-2.new.sights.items ≡ theirs.seen.items) =
    rw (← c.as_mut_slice.ensures.value) c.learn-2.ensures.one in (
      seat_learnt mine.places theirs.places c.learn.new.self mine.seen.items theirs.seen.items c.learn-2.new.sights.items c.self.invariant.0
          c.other.invariant.0 rows
          c.learn.ensures.row c.learn.ensures.grows c.learn.ensures.told one,
      rw (c.learn.ensures.row, c.learn-2.ensures.capacity) c.self.invariant.1,
    )

pub returns-clause-grows : goal.returns-clause-grows
returns-clause-grows c =
    let mine = c.self.inside in
    let more = items_grow mine.places.row.base mine.seen.items c.learn-2.new.sights.items c.learn-2.ensures.grows in
    rw (← ap (λ s. s.items) c.self.view_is, c.learn.ensures.row) more

pub returns-clause-told : goal.returns-clause-told
returns-clause-told c =
    let mine = c.self.inside in
    let theirs = c.other.inside in
    let rows = ap (λ s. s.row) c.other.view_is ∙ (c.requires ∙ sym (ap (λ s. s.row) c.self.view_is)) in
    let told : IsPrefix theirs.seen.items c.learn-2.new.sights.items = rw (← c.as_mut_slice.ensures.value) c.learn-2.ensures.told in
    let more = items_grow theirs.places.row.base theirs.seen.items c.learn-2.new.sights.items told in
    rw (← ap (λ s. s.items) c.other.view_is, c.learn.ensures.row, ← rows) more
