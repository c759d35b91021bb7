use Rattle.std.proofs.Common.{rules, ◌≡◌, ◌≢◌, ◌+◌, ◌∙◌, Some, None, length, map, sym, ap, subst, arith}
use Rattle.std.specs.Arc.{arc_value}
use Rattle.std.specs.Prelude.{IsTrue}
use Rattle.std.proofs.lemmas.List.{length-map}
use mathlib.Core.List.{IsPrefix}
use Rattle.basis_log.specs.Items.{entries_of, seal_of, AreItems}
use Rattle.basis_log.specs.Rows.{row_source}
use Rattle.legal_report.proofs.Prefixes.{goes_on, begins_open, begins_sealed, all_of, one_past, whole_prefix, prefix_whole}
use Rattle.legal_report.proofs.seating.begins.Goals.{then-front-entries-via-then-front-entries, then-front-entries-via-else-front-entries+then-not-begin}
use Rattle.legal_report.proofs.seating.begins.Goals as goal

pub returns-in-None-default : goal.returns-in-None-default
returns-in-None-default c =
    let seat = c.args.seat.now in
    let h = c.args.book.now in
    let none : seal_of seat.items ≡ None = search rules in
    let e = c.entries-entries.ensures.is in (
      λ t. begins_open (row_source seat.row) seat.items h.entries h.seal c.front-front.ensures.items none
          (subst (IsPrefix (entries_of seat.items)) e (c.begin.ensures.0 t)),
      λ begun. c.begin.ensures.1 (subst (IsPrefix (entries_of seat.items)) (sym e)
          (let on = goes_on seat.items h.entries h.seal begun in (on.more, sym on.entries))),
    )

pub returns-then-front-entries : goal.returns-then-front-entries
returns-then-front-entries c = (
  λ t. absurd cc,
  λ begun.
      let seat = c.args.seat.now in
      let h = c.args.book.now in
      let some : seal_of seat.items ≡ Some c.in-Some-Some.seal.now = search rules in
      let all = all_of seat.items h.entries h.seal c.in-Some-Some.seal.now some begun in
      let e = c.entries-entries.ensures.is in
      let past = one_past (row_source seat.row) seat.items c.in-Some-Some.seal.now c.front-front.ensures.items some in
      let n = ap length all.0 in
      let m = ap length e in
      let l = length-map c.entries-entries.result.now arc_value in
      elim c.then-front-entries.branch [
        | then-front-entries-via-then-front-entries w ↦
            let front : c.front-front.result ≡ length c.entries-entries.result.now + 1 = omega (arith, c.front-front.ensures.is, past, n, m, l) in
            absurd (search (rules, front))
        | then-front-entries-via-else-front-entries+then-not-begin w ↦
            let yes = w.begin-else-front-entries.ensures.1 (whole_prefix (entries_of seat.items) _ (e ∙ all.0)) in
            absurd (search (rules, yes))
      ],
)

pub returns-else-not-begin : goal.returns-else-not-begin
returns-else-not-begin c =
    let seat = c.args.seat.now in
    let h = c.args.book.now in
    let z = c.in-Some-Some.seal.now in
    let some : seal_of seat.items ≡ Some z = search rules in
    let other : h.seal ≡ Some c.in-Some-Some.other.now = search rules in
    let yes : IsTrue c.begin-else-front-entries.result = search rules in
    let e = c.entries-entries.ensures.is in
    let begun : IsPrefix (entries_of seat.items) h.entries = subst (IsPrefix (entries_of seat.items)) e (c.begin-else-front-entries.ensures.0 yes) in
    let past = one_past (row_source seat.row) seat.items z c.front-front.ensures.items some in
    let front : c.front-front.result ≡ length c.entries-entries.result.now + 1 = search rules in
    let m = ap length e in
    let l = length-map c.entries-entries.result.now arc_value in
    let whole = prefix_whole (entries_of seat.items) h.entries (omega (arith, c.front-front.ensures.is, past, front, m, l)) begun in (
      λ t. begins_sealed (row_source seat.row) seat.items h.entries h.seal c.front-front.ensures.items whole
          (let same = c.same_seal.ensures.0 t in some ∙ ap Some same ∙ sym other),
      λ all. c.same_seal.ensures.1 (let is = (all_of seat.items h.entries h.seal z some all).1 in
          let both : Some z ≡ Some c.in-Some-Some.other.now = sym is ∙ other in cc),
    )

pub returns-in-Some-None : goal.returns-in-Some-None
returns-in-Some-None c = (
  λ t. absurd cc,
  λ begun.
      let seat = c.args.seat.now in
      let h = c.args.book.now in
      let z = c.in-Some-None.field-0-0.now in
      let some : seal_of seat.items ≡ Some z = search rules in
      let none : h.seal ≡ None = search rules in
      let is = (all_of seat.items h.entries h.seal z some begun).1 in
      let both : Some z ≡ None = sym is ∙ none in
      absurd cc,
)
