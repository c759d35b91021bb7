use Rattle.std.proofs.Common.{rules, ◌≡◌, ◌≤◌, map, length, ap, arith, refl}
use Rattle.std.specs.Arc.{arc_value}
use Rattle.std.proofs.lemmas.List.{length-map}
use Rattle.basis_entry.specs.Entries.{BasisEntry}
use Rattle.legal_report.proofs.Prefixes.{prefix_by}
use Rattle.legal_report.proofs.seating.begin.Goals as goal

pub returns : goal.returns
returns g c =
    let es = g.F.Front.entries c.args.list.now in
    let vs = ap length (g.met.F.Front.vectors_are c.args.list.now) in
    let of = length-map es (λ (e : BasisEntry). e.vector) in
    let n = c.count-count.ensures.is in
    let le : c.count-count.result ≤ length c.args.entries.now = search (rules, arith) in
    let past : c.count-count.result ≤ c.loop-at.at = search (rules, arith) in
    let m = length-map c.args.entries.now arc_value in (
      λ t. prefix_by es (map arc_value c.args.entries.now) (omega (arith, vs, of, n, le, m))
          (λ k lt. c.loop-at.invariant k (omega (arith, lt, vs, of, n, past))),
      λ h. refl,
    )
