use Rattle.std.proofs.Common.{arith, ap, ◌∙◌, ◌≡◌, ◌<◌, ◌+◌, ◌++◌, ◌∷◌, [], length, map, take, List}
use Rattle.std.proofs.lemmas.List.Sums.{sum_by_push}
use Rattle.std.specs.Arc.{arc_value}
use Rattle.basis_entry.specs.Entries.{BasisEntry}
use Rattle.pair_book.specs.LogEntries.{terms_of}
use Rattle.pair_book.proofs.Starting.{map_take_more}
use Rattle.pair_book.proofs.opening.count_terms.Goals as goal

pub loop-entry-preserved : goal.loop-entry-preserved
loop-entry-preserved c =
    let i = c.loop-entry.entry-index in
    let es = c.args.entries.now in
    let inv = c.loop-entry.invariant in
    let e : BasisEntry = arc_value c.entry-item.result in
    let xs : List BasisEntry = map arc_value (take i es) in
    let lt : i < length es = omega arith in
    let g : map arc_value (take (i + 1) es) ≡ xs ++ e ∷ [] = map_take_more arc_value es i c.entry-item.result lt c.entry-item.is in
    let s = sum_by_push (λ (z : BasisEntry). length z.vector) xs e in
    let long : length c.terms.result.now ≡ length e.vector = ap length (c.terms.ensures.is
    ∙ (c.vector.ensures.is ∙ ap (λ (z : BasisEntry). z.vector) c.deref.ensures)) in
    let q = ap terms_of g in
    record {
      terms_is = omega (arith, s, long, q, inv.terms_is);
      few = omega (arith, inv.few, c.terms.ensures.vector.most, ap length c.terms.ensures.is);
    }
