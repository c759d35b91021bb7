use Rattle.std.proofs.Common.{arith, sym, ap, List, [], length, map, subst}
use Rattle.std.specs.Arc.{arc_value}
use Rattle.std.specs.List.{AllByRecursion}
use Rattle.basis_entry.specs.Entries.{BasisEntry, IsBasisEntry}
use Rattle.pair_book.specs.Fellows.{component_at, AreLinked}
use Rattle.pair_book.proofs.log.Log.with_room.Goals as goal

pub invariant_of-result : goal.invariant_of-result
invariant_of-result c =
    let links = c.in_ok-with_room.field-0 in
    let e = ap (map arc_value) c.in_ok-with_capacity.ensures.items in
    let n = ap length e in
    record {
      logged = record { entries = subst (AllByRecursion IsBasisEntry) (sym e) tt; within = omega (arith, n); most = c.requires };
      capacity = c.in_ok-with_capacity.ensures.capacity;
      links = subst (λ (es : List BasisEntry). AreLinked (component_at es) (length es) links.before.items links.last.items) (sym e)
          (c.in_ok-with_room.ensures.linked (component_at []));
      links_capacity = c.in_ok-with_room.ensures.room;
    }
