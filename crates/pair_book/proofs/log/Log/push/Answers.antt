use Rattle.std.proofs.Common.{arith, sym, ap, ◌∙◌, ◌≡◌, ◌<◌, ◌++◌, ◌∷◌, [], ℕ, List, length, map, subst, length-append}
use Rattle.std.proofs.lemmas.List.{map-append}
use Rattle.std.specs.Arc.{arc_value}
use Rattle.std.specs.List.{AllByRecursion}
use Rattle.module_vec.specs.declared.places.Term.{Term}
use Rattle.strong_pairs.specs.Pairs.{lead_of}
use Rattle.basis_entry.specs.Entries.{BasisEntry, IsBasisEntry}
use Rattle.pair_book.specs.Fellows.{component_at, AreLinked}
use Rattle.pair_book.specs.LogEntries.{Logged}
use Rattle.pair_book.proofs.Linking.{linked_still}
use Rattle.pair_work.proofs.Reading.{all_push}
use Rattle.pair_book.proofs.Starting.{lead_end}
use Rattle.pair_book.proofs.log.Log.push.Goals as goal

pub invariant_of-self : goal.invariant_of-self
invariant_of-self c =
    let es : List BasisEntry = map arc_value c.self.inside.entries.items in
    let e : BasisEntry = arc_value c.args.entry in
    let links = c.push.new.self in
    let room = subst (λ (l : Logged). length l.entries < l.room) (sym c.self.view_is) c.requires in
    let items : map arc_value c.push_reserved.new.self.items ≡ es ++ e ∷ [] = ap (map arc_value) c.push_reserved.ensures.items
    ∙ map-append arc_value c.self.inside.entries.items (c.args.entry ∷ []) in
    let own : component_at (es ++ e ∷ []) (length es) ≡ c.component.result =
    ap (λ (t : Term). t.at.c) (lead_end es e) ∙ (ap (λ (z : BasisEntry). (lead_of z.vector).at.c) (sym c.deref.ensures) ∙ sym c.component.ensures.is) in
    let grown = c.push.ensures.linked (component_at (es ++ e ∷ [])) (length es)
    (linked_still es (e ∷ []) c.self.inside.links.before.items c.self.inside.links.last.items c.self.invariant.links) own in
    let n = length-append es (e ∷ []) in
    let l = ap length items in
    let entry = subst IsBasisEntry c.deref.ensures c.component.ensures.entry in
    record {
      logged = record {
        entries = subst (AllByRecursion IsBasisEntry) (sym items) (all_push IsBasisEntry es e c.self.invariant.logged.entries entry);
        within = omega (arith, l, n, room);
        most = c.self.invariant.logged.most;
      };
      capacity = omega (arith, c.push_reserved.ensures.capacity, c.self.invariant.capacity);
      links = subst (λ (xs : List BasisEntry). AreLinked (component_at xs) (length xs) links.before.items links.last.items) (sym items)
          (subst (λ (k : ℕ). AreLinked (component_at (es ++ e ∷ [])) k links.before.items links.last.items) (sym n) grown);
      links_capacity = omega (arith, c.push.ensures.room, c.self.invariant.links_capacity);
    }
