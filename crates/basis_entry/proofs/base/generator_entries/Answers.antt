use Rattle.std.proofs.Common.{rules, arith, ◌≡◌, ◌∷◌, [], ◌++◌, List, length, map, length-append, append_assoc, sym, ap, subst, ◌∙◌}
use Rattle.std.proofs.lemmas.List.{map-append}
use Rattle.std.specs.Arc.{arc_value}
use Rattle.std.specs.Vec.Iter.{into_iter_items}
use Rattle.presentation.specs.Presented.{Presented, IsPresented}
use Rattle.module_vec.specs.declared.places.Term.{Term}
use Rattle.fox_calculus.specs.Generators.{AreGenerators}
use Rattle.basis_entry.specs.Base.{IsOfGenerator}
use Rattle.basis_entry.specs.Entries.{BasisEntry}
use Rattle.basis_entry.proofs.Growing.{AreOfGenerators, of_more, next_some, next_member, next_over, next_few, all_taken}
use Rattle.basis_entry.proofs.base.generator_entries.Goals as goal

pub generator_entry-requires-clause-some : goal.generator_entry-requires-clause-some
generator_entry-requires-clause-some c =
    let p : Presented = arc_value c.args.p.now in
    let at = c.loop-vector in
    let gens : List (List Term) = into_iter_items c.into_iter-vector-iterator.result in
    let steps : into_iter_items at.vector-iterator ≡ c.in-Some.vector ∷ into_iter_items c.next.new.self = c.in-Some.ensures.steps.0 in
    let split : at.yielded ++ c.in-Some.vector ∷ into_iter_items c.next.new.self ≡ gens = ap (λ (r : List (List Term)). at.yielded ++ r) (sym steps)
    ∙ at.invariant.split in
    let are : AreGenerators p gens = search rules in
    next_some p gens at.yielded (into_iter_items c.next.new.self) c.in-Some.vector split are

pub generator_entry-requires-clause-member : goal.generator_entry-requires-clause-member
generator_entry-requires-clause-member c =
    let p : Presented = arc_value c.args.p.now in
    let at = c.loop-vector in
    let gens : List (List Term) = into_iter_items c.into_iter-vector-iterator.result in
    let steps : into_iter_items at.vector-iterator ≡ c.in-Some.vector ∷ into_iter_items c.next.new.self = c.in-Some.ensures.steps.0 in
    let split : at.yielded ++ c.in-Some.vector ∷ into_iter_items c.next.new.self ≡ gens = ap (λ (r : List (List Term)). at.yielded ++ r) (sym steps)
    ∙ at.invariant.split in
    let are : AreGenerators p gens = search rules in
    next_member p gens at.yielded (into_iter_items c.next.new.self) c.in-Some.vector split are

pub generator_entry-requires-clause-over : goal.generator_entry-requires-clause-over
generator_entry-requires-clause-over c =
    let p : Presented = arc_value c.args.p.now in
    let at = c.loop-vector in
    let gens : List (List Term) = into_iter_items c.into_iter-vector-iterator.result in
    let steps : into_iter_items at.vector-iterator ≡ c.in-Some.vector ∷ into_iter_items c.next.new.self = c.in-Some.ensures.steps.0 in
    let split : at.yielded ++ c.in-Some.vector ∷ into_iter_items c.next.new.self ≡ gens = ap (λ (r : List (List Term)). at.yielded ++ r) (sym steps)
    ∙ at.invariant.split in
    let are : AreGenerators p gens = search rules in
    let own : IsPresented p = search rules in
    next_over p gens at.yielded (into_iter_items c.next.new.self) c.in-Some.vector split are own

pub overflow_add-number : goal.overflow_add-number
overflow_add-number c =
    let p : Presented = arc_value c.args.p.now in
    let at = c.loop-vector in
    let gens : List (List Term) = into_iter_items c.into_iter-vector-iterator.result in
    let steps : into_iter_items at.vector-iterator ≡ c.in-Some.vector ∷ into_iter_items c.next.new.self = c.in-Some.ensures.steps.0 in
    let split : at.yielded ++ c.in-Some.vector ∷ into_iter_items c.next.new.self ≡ gens = ap (λ (r : List (List Term)). at.yielded ++ r) (sym steps)
    ∙ at.invariant.split in
    let are : AreGenerators p gens = search rules in
    let own : IsPresented p = search rules in
    let few = next_few p gens at.yielded (into_iter_items c.next.new.self) c.in-Some.vector split are own in
    omega (arith, few, at.invariant.number)

pub loop-vector-preserved : goal.loop-vector-preserved
loop-vector-preserved c =
    let p : Presented = arc_value c.args.p.now in
    let at = c.loop-vector in
    let steps : into_iter_items at.vector-iterator ≡ c.in-Some.vector ∷ into_iter_items c.next.new.self = c.in-Some.ensures.steps.0 in
    let one = c.in-Some.ensures.steps.1 in
    let pushed : map arc_value c.push.new.self.items ≡ map arc_value at.made.items ++ arc_value c.in_ok-generator_entry.field-0 ∷ [] =
    ap (map arc_value) c.in_ok-push.ensures.items ∙ map-append arc_value at.made.items (c.in_ok-generator_entry.field-0 ∷ []) in
    let own : IsOfGenerator p (length at.yielded) c.in-Some.vector (arc_value c.in_ok-generator_entry.field-0) =
    rw (← at.invariant.number) c.in_ok-generator_entry.ensures in
    record {
      split = append_assoc at.yielded (c.in-Some.vector ∷ []) (into_iter_items c.next.new.self) ∙ ap (λ (r : List (List Term)). at.yielded ++ r) (sym steps)
          ∙ at.invariant.split;
      left = omega (arith, ap length steps, one, at.invariant.left);
      number = omega (arith, at.invariant.number, length-append at.yielded (c.in-Some.vector ∷ []));
      are = subst (λ (es : List BasisEntry). AreOfGenerators p (at.yielded ++ c.in-Some.vector ∷ []) es) (sym pushed)
          (of_more p at.yielded (map arc_value at.made.items) c.in-Some.vector (arc_value c.in_ok-generator_entry.field-0) at.invariant.are own);
    }

pub returns : goal.returns
returns c =
    let p : Presented = arc_value c.args.p.now in
    let at = c.loop-vector in
    let gens : List (List Term) = into_iter_items c.into_iter-vector-iterator.result in
    let are : AreGenerators p gens = search rules in
    let own : IsPresented p = search rules in
    all_taken p gens at.yielded (into_iter_items at.vector-iterator) (map arc_value at.made.items) own are at.invariant.split (sym at.invariant.left
    ∙ c.in-None.ensures.steps.0) at.invariant.are
