use Rattle.std.proofs.Common.{rules, ◌≡◌, ◌∙◌, ap, sym, subst, cond, arith, inl, inr, ◌∷◌, [], ◌+◌, ◌<◌, length, false, true, Ok, FitsSigned}
use mir.Syntax.{w128}
use Rattle.std.proofs.lemmas.Int.{to_z-of_z}
use Rattle.std.specs.Option.{is_some}
use Rattle.std.specs.List.{AllByRecursion}
use Rattle.flat_cert.specs.Weights.{weight, IsBeyond}
use Rattle.flat_cert.specs.Adding.{found, weight_at, weight_in, IsSmall, IsWith, IsTotal, Adds}
use Rattle.flat_cert.proofs.Weights.{weight_own, abs_some}
use Rattle.flat_cert.proofs.Entries.{small_found, too_many}
use Rattle.flat_cert.proofs.Adding.{added_sum, added_weight, none_is, few_inserted}
use Rattle.flat_making.specs.declared.handed.Pair.{Pair}
use Rattle.flat_making.specs.Pairs.{place_of, places_of}
use Rattle.flat_making.proofs.Pairs.{found_at, length_places, all_inserted, sorted_apart, updated}
use Rattle.flat_making.proofs.handed.Handed.hand.Goals as goal
use Rattle.flat_making.proofs.handed.Handed.hand.Goals.{else-is_none-via-then-is_none+else-len, else-is_none-via-else-is_none}

pub returns-then-len : goal.returns-then-len
returns-then-len c =
    let k : FitsSigned w128 c.args.k = search rules in
    let es = c.self.inside.pairs.entries in
    let x : Pair = record { entry = c.args.entry; t = c.args.t } in
    let before : c.copied-before.result ≡ found (places_of es) (place_of x) = c.copied-before.ensures ∙ c.get.ensures.value ∙ sym (found_at es x) in
    let none = sym before ∙ none_is c.copied-before.result c.if-is_none.ensures in
    subst (λ ts. IsBeyond (λ y. weight_at ts y + weight ((c.args.k, place_of x) ∷ []) y)) c.self.view_is
    (too_many (places_of es) (place_of x) (λ y. weight_at (places_of es) y + weight ((c.args.k, place_of x) ∷ []) y) c.self.invariant
    (sorted_apart es c.len.ensures.ordered) none
    (omega (arith, c.if-len.true, c.len.ensures.len, length_places es))
    (omega (arith, weight_own c.args.k (place_of x), abs_some c.args.k c.requires)) (λ y. omega arith))

pub total_with-requires : goal.total_with-requires
total_with-requires c =
    let es = c.self.inside.pairs.entries in
    let x : Pair = record { entry = c.args.entry; t = c.args.t } in
    let before : c.copied-before.result ≡ found (places_of es) (place_of x) = c.copied-before.ensures ∙ c.get.ensures.value ∙ sym (found_at es x) in
    record { small = subst IsSmall (sym before) (small_found (places_of es) (place_of x) c.self.invariant.all) }

pub returns-in_default : goal.returns-in_default
returns-in_default c =
    let k : FitsSigned w128 c.args.k = search rules in
    let es = c.self.inside.pairs.entries in
    let x : Pair = record { entry = c.args.entry; t = c.args.t } in
    let before : c.copied-before.result ≡ found (places_of es) (place_of x) = c.copied-before.ensures ∙ c.get.ensures.value ∙ sym (found_at es x) in
    let heavy = simp to_z-of_z at c.in_default.ensures in
    subst (λ ts. IsBeyond (λ y. weight_at ts y + weight ((c.args.k, place_of x) ∷ []) y)) c.self.view_is
    (inr (inl (place_of x, omega (arith, heavy, ap weight_in before, weight_own c.args.k (place_of x)))))

pub invariant_of-self-2 : goal.invariant_of-self-2
invariant_of-self-2 c =
    let k : FitsSigned w128 c.args.k = search rules in
    let es = c.self.inside.pairs.entries in
    let x : Pair = record { entry = c.args.entry; t = c.args.t } in
    let before : c.copied-before.result ≡ found (places_of es) (place_of x) = c.copied-before.ensures ∙ c.get.ensures.value ∙ sym (found_at es x) in
    let is : IsWith c.copied-before.result c.args.k c.in-Some.after = simp to_z-of_z at c.in-Some.ensures in
    let total : IsTotal (place_of x, c.in-Some.after) = record {
      place = search rules;
      some = omega (arith, is.weight, abs_some c.args.k c.requires);
      most = is.small.most;
      small = is.small.small;
    } in
    let room : is_some c.copied-before.result ≡ false → length (places_of es) < 1000000 = λ none. elim c.else-is_none.branch [
      | else-is_none-via-then-is_none+else-len w ↦ omega (arith, w.if-len.false, w.len.ensures.len, length_places es)
      | else-is_none-via-else-is_none w ↦ let wrong : true ≡ false = sym w.if-is_none.ensures ∙ none in absurd cc
    ] in
    let count : length (places_of c.insert.new.self.entries) ≡ length (places_of es) + cond (is_some c.copied-before.result) 0 1 =
    omega (
      arith,
      length_places c.insert.new.self.entries,
      length_places es,
      c.in_ok-insert.ensures.len
          ∙ ap (λ o. length es + cond (is_some o) 0 1) (c.in_ok-insert.ensures.old ∙ sym c.get.ensures.value ∙ sym c.copied-before.ensures),
    ) in
    record {
      all = subst (λ ts. AllByRecursion IsTotal (places_of ts)) (sym c.in_ok-insert.ensures.entries)
          (all_inserted es x c.in-Some.after c.self.invariant.all total);
      few = few_inserted (length (places_of es)) (length (places_of c.insert.new.self.entries)) c.copied-before.result count c.self.invariant.few room;
    }

pub returns : goal.returns
returns c =
    let k : FitsSigned w128 c.args.k = search rules in
    let es = c.self.inside.pairs.entries in
    let new = c.insert.new.self.entries in
    let x : Pair = record { entry = c.args.entry; t = c.args.t } in
    let before : c.copied-before.result ≡ found (places_of es) (place_of x) = c.copied-before.ensures ∙ c.get.ensures.value ∙ sym (found_at es x) in
    let is : IsWith c.copied-before.result c.args.k c.in-Some.after = simp to_z-of_z at c.in-Some.ensures in
    let here : IsWith (found (places_of es) (place_of x)) c.args.k c.in-Some.after = subst (λ o. IsWith o c.args.k c.in-Some.after) before is in
    let updates = updated es new x c.in-Some.after c.in_ok-insert.ensures.updates.0 in
    subst (λ ts. Adds ts ((c.args.k, place_of x) ∷ []) (places_of new) (Ok tt)) c.self.view_is (
      added_sum (places_of es) (places_of new) (place_of x) c.args.k c.in-Some.after here updates,
      added_weight (places_of es) (places_of new) (place_of x) c.args.k c.in-Some.after here updates,
    )
