use Rattle.std.proofs.Common.{rules, ◌≡◌, ◌∙◌, ap, sym, subst, arith, inl, inr, ◌∷◌, [], ◌+◌, ◌<◌, ◌≤◌, length, false, true, ℤ, Ok, FitsSigned}
use mir.Syntax.{w128}
use Rattle.std.proofs.lemmas.Int.{to_z-of_z}
use Rattle.std.specs.Option.{is_some}
use Rattle.std.specs.List.{AllByRecursion}
use Rattle.flat_cert.specs.Weights.{weight, IsBeyond}
use Rattle.flat_cert.specs.Adding.{found, weight_at, weight_in, IsSmall, IsWith, IsTotal, Adds}
use Rattle.flat_cert.proofs.Weights.{weight_own, abs_some}
use Rattle.flat_cert.proofs.Entries.{small_found, sorted_distinct, too_many}
use Rattle.flat_cert.proofs.Adding.{added_sum, added_weight, none_is, few_inserted, all_inserted}
use Rattle.flat_cert.proofs.totals.Totals.add.Goals as goal
use Rattle.flat_cert.proofs.totals.Totals.add.Goals.{else-is_none-via-then-is_none+else-len, else-is_none-via-else-is_none}

pub returns-then-len : goal.returns-then-len
returns-then-len c =
    let k : FitsSigned w128 c.args.k = search rules in
    let es = c.self.inside.places.entries in
    let before : c.copied-before.result ≡ found es c.args.at = c.copied-before.ensures ∙ c.get.ensures.value in
    let none = sym before ∙ none_is c.copied-before.result c.if-is_none.ensures in
    subst (λ es. IsBeyond (λ x. weight_at es x + weight ((c.args.k, c.args.at) ∷ []) x)) c.self.view_is
    (too_many es c.args.at (λ x. weight_at es x + weight ((c.args.k, c.args.at) ∷ []) x) c.self.invariant
    (sorted_distinct (Rattle.std.specs.Map.keys_of es) c.len.ensures.ordered) none
    (omega (arith, c.if-len.true, c.len.ensures.len))
    (omega (arith, weight_own c.args.k c.args.at, abs_some c.args.k c.requires.nonzero)) (λ y. omega arith))

pub total_with-requires : goal.total_with-requires
total_with-requires c =
    let before : c.copied-before.result ≡ found c.self.inside.places.entries c.args.at = c.copied-before.ensures ∙ c.get.ensures.value in
    record { small = subst IsSmall (sym before) (small_found c.self.inside.places.entries c.args.at c.self.invariant.all) }

pub returns-in_default : goal.returns-in_default
returns-in_default c =
    let k : FitsSigned w128 c.args.k = search rules in
    let es = c.self.inside.places.entries in
    let before : c.copied-before.result ≡ found es c.args.at = c.copied-before.ensures ∙ c.get.ensures.value in
    let heavy = simp to_z-of_z at c.in_default.ensures in
    subst (λ es. IsBeyond (λ x. weight_at es x + weight ((c.args.k, c.args.at) ∷ []) x)) c.self.view_is
    (inr (inl (c.args.at, omega (arith, heavy, ap weight_in before, weight_own c.args.k c.args.at))))

pub invariant_of-self-2 : goal.invariant_of-self-2
invariant_of-self-2 c =
    let k : FitsSigned w128 c.args.k = search rules in
    let es = c.self.inside.places.entries in
    let before : c.copied-before.result ≡ found es c.args.at = c.copied-before.ensures ∙ c.get.ensures.value in
    let is : IsWith c.copied-before.result c.args.k c.in-Some.after = simp to_z-of_z at c.in-Some.ensures in
    let total : IsTotal (c.args.at, c.in-Some.after) = record {
      place = c.requires.place;
      some = omega (arith, is.weight, abs_some c.args.k c.requires.nonzero);
      most = is.small.most;
      small = is.small.small;
    } in
    let room : is_some c.copied-before.result ≡ false → length es < 1000000 = λ none. elim c.else-is_none.branch [
      | else-is_none-via-then-is_none+else-len w ↦ omega (arith, w.if-len.false, w.len.ensures.len)
      | else-is_none-via-else-is_none w ↦ let wrong : true ≡ false = sym w.if-is_none.ensures ∙ none in absurd cc
    ] in
    record {
      all = subst (AllByRecursion IsTotal) (sym c.in_ok-insert.ensures.entries) (all_inserted es c.args.at c.in-Some.after c.self.invariant.all total);
      few = few_inserted (length es) (length c.insert.new.self.entries) c.copied-before.result
          (c.in_ok-insert.ensures.len ∙ ap (λ o. length es + (Rattle.std.proofs.Common.cond (is_some o) 0 1)) (c.in_ok-insert.ensures.old ∙ sym before))
          c.self.invariant.few room;
    }

pub returns : goal.returns
returns c =
    let k : FitsSigned w128 c.args.k = search rules in
    let es = c.self.inside.places.entries in
    let before : c.copied-before.result ≡ found es c.args.at = c.copied-before.ensures ∙ c.get.ensures.value in
    let is : IsWith c.copied-before.result c.args.k c.in-Some.after = simp to_z-of_z at c.in-Some.ensures in
    let here : IsWith (found es c.args.at) c.args.k c.in-Some.after = subst (λ o. IsWith o c.args.k c.in-Some.after) before is in
    subst (λ es. Adds es ((c.args.k, c.args.at) ∷ []) c.insert.new.self.entries (Ok tt)) c.self.view_is (
      added_sum es c.insert.new.self.entries c.args.at c.args.k c.in-Some.after here c.in_ok-insert.ensures.updates.0,
      added_weight es c.insert.new.self.entries c.args.at c.args.k c.in-Some.after here c.in_ok-insert.ensures.updates.0,
    )
