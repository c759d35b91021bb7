use Rattle.std.proofs.Common.{◌≡◌, Some, length, slice_get, rules, arith, sym, ap, subst}
use Rattle.report_trimming.specs.Used.{NamedInProof}
use Rattle.report_trimming.proofs.tests.can_be_trimmed.Goals as goal

pub returns : goal.returns
returns c = λ truth. record {
  from = search rules;
  proofs = λ k n. (let lt = c.replies_are_below.ensures c.if-not-replies_are_below.false k (subst (λ rs. NamedInProof rs k) (sym c.replies.ensures) n) in
      omega (arith, lt, ap length c.entries-entries.ensures));
  recipes = λ j k e is n. c.recipes_are_lower.ensures truth j k e (subst (λ es. slice_get es j ≡ Some e) (sym c.entries-entries.ensures) is) n;
}
