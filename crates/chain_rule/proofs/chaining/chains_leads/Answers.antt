use Rattle.std.proofs.Common.{rules, ◌≡◌, arith, sym, ap, ◌∙◌, true, nat_eq, FitsSigned}
use mir.Syntax.{w128}
use Rattle.std.proofs.lemmas.Int.{to_z-of_z}
use Rattle.laurent_terms.specs.Monomials.{divides}
use Rattle.module_vec.specs.Reducers.{Reduces}
use Rattle.strong_pairs.specs.Pairs.{meeting_place}
use Rattle.chain_rule.proofs.chaining.chains_leads.Goals.{then-by-first, else-by-first}
use Rattle.chain_rule.proofs.chaining.chains_leads.Goals as goal

pub returns-then-divides : goal.returns-then-divides
returns-then-divides c =
    let by : FitsSigned w128 c.args.by.now.k = search rules in
    let first : FitsSigned w128 c.args.first.now.k = search rules in
    let second : FitsSigned w128 c.args.second.now.k = search rules in
    let last = simp to_z-of_z at c.divides_multiple.ensures in
    elim c.if-by-first.branch [
      | then-by-first w ↦
          let made = c.in-Some.ensures.made in
          let reduces : Reduces c.args.by.now (meeting_place c.args.first.now c.args.second.now) =
          (w.if-by-first.true, ap (divides c.args.by.now.at.m) (sym made.1) ∙ sym w.divides.ensures ∙ sym w.value-is ∙ c.if-divides.true) in
          (λ yes. record { reach = made.0; reduces = reduces; coefficient = last.0 yes }, λ h. last.1 h.coefficient)
      | else-by-first w ↦ absurd (let yes : nat_eq c.args.by.now.at.c c.args.first.now.at.c ≡ true = sym w.value-is ∙ c.if-divides.true
          in let no = w.if-by-first.false in grind arith)
    ]
