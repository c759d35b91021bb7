use Rattle.std.proofs.Common.{rules, ◌≡◌, arith, sym, ◌∙◌, true, nat_eq, FitsSigned}
use Rattle.std.proofs.lemmas.Int.{to_z-of_z}
use mir.Syntax.{w128}
use Rattle.strong_pairs.specs.Covering.{Divides}
use Rattle.module_vec.specs.Reducers.{Reduces}
use Rattle.strong_pairs.specs.Pairs.{meeting_place}
use Rattle.strong_pairs.proofs.covering.covers_leads.Goals.{then-by-first, else-by-first, then-divides_common_multiple, else-divides_common_multiple}
use Rattle.strong_pairs.proofs.covering.covers_leads.Goals as goal

pub returns-then-divides : goal.returns-then-divides
returns-then-divides c =
    let by : FitsSigned w128 c.args.by.now.k = search rules in
    let one : FitsSigned w128 c.args.first.now.k = search rules in
    let two : FitsSigned w128 c.args.second.now.k = search rules in
    let last = simp to_z-of_z at c.divides-then-divides.ensures.divides in
    elim c.if-divides_common_multiple.branch [
      | then-divides_common_multiple w ↦
          elim c.if-by-first.branch [
            | then-by-first v ↦
                let component : c.args.by.now.at.c ≡ c.args.first.now.at.c = search rules in
                let reduces : Reduces c.args.by.now (meeting_place c.args.first.now c.args.second.now) =
                (component, sym v.divides_common_multiple.ensures ∙ sym v.value-is ∙ w.if-divides_common_multiple.true) in
                let test = simp to_z-of_z at w.divides.ensures.divides in
                let first : Divides c.args.by.now.k c.args.first.now.k = test.0 (sym w.value-is ∙ c.if-divides.true) in
                ((λ yes. record { reduces = reduces; first = first; second = last.0 yes }), λ covers. last.1 covers.second)
            | else-by-first v ↦ absurd (let yes : nat_eq c.args.by.now.at.c c.args.first.now.at.c ≡ true = sym v.value-is ∙ w.if-divides_common_multiple.true
                in let no = v.if-by-first.false in grind arith)
          ]
      | else-divides_common_multiple w ↦ absurd (let yes : c.if-by-first.value ≡ true = sym w.value-is ∙ c.if-divides.true
          in let no = w.if-divides_common_multiple.false in cc)
    ]
