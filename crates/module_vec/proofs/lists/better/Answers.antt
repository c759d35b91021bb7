use Rattle.std.proofs.Common.{rules, arith, ◌≡◌, subst, FitsSigned, to_z, of_z}
use Rattle.std.specs.Prelude.{◌≤ℤ◌, ◌<ℤ◌}
use mir.Syntax.{w128}
use borrow.Author.Differences.{ints}
use Rattle.std.proofs.lemmas.Int.{to_z-of_z}
use Rattle.module_vec.specs.Reducers.{Reduces}
use Rattle.module_vec.specs.Scanning.{FindsCandidate}
use Rattle.module_vec.proofs.Scans.{below_from_test, not_reduced, not_better, first_one, better_one, read_lead, with_number}
use Rattle.module_vec.proofs.lists.better.Goals as goal
use Rattle.module_vec.proofs.lists.better.Goals.{in_default-via-in-Some+else-other-lead, in_default-via-in_default}

pub returns-then-not-reduces : goal.returns-then-not-reduces
returns-then-not-reduces c =
    let is = read_lead c.args.entry.now c.terms.result.now c.requires.others c.requires.lead c.index-terms-0.result c.requires.is c.terms.ensures.is
    c.index-terms-0.is in
    let other : Reduces c.index-terms-0.result c.args.at.now → ⊥ = λ r. let yes = c.reduces.ensures.1 r in cc in
    λ b n found. not_reduced b c.args.entry.now c.requires.others c.index-terms-0.result c.args.at.now is other c.args.best found

pub returns-in-Some : goal.returns-in-Some
returns-in-Some c =
    let is = read_lead c.args.entry.now c.terms.result.now c.requires.others c.requires.lead c.index-terms-0.result c.requires.is c.terms.ensures.is
    c.index-terms-0.is in
    let k : FitsSigned w128 c.index-terms-0.result.k = search rules in
    let l : FitsSigned w128 c.in-Some.other.coefficient = search rules in
    let le : c.in-Some.other.coefficient ≤ℤ c.index-terms-0.result.k = omega (arith, ints, c.if-other-lead.true) in
    λ b n found. not_better b c.args.entry.now c.requires.others c.index-terms-0.result c.args.at.now is c.in-Some.other le
    (subst (FindsCandidate b c.args.at.now) c.in-Some.is found)

pub returns-in_default : goal.returns-in_default
returns-in_default c =
    let is = read_lead c.args.entry.now c.terms.result.now c.requires.others c.requires.lead c.index-terms-0.result c.requires.is c.terms.ensures.is
    c.index-terms-0.is in
    let k : FitsSigned w128 c.index-terms-0.result.k = search rules in
    let own : Reduces c.index-terms-0.result c.args.at.now = c.reduces.ensures.0 c.if-not-reduces.false in
    let same : to_z w128 (of_z w128 c.index-terms-0.result.k) ≡ c.index-terms-0.result.k = to_z-of_z w128 c.index-terms-0.result.k k in
    elim c.in_default.branch [
      | in_default-via-in-Some+else-other-lead w ↦
          let l : FitsSigned w128 w.in-Some.other.coefficient = search rules in
          let test = simp to_z-of_z at w.if-other-lead.false in
          let less : c.index-terms-0.result.k <ℤ w.in-Some.other.coefficient = below_from_test w.in-Some.other.coefficient c.index-terms-0.result.k test in
          λ b n found. with_number b c.args.entry.now c.requires.others c.index-terms-0.result c.args.at.now c.args.number
          (to_z w128 (of_z w128 c.index-terms-0.result.k)) n same (better_one b c.args.entry.now c.requires.others c.index-terms-0.result c.args.at.now is own
          w.in-Some.other less (subst (FindsCandidate b c.args.at.now) w.in-Some.is found))
      | in_default-via-in_default w ↦ λ b n found. with_number b c.args.entry.now c.requires.others c.index-terms-0.result c.args.at.now c.args.number
          (to_z w128 (of_z w128 c.index-terms-0.result.k)) n same (first_one b c.args.entry.now c.requires.others c.index-terms-0.result c.args.at.now is own
          (subst (FindsCandidate b c.args.at.now) w.in_default.is found))
    ]
