use Rattle.std.proofs.Common.{rules, ◌≡◌, List, subst}
use Rattle.std.specs.Prelude.{◌↔◌, IsTrue}
use Rattle.basis_entry.specs.Entries.{BasisEntry, vectors_of}
use Rattle.cert_checker.specs.States.{AreNear}
use Rattle.saved_basis.proofs.NextLines.{gen_turn, sum_turn, no_turn}
use Rattle.saved_basis.proofs.reader.Reader.is_in_turn.Goals as goal

pub returns-in-Gen : goal.returns-in-Gen
returns-in-Gen c = gen_turn c.args.self.now c.known.ensures c.has_generators.result c.args.made.now c.in-Gen.negated c.in-Gen.is c.has_generators.ensures

pub returns-then-has_generators : goal.returns-then-has_generators
returns-then-has_generators c =
    let list : c.of.result.entries ≡ c.args.self.now.entries = search rules in
    let near : IsTrue c.are_near.result ↔ AreNear (vectors_of c.args.self.now.entries) c.in-Sum.steps =
    subst (λ ss. IsTrue c.are_near.result ↔ AreNear (vectors_of c.args.self.now.entries) ss) c.steps.ensures
    (subst (λ (es : List BasisEntry). IsTrue c.are_near.result ↔ AreNear (vectors_of es) c.steps.result.now) list c.are_near.ensures) in
    sum_turn c.args.self.now c.known.ensures c.are_near.result c.args.made.now c.in-Sum.steps c.in-Sum.is
    (c.has_generators-in-Sum.ensures.0 c.if-has_generators.true) near

pub returns-else-has_generators : goal.returns-else-has_generators
returns-else-has_generators c =
    no_turn c.args.self.now c.known.ensures c.has_generators-in-Sum.result c.args.made.now c.in-Sum.steps c.in-Sum.is c.if-has_generators.false
    c.has_generators-in-Sum.ensures
