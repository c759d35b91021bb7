use Rattle.std.proofs.Common.{◌<◌, ◌≤◌, length, subst, arith}
use Rattle.std.proofs.lemmas.List.{length-map}
use Rattle.cert_checker.specs.States.{IsInTurn}
use Rattle.report_lines.specs.declared.lines.Made.TheVariants.{Sum}
use Rattle.basis_entry.specs.Entries.{BasisEntry, vectors_of}
use Rattle.saved_basis.proofs.Making.{same_count}
use Rattle.saved_basis.proofs.reader.Reader.entry.Goals as goal

pub generator-requires-clause-turn : goal.generator-requires-clause-turn
generator-requires-clause-turn c =
    let turn : length (vectors_of c.args.self.now.entries) < length c.requires.gens =
    subst (IsInTurn c.requires.gens (vectors_of c.args.self.now.entries)) c.in-Gen.is c.requires.may.turn in
    omega (
      arith,
      turn,
      length-map c.args.self.now.entries (λ (e : BasisEntry). e.vector),
      same_count c.args.self.now.source c.args.self.now.generators c.known.ensures.base c.requires.gens c.requires.generators,
    )

pub sum-requires-clause-turn : goal.sum-requires-clause-turn
sum-requires-clause-turn c =
    let turn : IsInTurn c.requires.gens (vectors_of c.args.self.now.entries) (Sum c.in-Sum.steps) =
    subst (IsInTurn c.requires.gens (vectors_of c.args.self.now.entries)) c.in-Sum.is c.requires.may.turn in
    let le : length c.requires.gens ≤ length (vectors_of c.args.self.now.entries) = turn.0 in
    omega (
      arith,
      le,
      length-map c.args.self.now.entries (λ (e : BasisEntry). e.vector),
      same_count c.args.self.now.source c.args.self.now.generators c.known.ensures.base c.requires.gens c.requires.generators,
    )
