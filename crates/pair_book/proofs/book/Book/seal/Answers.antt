use Rattle.std.proofs.Common.{sym, subst, List}
use Rattle.basis_entry.specs.Entries.{BasisEntry, vectors_of}
use Rattle.basis_entry.specs.Seals.{IsStrongBasis}
use Rattle.pair_book.specs.Inner.{held_of}
use Rattle.pair_book.proofs.Strength.{strong}
use Rattle.pair_book.proofs.book.Book.seal.Goals as goal

pub make-requires-clause-strong : goal.make-requires-clause-strong
make-requires-clause-strong c = subst (λ (es : List BasisEntry). IsStrongBasis c.self.inside.source.value (vectors_of es)) (sym c.entries.ensures.is)
    (strong (held_of c.self.inside) c.self.invariant.book c.in_default.ensures)
