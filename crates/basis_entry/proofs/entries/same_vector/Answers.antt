use Rattle.std.proofs.Common.{◌≡◌, Decides, rules}
use Rattle.std.proofs.lemmas.Slice.Eq.{slice_eq-Decides}
use Rattle.module_vec.specs.declared.places.Term.{Term}
use Rattle.module_vec.specs.contracts.places.TermPartialEq.TheImpl.{eq-value}
use Rattle.basis_entry.proofs.entries.same_vector.Goals as goal

term_decides : (a b : Term) → Decides (eq-value.it a b) (a ≡ b)
term_decides a b = search rules

pub returns : goal.returns
returns c = slice_eq-Decides term_decides c.args.vector.now c.args.other.now c.eq.result
    (rw (c.terms.ensures.is, c.terms-2.ensures.is) at c.eq.ensures)
