use Rattle.std.proofs.Common.{sym, ◌∙◌}
use Rattle.std.proofs.lemmas.Slice.Eq.{bytes_eq-Decides}
use Rattle.vector_text.proofs.MonomialTexts.{one_read}
use Rattle.vector_text.proofs.monomials.mono_of.Goals as goal

pub returns-then-eq : goal.returns-then-eq
returns-then-eq c =
    let same = (bytes_eq-Decides c.args.text.now c.as_slice.result.now).0 (sym c.eq.ensures ∙ c.if-eq.true) in
    one_read c.args.p.now.names c.args.text.now c.one.result (same ∙ c.as_slice.ensures) c.one.ensures.is c.one.ensures.monomial
