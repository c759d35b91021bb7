use Rattle.std.proofs.Common.{◌≡◌, ◌++◌, ◌∙◌, codes, sym, arith, append-nil, rules}
use Rattle.vector_text.specs.Spelling.{monomial_text}
use Rattle.vector_text.proofs.Writing.{factors_end}
use Rattle.vector_text.proofs.monomials.put_mono.Goals as goal

pub returns-then-begun : goal.returns-then-begun
returns-then-begun c =
    let e = factors_end c.args.p.now.names c.loop-variable.out.items c.loop-variable.begun c.args.m.now c.loop-variable.variable _ c.requires (omega arith)
    c.loop-variable.invariant in
    sym (append-nil c.loop-variable.out.items) ∙ rw c.if-begun.true at e

pub returns : goal.returns
returns c =
    let e = factors_end c.args.p.now.names c.loop-variable.out.items c.loop-variable.begun c.args.m.now c.loop-variable.variable _ c.requires (omega arith)
    c.loop-variable.invariant in
    let f : c.loop-variable.out.items ++ codes "1" ≡ c.args.out.now.items ++ monomial_text c.args.p.now.names c.args.m.now = rw c.if-begun.false at e in
    rw (← f) (search rules)
