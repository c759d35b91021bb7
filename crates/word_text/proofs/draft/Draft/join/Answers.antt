use Rattle.std.proofs.Common.{◌≡◌, ◌++◌, refl, arith}
use Rattle.word_text.specs.Program.{word_of}
use Rattle.word_text.specs.Powers.{power_of}
use Rattle.word_text.proofs.Algebra.{length-power}
use Rattle.word_text.proofs.Drafts.{keeps_more, held_more, product_seen}
use Rattle.word_text.proofs.draft.Draft.join.Goals as goal

pub product-requires-clause-within : goal.product-requires-clause-within
product-requires-clause-within c =
    let h = c.in_ok-factor.ensures in
    rw (
      h.2,
      h.0.1 c.self.inside.product_at c.self.invariant.product_held,
      length-power c.args.raise.negative c.args.raise.times (word_of c.self.inside.program c.self.inside.atom_at),
    ) (rw (← c.self.view_is) at c.requires)

pub invariant_of-self-in_err-self-inside : goal.invariant_of-self-in_err-self-inside
invariant_of-self-in_err-self-inside c =
    let h = c.in_ok-factor.ensures in
    let k = keeps_more c.self.inside.program c.power.new.self c.product.new.self h.0 c.in_err-self-inside.ensures in
    held_more _ _ _ _ _ _ _ c.self.invariant k.0 (omega (arith, k.0, c.self.invariant.product_held)) (omega (arith, k.0, c.self.invariant.atom_held))

pub invariant_of-self-2 : goal.invariant_of-self-2
invariant_of-self-2 c =
    let h = c.in_ok-factor.ensures in
    let p = c.in_ok-self-inside.ensures in
    let k = keeps_more c.self.inside.program c.power.new.self c.product.new.self h.0 p.0 in
    held_more _ _ _ _ _ _ _ c.self.invariant k.0 p.1 (omega (arith, k.0, c.self.invariant.atom_held))

pub returns : goal.returns
returns c =
    let h = c.in_ok-factor.ensures in
    let p = c.in_ok-self-inside.ensures in
    let k = keeps_more c.self.inside.program c.power.new.self c.product.new.self h.0 p.0 in
    let joined : word_of c.product.new.self c.in_ok-self-inside.field-0 ≡ word_of c.self.inside.program c.self.inside.product_at
    ++ power_of c.args.raise.negative c.args.raise.times (word_of c.self.inside.program c.self.inside.atom_at) =
    rw (p.2, h.2, h.0.1 c.self.inside.product_at c.self.invariant.product_held) refl in
    rw (← c.self.view_is) (product_seen c.self.inside.program c.product.new.self c.self.inside.brackets.items c.self.inside.product_at
    c.in_ok-self-inside.field-0 c.self.inside.atom_at _ c.self.invariant k joined)
