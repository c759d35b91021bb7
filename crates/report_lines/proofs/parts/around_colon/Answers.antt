use Rattle.std.proofs.Common.{[], ◌∷◌, Some, None}
use Rattle.std.proofs.lemmas.Bool.Decides.{Decides-eqb}
use Rattle.std.proofs.lemmas.Slice.Eq.{strip_suffix_is}
use Rattle.report_lines.proofs.Pairs.{no_colon, no_space_before, no_space_after, around_read}
use Rattle.report_lines.proofs.parts.around_colon.Goals as goal

pub returns-in_err-front : goal.returns-in_err-front
returns-in_err-front c = rw c.from_residual.ensures (no_colon c.args.text.now c.in_err-front.ensures.parts)

pub returns-in_err-before : goal.returns-in_err-before
returns-in_err-before c =
    rw c.from_residual-in_err-before.ensures (no_space_before c.args.text.now c.in_ok-front.front.now c.in_ok-front.rest.now c.in_ok-front.ensures.parts
    (strip_suffix_is Decides-eqb c.in_ok-front.front.now (32 ∷ []) None c.in_err-before.ensures.cases))

pub returns-in_err-after : goal.returns-in_err-after
returns-in_err-after c =
    rw c.from_residual-in_err-after.ensures (no_space_after c.args.text.now c.in_ok-front.front.now c.in_ok-front.rest.now c.in_ok-front.ensures.parts
    c.in_err-after.ensures)

pub returns : goal.returns
returns c =
    around_read c.args.text.now c.in_ok-front.front.now c.in_ok-front.rest.now c.in_ok-before.before.now c.in_ok-after.after.now c.in_ok-front.ensures.parts
    (strip_suffix_is Decides-eqb c.in_ok-front.front.now (32 ∷ []) (Some c.in_ok-before.before) c.in_ok-before.ensures.cases) c.in_ok-after.ensures
