use Rattle.std.proofs.Common.{rules, ◌≡◌, ◌++◌, ◌-◌, ◌+◌, ℕ, ◌<◌, List, [], ◌∷◌, sym, subst}
use Rattle.gen_input.specs.declared.TheConstants.{QUESTIONS}
use Rattle.gen_input.specs.Texts.{line_text, line_from, after_line, lines_text}
use Rattle.gen_input.proofs.LineTexts.{one_more, all_lines}
use Rattle.gen_input.proofs.texts.put_session.Goals as goal

pub loop-preserved : goal.loop-preserved
loop-preserved c =
    let all : List ℕ = c.args.out.now.items ++ lines_text QUESTIONS c.args.draws.state in
    let state : ℕ = c.loop.draws.state in
    let below : c.loop.counter < QUESTIONS = search rules in
    let line : c.put_line.new.out.items ≡ c.loop.out.items ++ line_text (line_from state) = search rules in
    let end : c.push.new.self.items ≡ c.put_line.new.out.items ++ 10 ∷ [] = search rules in
    let next : c.draw_line.new.draws.state ≡ after_line state = search rules in
    subst (λ (s : ℕ). c.push.new.self.items ++ lines_text (QUESTIONS - (c.loop.counter + 1)) s ≡ all) (sym next)
    (one_more QUESTIONS c.loop.counter state c.loop.out.items c.put_line.new.out.items c.push.new.self.items all below c.loop.invariant line end)

pub returns : goal.returns
returns c =
    all_lines QUESTIONS c.loop.counter c.loop.draws.state c.loop.out.items (c.args.out.now.items ++ lines_text QUESTIONS c.args.draws.state) (search rules)
    c.loop.invariant
