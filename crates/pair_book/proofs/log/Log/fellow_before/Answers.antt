use Rattle.std.proofs.Common.{arith, sym, ◌<◌, ℕ, Option, length, subst}
use Rattle.pair_book.specs.Fellows.{component_at, FindsLast}
use Rattle.pair_book.specs.LogEntries.{Logged, logged}
use Rattle.pair_book.proofs.log.Log.fellow_before.Goals as goal

pub previous-requires : goal.previous-requires
previous-requires c =
    let within = subst (λ (l : Logged). c.args.at < length l.entries) (sym c.self.view_is) c.requires in
    omega (arith, within, c.self.invariant.links.count)

pub returns : goal.returns
returns c =
    let within = subst (λ (l : Logged). c.args.at < length l.entries) (sym c.self.view_is) c.requires in
    let P : Logged → Option ℕ → Type 0 = λ l o. FindsLast (component_at l.entries) c.args.at (component_at l.entries c.args.at) o in
    let found = subst (λ (o : Option ℕ). P (logged c.self.inside) o) (sym c.previous.ensures) (c.self.invariant.links.each c.args.at within) in
    subst (λ (l : Logged). P l c.previous.result) c.self.view_is found
