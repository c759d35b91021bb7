use Rattle.std.proofs.Common.{arith, rules, sym, ap, ◌≡◌, ◌<◌, ◌^◌, ℕ, Option, length, subst}
use Rattle.module_vec.specs.declared.places.Term.{Term}
use Rattle.pair_book.specs.Fellows.{component_at, FindsLast}
use Rattle.pair_book.specs.LogEntries.{Logged, logged}
use Rattle.pair_book.proofs.log.Log.last_fellow.Goals as goal

pub last-requires : goal.last-requires
last-requires c =
    let small : c.lead-component.result.at.c < 2 ^ 8 = search rules in
    omega (arith, small, c.self.invariant.links.components)

pub returns : goal.returns
returns c =
    let own = c.lead-component.result.at.c in
    let small : own < 2 ^ 8 = search rules in
    let P : Logged → ℕ → Option ℕ → Type 0 = λ l k o. FindsLast (component_at l.entries) (length l.entries) k o in
    let found = subst (λ (o : Option ℕ). P (logged c.self.inside) own o) (sym c.last.ensures) (c.self.invariant.links.ends own small) in
    let is : own ≡ component_at c.args.self.now.entries c.args.at = ap (λ (t : Term). t.at.c) c.lead-component.ensures.is in
    subst (λ (l : Logged). P l (component_at c.args.self.now.entries c.args.at) c.last.result) c.self.view_is
    (subst (λ (k : ℕ). P (logged c.self.inside) k c.last.result) is found)
