use Rattle.std.proofs.Common.{rules, ◌≡◌, List, [], ◌∷◌, None, length, map, slice_get, sym, ap, subst, arith, refl}
use Rattle.std.specs.Arc.{arc_value}
use Rattle.presentation.specs.Presented.{IsPresented}
use Rattle.legal_report.proofs.Actors.{some_entry}
use Rattle.legal_report.proofs.gathering.is_of.Goals as goal

-- a list without a first item is empty
nothing : {X : Type 0} (xs : List X) → slice_get xs 0 ≡ None → xs ≡ []
nothing [] none = refl
nothing (x ∷ xs) none = absurd cc

pub returns-in-None : goal.returns-in-None
returns-in-None c = (
  λ t. absurd cc,
  λ h.
      let known : IsPresented c.args.p.now = search rules in
      let some = some_entry c.args.book.now (subst IsPresented (sym h.0) known) c.entries.ensures.book in
      let all : length (map arc_value c.entries.result.now) ≡ length c.args.book.now.entries = ap length c.entries.ensures.is in
      let none = nothing c.entries.result.now (sym c.in-None.ensures.value) in
      absurd (let n = ap (λ xs. length (map arc_value xs)) none in omega (arith, some, all, n)),
)
