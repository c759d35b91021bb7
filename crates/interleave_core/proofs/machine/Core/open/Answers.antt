use Rattle.std.proofs.Common.{arith, refl, sym, ap, subst, ◌∙◌, List}
use Rattle.std.specs.Arc.{arc_value}
use Rattle.module_vec.specs.declared.places.Term.{Term}
use Rattle.basis_entry.specs.Entries.{vectors_of}
use Rattle.pair_book.specs.Books.{Held}
use Rattle.interleave_core.specs.Inner.{HasLeads}
use Rattle.interleave_core.specs.Invariants.{IsCore}
use Rattle.interleave_core.specs.Machine.{State}
use Rattle.interleave_core.proofs.Keeping.{core_opened}
use Rattle.interleave_core.proofs.machine.Core.open.Goals as goal

pub invariant_of-result-2 : goal.invariant_of-result-2
invariant_of-result-2 c =
    let s : State = record { book = c.in_ok-book.book; hands = c.in_ok-idle_hands.field-0.items; sessions = c.args.sessions.items } in
    record {
      core = subst (λ (h : Held). IsCore (record { book = h; hands = c.in_ok-idle_hands.field-0.items; sessions = c.args.sessions.items }))
          (sym c.book.view_is) (core_opened (arc_value c.args.p.now) c.args.limits c.args.sessions.items s c.requires.sessions
          (record { book = c.in_ok-book.ensures; hands = c.in_ok-idle_hands.ensures; sessions = refl }) c.known.ensures);
      source = c.in_ok-try_clone.ensures ∙ sym (ap (λ (h : Held). h.source) (c.book.view_is ∙ c.in_ok-book.ensures.is));
      stuck = λ e. absurd (cc);
      leads = subst (λ (h : Held). HasLeads (vectors_of h.entries) c.new.result) (sym c.book.view_is) (subst (λ (xs : List Term).
          HasLeads (vectors_of c.in_ok-book.book.entries) xs) (sym c.new.ensures) (record { within = omega arith; are = refl }));
    }
