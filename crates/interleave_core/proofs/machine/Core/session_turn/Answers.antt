use Rattle.std.proofs.Common.{rules, arith, refl, ap, length, ◌≡◌, ◌+◌, ◌-◌, ◌≤◌, sym, subst, Some, slice_get}
use Rattle.std.proofs.lemmas.Option.{slice_get_read}
use Rattle.std.specs.List.{AllByRecursion}
use Rattle.presentation.specs.Presented.{Presented}
use Rattle.session_core.specs.Questions.{CanBeAsked}
use Rattle.interleave_core.specs.Machine.{State}
use Rattle.basis_entry.specs.Seals.{item_count}
use Rattle.pair_book.specs.Books.{Held}
use Rattle.session_core.specs.Sessions.{last_front}
use Rattle.interleave_core.specs.Inner.{state_in}
use Rattle.interleave_core.proofs.Keeping.{ask_keeps, ask_steps}
use Rattle.interleave_core.proofs.Replying.{last_within}
use Rattle.interleave_core.proofs.machine.Core.session_turn.Goals as goal

pub ask-requires-clause-front : goal.ask-requires-clause-front
ask-requires-clause-front c =
    let lo = c.requires.0 in
    let hi = c.requires.2 in
    let many : length c.self.inside.sessions.items ≡ length c.args.self.now.sessions = ap (λ (s : State). length s.sessions) c.self.view_is in
    let found : slice_get c.self.inside.sessions.items (c.args.number - 1) ≡ Some c.index_mut.result.now = slice_get_read c.self.inside.sessions.items
    (length c.self.inside.sessions.items) (c.args.number - 1) c.index_mut.result.now refl (omega (arith, lo, hi, many)) c.index_mut.ensures.value in
    let h : Held = c.self.inside.book in
    subst (λ (x : Held). last_front c.index_mut.result.now ≤ item_count x.entries x.seal) (sym c.over-list.ensures.list)
    (last_within h (c.args.number - 1 + 1) c.index_mut.result.now c.self.invariant.core.book.lawful.within
    (c.self.invariant.core.sessions (c.args.number - 1) c.index_mut.result.now found))

pub ask-requires-clause-questions : goal.ask-requires-clause-questions
ask-requires-clause-questions c =
    let lo = c.requires.0 in
    let hi = c.requires.2 in
    let many : length c.self.inside.sessions.items ≡ length c.args.self.now.sessions = ap (λ (s : State). length s.sessions) c.self.view_is in
    let found : slice_get c.self.inside.sessions.items (c.args.number - 1) ≡ Some c.index_mut.result.now = slice_get_read c.self.inside.sessions.items
    (length c.self.inside.sessions.items) (c.args.number - 1) c.index_mut.result.now refl (omega (arith, lo, hi, many)) c.index_mut.ensures.value in
    let source : c.deref.result.now ≡ c.self.inside.book.source = search rules in
    subst (λ (p : Presented). AllByRecursion (CanBeAsked p) c.index_mut.result.now.questions) (sym source)
    (c.self.invariant.core.sessions (c.args.number - 1) c.index_mut.result.now found).questions

pub invariant_of-self-2 : goal.invariant_of-self-2
invariant_of-self-2 c =
    let lo = c.requires.0 in
    let hi = c.requires.2 in
    let many : length c.self.inside.sessions.items ≡ length c.args.self.now.sessions = ap (λ (s : State). length s.sessions) c.self.view_is in
    let found : slice_get c.self.inside.sessions.items (c.args.number - 1) ≡ Some c.index_mut.result.now = slice_get_read c.self.inside.sessions.items
    (length c.self.inside.sessions.items) (c.args.number - 1) c.index_mut.result.now refl (omega (arith, lo, hi, many)) c.index_mut.ensures.value in
    let source : c.deref.result.now ≡ c.self.inside.book.source = search rules in
    record {
      core = ask_keeps (state_in c.self.inside) c.index_mut.result.now c.ask.new.session c.deref.result.now c.over-list.result.list.now source
          c.over-list.ensures.list c.ask.result (c.args.number - 1) c.self.invariant.core found c.ask.ensures.ok c.ask.ensures.err;
      source = c.self.invariant.source;
      leads = c.in_ok-catch_up.ensures.first;
      stuck = c.self.invariant.stuck;
    }

pub returns-clause-ok : goal.returns-clause-ok
returns-clause-ok c =
    let lo = c.requires.0 in
    let hi = c.requires.2 in
    let many : length c.self.inside.sessions.items ≡ length c.args.self.now.sessions = ap (λ (s : State). length s.sessions) c.self.view_is in
    let found : slice_get c.self.inside.sessions.items (c.args.number - 1) ≡ Some c.index_mut.result.now = slice_get_read c.self.inside.sessions.items
    (length c.self.inside.sessions.items) (c.args.number - 1) c.index_mut.result.now refl (omega (arith, lo, hi, many)) c.index_mut.ensures.value in
    let source : c.deref.result.now ≡ c.self.inside.book.source = search rules in
    ask_steps (state_in c.self.inside) c.index_mut.result.now c.ask.new.session c.deref.result.now c.over-list.result.list.now source
    c.over-list.ensures.list c.ask.result c.args.self.now c.self.view_is c.args.number found c.ask.ensures.ok
