use Rattle.std.proofs.Common.{rules, ◌≡◌, ◌<◌, ◌≤◌, length, sym, ap, subst, ◌∙◌}
use Rattle.basis_entry.specs.Seals.{item_count}
use Rattle.session_core.specs.Questions.{CanBeAsked}
use Rattle.session_core.specs.Meaning.{AllAreTrivial, MapExtends}
use Rattle.session_core.specs.declared.kept.Kept.{Kept}
use Rattle.session_core.specs.Sessions.{SessionState, last_front}
use Rattle.session_core.proofs.Keeping.{all_read, kept_more, same_question, tag_trivial, tag_extends, reply_to}
use Rattle.session_core.proofs.sessions.Session.ask.Goals as goal

pub invariant_of-self : goal.invariant_of-self
invariant_of-self g c =
    let old : SessionState = record {
      number = c.self.inside.number;
      questions = c.self.inside.questions.items;
      base = c.self.inside.base;
      kept = c.self.inside.replies.items;
    } in
    let room : length old.kept < length old.questions = subst (λ (s : SessionState). length s.kept < length s.questions) (sym c.self.view_is) c.requires.next in
    let le : last_front old ≤ item_count (g.F.Front.entries c.args.list.now) (g.F.Front.seal c.args.list.now) =
    subst (λ (s : SessionState). last_front s ≤ item_count (g.F.Front.entries c.args.list.now) (g.F.Front.seal c.args.list.now)) (sym c.self.view_is)
    c.requires.front in
    let front : c.of.result.front ≡ item_count (g.F.Front.entries c.args.list.now) (g.F.Front.seal c.args.list.now) =
    ap (λ (k : Kept). k.front) c.of.ensures ∙ c.front-front.ensures.is in (
      kept_more old c.of.result c.push_reserved.new.self.items c.self.invariant.0 room (subst (λ n. last_front old ≤ n) (sym front) le)
          c.push_reserved.ensures.items,
      search rules,
    )

pub verdict-requires-clause-question : goal.verdict-requires-clause-question
verdict-requires-clause-question g c = all_read (CanBeAsked c.args.p.now) c.args.self.now.questions (length c.args.self.now.kept) c.asked.result.now
    c.requires.questions c.asked.ensures

pub returns-clause-reply : goal.returns-clause-reply
returns-clause-reply g c = λ q read.
    reply_to c.args.p.now (g.F.Front.entries c.args.list.now) (g.F.VecList.vectors c.args.list.now) (g.F.Front.seal c.args.list.now) q c.asked.result.now
    c.in_ok-verdict.verdict c.of-2.result c.front-front.result
    (g.met.F.Front.vectors_are c.args.list.now) (same_question c.args.self.now.questions (length c.args.self.now.kept) c.asked.result.now q
    c.asked.ensures read)
    c.in_ok-verdict.ensures.is c.of-2.ensures c.front-front.ensures.is

pub returns-clause-trivial : goal.returns-clause-trivial
returns-clause-trivial g c = λ q read trivial.
    let tag = sym (ap (λ (k : Kept). k.tag) c.of-2.ensures) ∙ trivial in
    subst (AllAreTrivial c.args.p.now) (same_question c.args.self.now.questions (length c.args.self.now.kept) c.asked.result.now q c.asked.ensures read)
    (c.in_ok-verdict.ensures.trivial (tag_trivial c.in_ok-verdict.verdict tag))

pub returns-clause-extends : goal.returns-clause-extends
returns-clause-extends g c = λ q read extends.
    let tag = sym (ap (λ (k : Kept). k.tag) c.of-2.ensures) ∙ extends in
    subst (MapExtends c.args.p.now) (same_question c.args.self.now.questions (length c.args.self.now.kept) c.asked.result.now q c.asked.ensures read)
    (c.in_ok-verdict.ensures.extends (tag_extends c.in_ok-verdict.verdict tag))
