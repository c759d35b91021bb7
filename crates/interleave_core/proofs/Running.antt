-- Runs one behind the other, and what they keep.
use Rattle.std.proofs.Common.{ℕ, ◌+◌, ◌-◌, ◌<◌, ◌≡◌, inl, inr, refl, sym, ap, ◌∙◌, List, [], ◌∷◌, ◌++◌, length, length-set, set, take}
use Rattle.std.proofs.Common.{Option, Some, subst, slice_get, append-nil, get_or}
use Rattle.std.proofs.lemmas.List.{append_assoc, take_more}
use Rattle.presentation.specs.Presented.{Presented}
use Rattle.session_text.specs.declared.question.Event.{Event}
use Rattle.session_text.specs.declared.question.Event.TheVariants.{Worker, Session}
use Rattle.basis_entry.specs.Entries.{BasisEntry}
use Rattle.basis_entry.specs.Seals.{Seal}
use Rattle.pair_book.specs.Books.{Held}
use Rattle.session_core.specs.declared.kept.Kept.{Kept}
use Rattle.session_core.specs.Sessions.{SessionState}
use Rattle.interleave_core.specs.Machine.{State, Asks, Step}
use Rattle.interleave_core.specs.Invariants.{IsCore}
use Rattle.interleave_core.specs.Runs.{Run, KeepsReplies, KeepsItems, Keeps}
use Rattle.interleave_core.proofs.Following.{states_change, turn_follows}
use Rattle.interleave_core.proofs.Lists.{set_found, set_apart, same_or_apart, same_some}

-- ---- runs

pub run_none : (s : State) → IsCore s → Run s [] s
run_none s c = (c, refl)

run_more : (old mid new : State) (es : List Event) (e : Event) → Run old es mid → Step mid e new → IsCore new → Run old (es ++ e ∷ []) new
run_more old mid new [] e (was, same) s c = let P : State → Type 0 = λ m. Step m e new in (was, (new, subst P same s, (c, refl)))
run_more old mid new (f ∷ es) e (was, h) s c = (was, (h.0, h.1, run_more h.0 mid new es e h.2 s c))

pub run_on : (a b c : State) (es fs : List Event) → Run a es b → Run b fs c → Run a (es ++ fs) c
run_on a b c [] fs (was, same) r = subst (λ (m : State). Run m fs c) same r
run_on a b c (e ∷ es) fs (was, h) r = (was, (h.0, h.1, run_on h.0 b c es fs h.2 r))

-- ---- items

items_on : (a b c : Held) → KeepsItems a b → KeepsItems b c → KeepsItems a c
items_on a b c x y = record {
  source = y.source ∙ x.source;
  limits = y.limits ∙ x.limits;
  base = y.base ∙ x.base;
  more = x.more ++ y.more;
  entries = y.entries ∙ (ap (λ (es : List BasisEntry). es ++ y.more) x.entries ∙ append_assoc a.entries x.more y.more);
  seal = elim x.seal [
    | inl none ↦ inl none
    | inr (p, s) ↦ elim y.seal [
      | inl none ↦ inl (sym s ∙ none)
      | inr (q, t) ↦ inr ((λ i. p i ++ q i), t ∙ s)
    ]
  ];
}

-- ---- what events keep

replies_same : (s : SessionState) → KeepsReplies s s
replies_same s = record { more = []; is = ap (λ (ks : List Kept). record s { kept = ks }) (sym (append-nil s.kept)) }

replies_on : (a b c : SessionState) → KeepsReplies a b → KeepsReplies b c → KeepsReplies a c
replies_on a b c x y = record {
  more = x.more ++ y.more;
  is =
      y.is
      ∙ (ap (λ (s : SessionState). record s { kept = s.kept ++ y.more }) x.is
      ∙ ap (λ (ks : List Kept). record a { kept = ks }) (append_assoc a.kept x.more y.more));
}

replies_asked : (a b : SessionState) (p : Presented) (es : List BasisEntry) (seal : Option Seal) → Asks p es seal a b → KeepsReplies a b
replies_asked a b p es seal (inl r) = record { more = r.reply ∷ []; is = r.is }
replies_asked a b p es seal (inr (_, e)) = subst (KeepsReplies a) (sym e) (replies_same a)

keeps_same : (s : State) → Keeps s s
keeps_same s = record { items = states_change s.book s.book refl; count = refl; sessions = λ n t at. (t, at, replies_same t) }

keeps_on : (a b c : State) → Keeps a b → Keeps b c → Keeps a c
keeps_on a b c x y = record {
  items = items_on a.book b.book c.book x.items y.items;
  count = y.count ∙ x.count;
  sessions = λ n s at.
      let m = x.sessions n s at in
      let l = y.sessions n m.0 m.1 in
      (l.0, l.1, replies_on s m.0 l.0 m.2 l.2);
}

step_keeps : (s t : State) (e : Event) → IsCore s → Step s e t → Keeps s t
step_keeps s t (Worker n) c w = record {
  items = (turn_follows s.book t.book w.before w.after c.book (c.hands (n - 1) w.before w.found) w.turns).items;
  count = ap (λ (z : State). length z.sessions) w.is;
  sessions = λ k a at. (a, ap (λ (z : State). slice_get z.sessions k) w.is ∙ at, replies_same a);
}
step_keeps s t (Session n) c w = record {
  items = subst (λ (h : Held). KeepsItems s.book h) (sym (ap (λ (z : State). z.book) w.is)) (states_change s.book s.book refl);
  count = ap (λ (z : State). length z.sessions) w.is ∙ length-set s.sessions (n - 1) w.after;
  sessions = λ k a at. elim (same_or_apart (n - 1) k) [
    | inl e ↦
        let same : w.before ≡ a = same_some w.before a (sym w.found ∙ subst (λ (m : ℕ). slice_get s.sessions m ≡ Some a) (sym e) at) in (
          w.after,
          ap (λ (z : State). slice_get z.sessions k) w.is ∙ subst (λ (m : ℕ). slice_get (set s.sessions (n - 1) w.after) m ≡ Some w.after) e
              (set_found s.sessions (n - 1) w.after w.before w.found),
          subst (λ (b : SessionState). KeepsReplies b w.after) same (replies_asked w.before w.after s.book.source s.book.entries s.book.seal w.asks),
        )
    | inr ne ↦ (a, ap (λ (z : State). slice_get z.sessions k) w.is ∙ (set_apart s.sessions (n - 1) k w.after ne ∙ at), replies_same a)
  ];
}

pub run_keeps : (old new : State) (es : List Event) → Run old es new → Keeps old new
run_keeps old new [] (c, e) = subst (Keeps old) (sym e) (keeps_same old)
run_keeps old new (e ∷ es) (c, h) = keeps_on old h.0 new (step_keeps old h.0 e c h.1) (run_keeps h.0 new es h.2)

-- one more of the events
pub run_next : (a b c : State) (es : List Event) (i : ℕ) (d : Event) → i < length es → Run a (take i es) b → Step b (get_or es i d) c → IsCore c
    → Run a (take (i + 1) es) c
run_next a b c es i d lt run step core =
    subst (λ (l : List Event). Run a l c) (sym (take_more es i d lt)) (run_more a b c (take i es) (get_or es i d) run step core)

pub step_count : (s t : State) (e : Event) → Step s e t → length t.sessions ≡ length s.sessions
step_count s t (Worker n) w = ap (λ (z : State). length z.sessions) w.is
step_count s t (Session n) w = ap (λ (z : State). length z.sessions) w.is ∙ length-set s.sessions (n - 1) w.after

pub ruleset playing = (run_none, run_next, step_count)
