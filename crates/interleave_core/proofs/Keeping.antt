-- What holds of the machine between events is kept by each of them.
use Rattle.std.proofs.Common.{ℕ, ◌+◌, ◌-◌, ◌≤◌, ◌≡◌, ◌≢◌, ◌⊎◌, inl, inr, refl, sym, ap, ◌∙◌, List, length, length-set, set, Some}
use Rattle.std.proofs.Common.{subst, slice_get}
use Rattle.std.proofs.lemmas.List.{length-replicate}
use Rattle.std.specs.List.{AllByRecursion}
use Rattle.std.specs.Prelude.{Result, Ok, Err, OnOk, OnErr}
use Rattle.presentation.specs.Presented.{Presented}
use Rattle.outcomes.specs.declared.tasks.Task.{Task}
use Rattle.basis_entry.specs.Base.{AreBase}
use Rattle.basis_entry.specs.Seals.{item_count}
use Rattle.pair_book.specs.declared.limits.Limits.{Limits}
use Rattle.pair_book.specs.Books.{Held, IsBook}
use Rattle.session_core.specs.declared.kept.Kept.{Kept}
use Rattle.session_core.specs.Questions.{CanBeAsked}
use Rattle.session_core.specs.Sessions.{SessionState, AreRising}
use Rattle.interleave_core.specs.declared.TheConstants.{WORKERS}
use Rattle.interleave_core.specs.declared.hands.Hand.{Hand}
use Rattle.interleave_core.specs.declared.hands.Hand.TheVariants.{Idle}
use Rattle.interleave_core.specs.Machine.{State, Turns, Asks, WorkerStep, SessionStep}
use Rattle.interleave_core.specs.Askers.{AreReplies, IsAsker}
use Rattle.interleave_core.specs.Invariants.{IsTaskOf, IsHand, IsCore}
use Rattle.interleave_core.specs.Opening.{IsNewSession, AreNewSessions, IsOpened}
use Rattle.interleave_core.proofs.Following.{Follows, turn_follows, hand_next, task_next, hand_follows, not_open}
use Rattle.interleave_core.proofs.Lists.{set_here, set_apart, set_still, same_or_apart, all_the_same}
use Rattle.interleave_core.proofs.Replying.{asker_follows, asker_asked}

-- an element of a list one of whose places was set
written : {A : Type 0} (xs : List A) (i j : ℕ) (x z : A) → slice_get (set xs i x) j ≡ Some z
    → ((i ≡ j) × (x ≡ z)) ⊎ ((i ≢ j) × (slice_get xs j ≡ Some z))
written {A} xs i j x z at = elim (same_or_apart i j) [
  | inl e ↦ inl (e, set_here xs i x z (subst (λ (k : ℕ). slice_get (set xs i x) k ≡ Some z) (sym e) at))
  | inr ne ↦ inr (ne, sym (set_apart xs i j x ne) ∙ at)
]

-- ---- a worker's turn

module _ (s : State) (i : ℕ) (c : IsCore s) (x : Hand) (found : slice_get s.hands i ≡ Some x) (new : Held) (y : Hand) (turns : Turns s.book x new y)
    (now : IsBook new) where
  hand : IsHand s.book x
  hand = c.hands i x found

  follows : Follows s.book new x
  follows = turn_follows s.book new x y c.book hand turns

  hands : (m : ℕ) (z : Hand) → slice_get (set s.hands i y) m ≡ Some z → IsHand new z
  hands m z at = elim (written s.hands i m y z at) [
    | inl (_, e) ↦ subst (IsHand new) e (hand_next s.book new x y c.book hand turns)
    | inr (ne, old) ↦ hand_follows s.book new x z follows (c.hands m z old) (λ u mine its. ne (c.apart i m x z u found old its mine))
  ]

  -- the worker's next task is none of another worker
  others : (m : ℕ) (z : Hand) (u : Task) → i ≢ m → slice_get s.hands m ≡ Some z → IsTaskOf y u → IsTaskOf z u → ⊥
  others m z u ne at mine its = elim (task_next s.book new x y u turns mine) [
    | inl was ↦ ne (c.apart i m x z u found at was its)
    | inr open_yet ↦ not_open s.book z u (c.hands m z at) its open_yet
  ]

  apart : (m n : ℕ) (a b : Hand) (u : Task) → slice_get (set s.hands i y) m ≡ Some a → slice_get (set s.hands i y) n ≡ Some b
      → IsTaskOf a u → IsTaskOf b u → m ≡ n
  apart m n a b u p q of also = elim (written s.hands i m y a p) [
    | inl (e, is) ↦ elim (written s.hands i n y b q) [
      | inl (d, _) ↦ sym e ∙ d
      | inr (ne, at) ↦ absurd (others n b u ne at (subst (λ (z : Hand). IsTaskOf z u) (sym is) of) also)
    ]
    | inr (ne, at) ↦ elim (written s.hands i n y b q) [
      | inl (_, is) ↦ absurd (others m a u ne at (subst (λ (z : Hand). IsTaskOf z u) (sym is) also) of)
      | inr (_, other) ↦ c.apart m n a b u at other of also
    ]
  ]

  pub worker_keeps : IsCore (record { book = new; hands = set s.hands i y; sessions = s.sessions })
  worker_keeps = record {
    book = now;
    count = length-set s.hands i y ∙ c.count;
    hands = hands;
    apart = apart;
    sessions = λ k z at. asker_follows s.book new x follows (k + 1) z (c.sessions k z at);
  }

-- ---- a session's turn

pub session_keeps : (s : State) (i : ℕ) (c : IsCore s) (old new : SessionState) → slice_get s.sessions i ≡ Some old
    → Asks s.book.source s.book.entries s.book.seal old new → IsCore (record s { sessions = set s.sessions i new })
session_keeps s i c old new found asks = record {
  book = c.book;
  count = c.count;
  hands = c.hands;
  apart = c.apart;
  sessions = λ k z at. elim (written s.sessions i k new z at) [
    | inl (e, is) ↦ subst (λ (m : ℕ). IsAsker s.book (m + 1) z) e (subst (IsAsker s.book (i + 1)) is
        (asker_asked s.book (i + 1) old new c.book.lawful.within (c.sessions i old found) asks))
    | inr (_, was) ↦ c.sessions k z was
  ];
}

-- ---- the machine is opened

new_asker : (p : Presented) (h : Held) (n : ℕ) (s : SessionState) → h.source ≡ p → AreBase p h.entries → h.base ≡ length h.entries → IsNewSession p n s
    → IsAsker h n s
new_asker p h n s source base count is = record {
  number = is.number;
  base = is.base h.entries base ∙ sym count;
  questions = subst (λ (q : Presented). AllByRecursion (CanBeAsked q) s.questions) (sym source) is.questions;
  replies = subst (AreReplies h.source h.entries h.seal s.questions) (sym is.kept) (λ i q k asked kept. absurd (cc));
  fronts = subst (λ (ks : List Kept). AllByRecursion (λ (k : Kept). k.front ≤ item_count h.entries h.seal) ks) (sym is.kept) tt;
  rising = subst (AreRising s.base) (sym is.kept) tt;
}

pub core_opened : (p : Presented) (limits : Limits) (ss : List SessionState) (s : State) → AreNewSessions p ss → IsOpened p limits ss s → IsBook s.book
    → IsCore s
core_opened p limits ss s new is b = record {
  book = b;
  count = ap length is.hands ∙ length-replicate WORKERS Idle;
  hands = λ n x at. subst (IsHand s.book) (idle n x at) tt;
  apart = λ m n x y u p q of also. absurd (subst (λ (z : Hand). IsTaskOf z u) (sym (idle m x p)) of);
  sessions = λ i t at. new_asker p s.book (i + 1) t (ap (λ (h : Held). h.source) is.book.is) is.book.base (ap (λ (h : Held). h.base) is.book.is)
      (new i t (subst (λ (l : List SessionState). slice_get l i ≡ Some t) is.sessions at));
}
  where
    idle : (n : ℕ) (x : Hand) → slice_get s.hands n ≡ Some x → Idle ≡ x
    idle n x at = all_the_same WORKERS n Idle x (subst (λ (l : List Hand). slice_get l n ≡ Some x) is.hands at)

pub worker_steps : (s t : State) → s ≡ t → (n : ℕ) (x : Hand) → slice_get s.hands (n - 1) ≡ Some x → (new : Held) (y : Hand) → Turns s.book x new y
    → WorkerStep t n (record { book = new; hands = set s.hands (n - 1) y; sessions = s.sessions })
worker_steps s t e n x found new y turns =
    subst (λ (z : State). WorkerStep z n (record { book = new; hands = set s.hands (n - 1) y; sessions = s.sessions })) e
    (record { before = x; found = found; after = y; turns = turns; is = refl })

-- ---- a turn of a session, that may have run out of memory

by_book : (s : State) (old new : SessionState) (p : Presented) (list : Held) → p ≡ s.book.source → list ≡ s.book → Asks p list.entries list.seal old new
    → Asks s.book.source s.book.entries s.book.seal old new
by_book s old new p list pe le asks = subst (λ (x : Held). Asks s.book.source x.entries x.seal old new) le
    (subst (λ (q : Presented). Asks q list.entries list.seal old new) pe asks)

module _ {A E : Type 0} (s : State) (old new : SessionState) (p : Presented) (list : Held) (pe : p ≡ s.book.source) (le : list ≡ s.book) where
  pub ask_keeps : (r : Result A E) (i : ℕ) → IsCore s → slice_get s.sessions i ≡ Some old → OnOk r (Asks p list.entries list.seal old new)
      → OnErr r (new ≡ old) → IsCore (record s { sessions = set s.sessions i new })
  ask_keeps (Ok a) i c found ok err = session_keeps s i c old new found (by_book s old new p list pe le ok)
  ask_keeps (Err a) i c found ok err = subst (λ (ss : List SessionState). IsCore (record s { sessions = ss }))
      (sym (set_still s.sessions i old found) ∙ ap (set s.sessions i) (sym err)) c

  pub ask_steps : (r : Result A E) (t : State) → s ≡ t → (n : ℕ) → slice_get s.sessions (n - 1) ≡ Some old → OnOk r (Asks p list.entries list.seal old new)
      → OnOk r (SessionStep t n (record s { sessions = set s.sessions (n - 1) new }))
  ask_steps (Ok a) t e n found ok = subst (λ (z : State). SessionStep z n (record s { sessions = set s.sessions (n - 1) new })) e
      (record { before = old; found = found; after = new; asks = by_book s old new p list pe le ok; is = refl })
  ask_steps (Err a) t e n found ok = tt
