-- From a completed log and answered sessions to a legal report.
use Rattle.std.proofs.Common.{◌≡◌, ◌≢◌, ℕ, ◌+◌, ◌≤◌, inl, inr, List, [], ◌∷◌, ◌++◌, length, length-append, length-take, take, Option, Some, None, slice_get, sym, ap, subst}
use Rattle.std.proofs.Common.{◌∙◌, arith, refl}
use Rattle.std.specs.List.{AllByRecursion}
use Rattle.std.proofs.lemmas.List.{take-append-le, length-map}
use Rattle.presentation.specs.Presented.{Presented}
use Rattle.outcomes.specs.declared.ends.End.{End}
use Rattle.session_text.specs.declared.question.Question.{Question}
use Rattle.basis_entry.specs.Entries.{BasisEntry}
use Rattle.basis_entry.specs.Seals.{Seal, item_count}
use Rattle.pair_book.specs.declared.limits.Limits.{Limits}
use Rattle.pair_book.specs.Books.{Held, IsBook}
use Rattle.pair_book.specs.Logs.{IsLawful}
use Rattle.session_core.specs.declared.kept.Kept.{Kept}
use Rattle.session_core.specs.Questions.{CanBeAsked}
use Rattle.session_core.specs.Replies.{IsReply}
use Rattle.session_core.specs.Sessions.{SessionState, AreRising, last_front}
use Rattle.completion_solo.specs.Ends.{Ends}
use Rattle.basis_entry.specs.Items.{seal_below}
use Rattle.legal_report.specs.Legal.{IsLegal, IsLegalSession, AreWithinLimits}
use Rattle.legal_report.specs.Gathering.{questions_of, HasAsked, IsAsker, AreAskers, CanGoOn, IsAnsweredOn, AreAnsweredOn, IsCompleted, IsEnded, AreReplies, GoesOn}
use Rattle.legal_report.proofs.Fronts.{split_get, map_get, last_low, all_get, seal_low, seal_all, take_items}

-- ---- items that go on

pub completed_goes_on : (p : Presented) (old : Held) (end : End) (new : Held) → IsCompleted p old end new
    → GoesOn old.entries old.seal new.entries new.seal
completed_goes_on p old end new done = record { more = done.more; entries = done.entries; sealed = done.sealed }

more_items : (es : List BasisEntry) (seal : Option Seal) (n : ℕ) → n ≤ length es → n ≤ item_count es seal
more_items es None n le = le
more_items es (Some s) n le = omega (arith, le)

-- there are no fewer items
grows : (es : List BasisEntry) (seal : Option Seal) (es2 : List BasisEntry) (seal2 : Option Seal) → GoesOn es seal es2 seal2
    → item_count es seal ≤ item_count es2 seal2
grows es None es2 seal2 on =
    let long = length-append es on.more in
    let grown : length es2 ≡ length (es ++ on.more) = ap length on.entries in
    more_items es2 seal2 (length es) (omega (arith, long, grown))
grows es (Some s) es2 seal2 on =
    let kept = on.sealed (λ none. absurd cc) in
    rw (kept.0, kept.1) (omega arith)

-- a reply is by the same items of those that go on
stands : (p : Presented) (es : List BasisEntry) (seal : Option Seal) (es2 : List BasisEntry) (seal2 : Option Seal) (q : Question) (k : Kept)
    → GoesOn es seal es2 seal2 → k.front ≤ item_count es seal → IsReply p (take k.front es) (seal_below es seal k.front) q k
    → IsReply p (take k.front es2) (seal_below es2 seal2 k.front) q k
stands p es None es2 seal2 q k on le reply =
    let long = length-append es on.more in
    let grown : length es2 ≡ length (es ++ on.more) = ap length on.entries in
    let same : take k.front es2 ≡ take k.front es = ap (take k.front) on.entries ∙ take-append-le k.front es on.more le in
    let before : seal_below es None k.front ≡ None = seal_low es None k.front le in
    let after : seal_below es2 seal2 k.front ≡ None = seal_low es2 seal2 k.front (omega (arith, long, grown, le)) in
    subst (λ (s : Option Seal). IsReply p (take k.front es2) s q k) (sym after)
    (subst (λ (xs : List BasisEntry). IsReply p xs None q k) (sym same) (subst (λ (s : Option Seal). IsReply p (take k.front es) s q k) before reply))
stands p es (Some s) es2 seal2 q k on le reply =
    let kept = on.sealed (λ none. absurd cc) in
    subst (λ (z : Option Seal). IsReply p (take k.front es2) (seal_below es2 z k.front) q k) (sym kept.1)
    (subst (λ (xs : List BasisEntry). IsReply p (take k.front xs) (seal_below xs (Some s) k.front) q k) (sym kept.0) reply)

all_low : (m n : ℕ) (ks : List Kept) → m ≤ n → AllByRecursion (λ k. k.front ≤ m) ks → AllByRecursion (λ k. k.front ≤ n) ks
all_low m n [] le all = tt
all_low m n (k ∷ ks) le all = (let here : k.front ≤ m = all.0 in omega (arith, here, le), all_low m n ks le all.1)

-- who has asked over some items has asked over those that go on behind them
pub asked_before : (p : Presented) (least : ℕ) (es : List BasisEntry) (seal : Option Seal) (es2 : List BasisEntry) (seal2 : Option Seal) (n : ℕ)
    (s : SessionState) → GoesOn es seal es2 seal2 → HasAsked p least es seal n s → HasAsked p least es2 seal2 n s
asked_before p least es seal es2 seal2 n s on asked = record {
  number = asked.number;
  base = asked.base;
  questions = asked.questions;
  replies = λ i q k here at. stands p es seal es2 seal2 q k on (all_get (λ k. k.front ≤ item_count es seal) s.kept i k asked.fronts at)
      (asked.replies i q k here at);
  fronts = all_low (item_count es seal) (item_count es2 seal2) s.kept (grows es seal es2 seal2 on) asked.fronts;
}

-- who has asked a book has asked the completed one
pub asker_before : (p : Presented) (old : Held) (end : End) (new : Held) (n : ℕ) (s : SessionState) → IsCompleted p old end new → IsAsker old n s
    → IsAsker new n s
asker_before p old end new n s done asked =
    let on = asked_before old.source old.base old.entries old.seal new.entries new.seal n s (completed_goes_on p old end new done) asked in
    rw (done.source, done.base) on

pub askers_before : (p : Presented) (old : Held) (end : End) (new : Held) (ss : List SessionState) → IsCompleted p old end new → AreAskers old ss
    → AreAskers new ss
askers_before p old end new ss done asked = λ i s at. asker_before p old end new (i + 1) s done (asked i s at)

-- ---- replies

-- a reply by all items
by_all : (p : Presented) (es : List BasisEntry) (seal : Option Seal) (q : Question) (k : Kept) → k.front ≡ item_count es seal → IsReply p es seal q k
    → IsReply p (take k.front es) (seal_below es seal k.front) q k
by_all p es seal q k e reply =
    subst (λ (s : Option Seal). IsReply p (take k.front es) s q k) (sym (seal_all es seal k.front e))
    (subst (λ (xs : List BasisEntry). IsReply p xs seal q k) (sym (take_items es seal k.front e)) reply)

-- each reply of an answered session is right
replies : (p : Presented) (h : Held) (s t : SessionState) (n : ℕ) → h.source ≡ p → IsAsker h n s → IsAnsweredOn p h.entries h.seal s t
    → AreReplies p h.entries h.seal s.questions t.kept
replies p h s t n source asker on i q k asked at =
    let kept : t.kept ≡ s.kept ++ on.more = ap (λ (x : SessionState). x.kept) on.is in
    elim (split_get s.kept on.more i k (subst (λ (ks : List Kept). slice_get ks i ≡ Some k) kept at)) [
      | inl old ↦ subst (λ (x : Presented). IsReply x (take k.front h.entries) (seal_below h.entries h.seal k.front) q k) source
          (asker.replies i q k asked old)
      | inr new ↦ by_all p h.entries h.seal q k (all_get (λ k. k.front ≡ item_count h.entries h.seal) on.more new.0 k on.by_all new.2)
          (on.replies new.0 q k (subst (λ (m : ℕ). slice_get s.questions m ≡ Some q) new.1 asked) new.2)
    ]

-- ---- sessions

-- an answered session is legal
session_legal : (p : Presented) (h : Held) (s t : SessionState) (n : ℕ) → h.source ≡ p → IsAsker h n s → IsAnsweredOn p h.entries h.seal s t
    → IsLegalSession p h.base h.entries h.seal n s.questions t
session_legal p h s t n source asker on =
    let questions : t.questions ≡ s.questions = ap (λ (x : SessionState). x.questions) on.is in
    let kept : t.kept ≡ s.kept ++ on.more = ap (λ (x : SessionState). x.kept) on.is in
    let base : t.base ≡ h.base = ap (λ (x : SessionState). x.base) on.is ∙ asker.base in
    let rising : AreRising h.base t.kept = subst (λ (b : ℕ). AreRising b t.kept) base on.session.rising in
    let asked : AllByRecursion (CanBeAsked p) s.questions = subst (λ (x : Presented). AllByRecursion (CanBeAsked x) s.questions) source asker.questions in
    let long = length-append s.kept on.more in
    let many : length t.kept ≡ length (s.kept ++ on.more) = ap length kept in
    let few : length t.questions ≡ length s.questions = ap length questions in
    record {
      number = ap (λ (x : SessionState). x.number) on.is ∙ asker.number;
      questions = questions;
      replied = record {
        asked = subst (AllByRecursion (CanBeAsked p)) (sym questions) asked;
        count = omega (arith, long, many, few, on.count);
        each = λ i q k here at. replies p h s t n source asker on i q k (subst (λ (qs : List Question). slice_get qs i
            ≡ Some q) questions here) at;
      };
      rising = rising;
    }

-- ---- the report

pub legal : (p : Presented) (limits : Limits) (end : End) (h : Held) (ss ts : List SessionState) → IsEnded p limits end h → IsBook h → AreAskers h ss
    → AreAnsweredOn p h.entries h.seal ss ts
    → IsLegal p limits (questions_of ss) (record { pres = p; entries = h.entries; seal = h.seal; end = end; sessions = ts })
legal p limits end h ss ts ended is askers answered = record {
  pres = refl;
  base = h.base;
  lawful = subst (λ (x : Presented). IsLawful x h.base h.entries) ended.source is.lawful;
  within = subst (λ (l : Limits). AreWithinLimits l h.entries) ended.limited (record { entries = is.within; terms = is.terms; steps = is.steps });
  ends = ended.ends;
  seal = ended.seal;
  count = answered.count ∙ sym (length-map ss (λ (s : SessionState). s.questions));
  sessions = λ i qs t here at.
      let found = map_get (λ (s : SessionState). s.questions) ss i qs here in
      subst (λ (xs : List Question). IsLegalSession p h.base h.entries h.seal (i + 1) xs t) found.2
      (session_legal p h found.0 t (i + 1) ended.source (askers i found.0 found.1) (answered.each i found.0 t found.1 at));
}

-- a completed book has ended
pub ended : (p : Presented) (limits : Limits) (old : Held) (end : End) (new : Held) → old.source ≡ p → old.limits ≡ limits → IsCompleted p old end new
    → IsEnded p limits end new
ended p limits old end new source limited done =
    let limits_are : new.limits ≡ limits = done.limits ∙ limited in
    record {
      source = done.source ∙ source;
      limited = limits_are;
      ends = subst (λ (l : Limits). Ends p l new.entries end) limits_are done.ends;
      seal = done.seal;
    }

-- a session that asks the book can go on by all of its items
pub can_go_on : (p : Presented) (h : Held) (s : SessionState) (n : ℕ) → h.source ≡ p → IsBook h → IsAsker h n s → CanGoOn p h.entries h.seal s
can_go_on p h s n source is asker =
    let asked : AllByRecursion (CanBeAsked p) s.questions = subst (λ (x : Presented). AllByRecursion (CanBeAsked x) s.questions) source asker.questions in
    let within : h.base ≤ length h.entries = is.lawful.within in
    let base : s.base ≡ h.base = asker.base in
    let low : s.base ≤ item_count h.entries h.seal = more_items h.entries h.seal s.base (omega (arith, within, base)) in
    (asked, last_low s.base (item_count h.entries h.seal) s.kept low asker.fronts)
