-- Replies while the book goes on.
use Rattle.std.proofs.Common.{ℕ, ◌+◌, ◌<◌, ◌≤◌, ◌≡◌, inl, inr, arith, refl, sym, ap, ◌∙◌, List, [], ◌∷◌, ◌++◌, length, length-append, Bool}
use Rattle.std.proofs.Common.{true, false}
use Rattle.std.proofs.Common.{Option, Some, None, subst, take, slice_get}
use Rattle.std.specs.List.{AllByRecursion}
use Rattle.std.specs.Prelude.{nat_lt, cond}
use Rattle.std.proofs.lemmas.List.{take-append-le, take_all}
use Rattle.std.proofs.lemmas.Option.{slice_get_within}
use Rattle.presentation.specs.Presented.{Presented}
use Rattle.session_text.specs.declared.question.Question.{Question}
use Rattle.basis_entry.specs.Entries.{BasisEntry}
use Rattle.basis_entry.specs.Items.{seal_below}
use Rattle.basis_entry.specs.Seals.{Seal, item_count}
use Rattle.pair_book.specs.Books.{Held}
use Rattle.pair_work.proofs.Reading.{some_at, all_get, all_push, get_back, get_end}
use Rattle.session_core.specs.declared.kept.Kept.{Kept}
use Rattle.session_core.specs.Questions.{CanBeAsked}
use Rattle.session_core.specs.Replies.{IsReply}
use Rattle.session_core.specs.Sessions.{SessionState, AreRising, front_after, last_front}
use Rattle.interleave_core.specs.declared.hands.Hand.{Hand}
use Rattle.interleave_core.specs.Machine.{Answers, Asks}
use Rattle.interleave_core.specs.Askers.{IsAsker}
use Rattle.interleave_core.proofs.Following.{Follows}
use Rattle.interleave_core.proofs.Lists.{same_or_apart, same_some}

-- ---- items below a front

not_past : (a b : ℕ) → b ≤ a → nat_lt a b ≡ false
not_past a b le = grind (arith, le)

past : (a b : ℕ) → a < b → nat_lt a b ≡ true
past a b lt = grind (arith, lt)

seal_under : (es : List BasisEntry) (seal : Option Seal) (n : ℕ) → n ≤ length es → seal_below es seal n ≡ None
seal_under es seal n le = ap (λ (c : Bool). cond c seal None) (not_past (length es) n le)

seal_behind : (es : List BasisEntry) (seal : Option Seal) → seal_below es seal (item_count es seal) ≡ seal
seal_behind es None = seal_under es None (length es) (omega arith)
seal_behind es (Some s) = ap (λ (c : Bool). cond c (Some s) None) (past (length es) (length es + 1) (omega arith))

count_least : (es : List BasisEntry) (seal : Option Seal) → length es ≤ item_count es seal
count_least es None = omega arith
count_least es (Some s) = omega arith

count_unsealed : (es : List BasisEntry) (seal : Option Seal) → seal ≡ None → item_count es seal ≡ length es
count_unsealed es seal e = ap (item_count es) e

same_reply : (p q : Presented) (es fs : List BasisEntry) (s t : Option Seal) (asked : Question) (k : Kept) → p ≡ q → es ≡ fs → s ≡ t
    → IsReply p es s asked k → IsReply q fs t asked k
same_reply p q es fs s t asked k pq ef st is = subst (λ (z : Presented). IsReply z fs t asked k) pq
    (subst (λ (z : List BasisEntry). IsReply p z t asked k) ef (subst (λ (z : Option Seal). IsReply p es z asked k) st is))

-- ---- the book goes on

module _ (old new : Held) (x : Hand) (f : Follows old new x) where
  taken_on : (n : ℕ) → n ≤ length old.entries → take n old.entries ≡ take n new.entries
  taken_on n le = sym (ap (take n) f.items.entries ∙ take-append-le n old.entries f.items.more le)

  long_on : length old.entries ≤ length new.entries
  long_on = let l : length new.entries ≡ length (old.entries ++ f.items.more) = ap length f.items.entries in
      let a = length-append old.entries f.items.more in omega (arith, l, a)

  entries_still : f.items.more ≡ [] → old.entries ≡ new.entries
  entries_still e = sym (f.items.entries ∙ (ap (λ (m : List BasisEntry). old.entries ++ m) e ∙ nil old.entries))
    where
      nil : (es : List BasisEntry) → es ++ [] ≡ es
      nil [] = refl
      nil (e ∷ es) = ap (λ (l : List BasisEntry). e ∷ l) (nil es)

  reply_on : (q : Question) (k : Kept) → k.front ≤ item_count old.entries old.seal
      → IsReply old.source (take k.front old.entries) (seal_below old.entries old.seal k.front) q k
      → IsReply new.source (take k.front new.entries) (seal_below new.entries new.seal k.front) q k
  reply_on q k le is = elim f.items.seal [
    | inl none ↦
        let c = count_unsealed old.entries old.seal none in
        let low : k.front ≤ length old.entries = omega (arith, le, c) in
        let l = long_on in
        same_reply old.source new.source (take k.front old.entries) (take k.front new.entries) (seal_below old.entries old.seal k.front)
        (seal_below new.entries new.seal k.front) q k (sym f.items.source) (taken_on k.front low)
        (seal_under old.entries old.seal k.front low ∙ sym (seal_under new.entries new.seal k.front (omega (arith, low, l)))) is
    | inr (nil, same) ↦
        let es = entries_still nil in
        same_reply old.source new.source (take k.front old.entries) (take k.front new.entries) (seal_below old.entries old.seal k.front)
        (seal_below new.entries new.seal k.front) q k (sym f.items.source) (ap (take k.front) es)
        ((λ i. seal_below (es i) (sym same i) k.front)) is
  ]

  count_on : item_count old.entries old.seal ≤ item_count new.entries new.seal
  count_on = elim f.items.seal [
    | inl none ↦ let c = count_unsealed old.entries old.seal none in let l = long_on in let m = count_least new.entries new.seal in omega (arith, c, l, m)
    | inr (nil, same) ↦ let es = entries_still nil in
        let e : item_count old.entries old.seal ≡ item_count new.entries new.seal = (λ i. item_count (es i) (sym same i)) in omega (arith, e)
  ]

  fronts_on : (ks : List Kept) → AllByRecursion (λ (k : Kept). k.front ≤ item_count old.entries old.seal) ks
      → AllByRecursion (λ (k : Kept). k.front ≤ item_count new.entries new.seal) ks
  fronts_on [] all = tt
  fronts_on (k ∷ ks) all = ((let a = all.0 in let c = count_on in omega (arith, a, c)), fronts_on ks all.1)

  pub asker_follows : (n : ℕ) (s : SessionState) → IsAsker old n s → IsAsker new n s
  asker_follows n s a = record {
    number = a.number;
    base = a.base ∙ sym f.items.base;
    questions = subst (λ (p : Presented). AllByRecursion (CanBeAsked p) s.questions) (sym f.items.source) a.questions;
    replies = λ i q k asked kept. reply_on q k (all_get (λ (z : Kept). z.front ≤ item_count old.entries old.seal) s.kept i k a.fronts kept)
        (a.replies i q k asked kept);
    fronts = fronts_on s.kept a.fronts;
    rising = a.rising;
  }

-- ---- a session is answered

pub asked_now : (p : Presented) (es : List BasisEntry) (seal : Option Seal) (old new : SessionState) (k : Kept) → length old.kept < length old.questions
    → ((q : Question) → slice_get old.questions (length old.kept) ≡ Some q → IsReply p es seal q k) → new ≡ record old { kept = old.kept ++ k ∷ [] }
    → Asks p es seal old new
asked_now p es seal old new k lt reply is = let f = some_at old.questions (length old.kept) lt in
    inl (record { question = f.0; next = f.1; reply = k; is_reply = reply f.0 f.1; is = is })

front_within : (base n : ℕ) (ks : List Kept) → base ≤ n → AllByRecursion (λ (k : Kept). k.front ≤ n) ks → front_after base ks ≤ n
front_within base n [] le all = le
front_within base n (k ∷ ks) le all = front_within k.front n ks all.0 all.1

-- the last front of an asker is at most the number of items
pub last_within : (h : Held) (n : ℕ) (s : SessionState) → h.base ≤ length h.entries → IsAsker h n s → last_front s ≤ item_count h.entries h.seal
last_within h n s within a = let b = a.base in let c = count_least h.entries h.seal in
    front_within s.base (item_count h.entries h.seal) s.kept (omega (arith, b, c, within)) a.fronts

rising_more : (base : ℕ) (ks : List Kept) (k : Kept) → AreRising base ks → front_after base ks ≤ k.front → AreRising base (ks ++ k ∷ [])
rising_more base [] k rising le = (le, tt)
rising_more base (a ∷ ks) k rising le = (rising.0, rising_more a.front ks k rising.1 le)

module _ (h : Held) (n : ℕ) (old new : SessionState) (within : h.base ≤ length h.entries) (a : IsAsker h n old) where
  by_all : (q : Question) (k : Kept) → IsReply h.source h.entries h.seal q k
      → IsReply h.source (take k.front h.entries) (seal_below h.entries h.seal k.front) q k
  by_all q k is =
      let c = count_least h.entries h.seal in
      let e = is.front in
      same_reply h.source h.source h.entries (take k.front h.entries) h.seal (seal_below h.entries h.seal k.front) q k refl
      (sym (take_all k.front h.entries (omega (arith, c, e))))
      (sym (ap (seal_below h.entries h.seal) is.front ∙ seal_behind h.entries h.seal)) is

  answered : Answers h.source h.entries h.seal old new → IsAsker h n new
  answered r = subst (IsAsker h n) (sym r.is) (record {
    number = a.number;
    base = a.base;
    questions = a.questions;
    replies = λ i q k asked kept. elim (same_or_apart i (length old.kept)) [
      | inl e ↦
          let is_q : r.question ≡ q = same_some r.question q (sym r.next ∙ subst (λ (m : ℕ). slice_get old.questions m ≡ Some q) e asked) in
          let is_k : r.reply ≡ k = same_some r.reply k (sym (get_end old.kept r.reply)
          ∙ subst (λ (m : ℕ). slice_get (old.kept ++ r.reply ∷ []) m ≡ Some k) e kept) in
          by_all q k (subst (λ (z : Kept). IsReply h.source h.entries h.seal q z) is_k
          (subst (λ (z : Question). IsReply h.source h.entries h.seal z r.reply) is_q r.is_reply))
      | inr ne ↦
          let l = slice_get_within (old.kept ++ r.reply ∷ []) i k kept in
          let m = length-append old.kept (r.reply ∷ []) in
          a.replies i q k asked (get_back old.kept (r.reply ∷ []) i k (omega (arith, l, m, ne)) kept)
    ];
    fronts = all_push (λ (z : Kept). z.front ≤ item_count h.entries h.seal) old.kept r.reply a.fronts (let e = r.is_reply.front in omega (arith, e));
    rising = rising_more old.base old.kept r.reply a.rising
        (let e = r.is_reply.front in let l = last_within h n old within a in omega (arith, e, l));
  })

  pub asker_asked : Asks h.source h.entries h.seal old new → IsAsker h n new
  asker_asked (inl r) = answered r
  asker_asked (inr (_, e)) = subst (IsAsker h n) (sym e) a
