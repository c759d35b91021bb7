-- Sessions that answer one question after another, by lists that grow.
use Rattle.std.proofs.Common.{◌≡◌, ℕ, zero, suc, ◌+◌, ◌<◌, ◌≤◌, ◌⊎◌, inl, inr, List, [], ◌∷◌, ◌++◌, length, length-append, take, Option, Some, None, slice_get}
use Rattle.std.proofs.Common.{refl, sym, ap, subst, ◌∙◌, arith, Bool, true, false}
use Rattle.std.specs.List.{AllByRecursion}
use Rattle.std.specs.Prelude.{nat_lt, if◌then◌else◌}
use Rattle.std.proofs.lemmas.Bool.{le-ltb, lt-ltb}
use Rattle.std.proofs.lemmas.List.{take-append-le, take_all, append-nil}
use mathlib.Core.List.{IsPrefix}
use Rattle.presentation.specs.Presented.{Presented}
use Rattle.session_text.specs.declared.question.Question.{Question}
use Rattle.basis_entry.specs.Entries.{BasisEntry}
use Rattle.basis_entry.specs.Items.{seal_below}
use Rattle.basis_entry.specs.Seals.{Seal, item_count}
use Rattle.basis_log.specs.Items.{LogItem, entries_of, seal_of, AreItems}
use Rattle.basis_log.proofs.Logs.{count_items}
use Rattle.basis_log.proofs.Prefixes.{prefix_length}
use Rattle.session_core.specs.declared.kept.Kept.{Kept}
use Rattle.session_core.specs.Replies.{IsReply}
use Rattle.session_core.specs.Sessions.{SessionState, front_after, last_front}
use Rattle.completion_workers.specs.Answers.{IsReplyBelow, AreAnswers, count_of}
use Rattle.completion_workers.specs.Asking.{HasAsked}
use Rattle.completion_workers.proofs.Growing.{entries_append}

-- ---- lists
split_snoc : {A : Type 0} (xs : List A) (x y : A) (i : ℕ) → slice_get (xs ++ x ∷ []) i ≡ Some y
    → (slice_get xs i ≡ Some y) ⊎ ((i ≡ length xs) × (x ≡ y))
split_snoc [] x y zero at = inr (refl, cc)
split_snoc [] x y (suc i) at = absurd cc
split_snoc (a ∷ xs) x y zero at = inl at
split_snoc (a ∷ xs) x y (suc i) at = elim (split_snoc xs x y i at) [
  | inl h ↦ inl h
  | inr h ↦ inr (ap suc h.0, h.1)
]

get_within : {A : Type 0} (xs : List A) (n : ℕ) → n < length xs → (x : A) × (slice_get xs n ≡ Some x)
get_within [] n lt = absurd (omega (arith, lt))
get_within (x ∷ xs) zero lt = (x, refl)
get_within (x ∷ xs) (suc n) lt = get_within xs n (omega (arith, lt))

all_get : (P : Kept → Type 0) (ks : List Kept) (i : ℕ) (k : Kept) → AllByRecursion P ks → slice_get ks i ≡ Some k → P k
all_get P [] i k all at = absurd cc
all_get P (a ∷ ks) zero k all at = let e : a ≡ k = cc in subst P e all.0
all_get P (a ∷ ks) (suc i) k all at = all_get P ks i k all.1 at

all_low : (m n : ℕ) (ks : List Kept) → m ≤ n → AllByRecursion (λ k. k.front ≤ m) ks → AllByRecursion (λ k. k.front ≤ n) ks
all_low m n [] le all = tt
all_low m n (k ∷ ks) le all = (let here : k.front ≤ m = all.0 in omega (arith, here, le), all_low m n ks le all.1)

all_more : (n : ℕ) (ks : List Kept) (k : Kept) → AllByRecursion (λ k. k.front ≤ n) ks → k.front ≤ n → AllByRecursion (λ k. k.front ≤ n) (ks ++ k ∷ [])
all_more n [] k all own = (own, tt)
all_more n (a ∷ ks) k all own = (all.0, all_more n ks k all.1 own)

last_low : (base n : ℕ) (ks : List Kept) → base ≤ n → AllByRecursion (λ k. k.front ≤ n) ks → front_after base ks ≤ n
last_low base n [] low all = low
last_low base n (a ∷ ks) low all = last_low a.front n ks all.0 all.1

-- ---- seals below a front
not_chosen : (b : Bool) (x : Option Seal) → b ≡ false → (if b then x else None) ≡ None
not_chosen true x e = absurd cc
not_chosen false x e = refl

chosen : (b : Bool) (x : Option Seal) → b ≡ true → (if b then x else None) ≡ x
chosen true x e = refl
chosen false x e = absurd cc

any_chosen : (b : Bool) (x : Option Seal) → x ≡ None → (if b then x else None) ≡ x
any_chosen true x e = refl
any_chosen false x e = sym e

seal_low : (es : List BasisEntry) (seal : Option Seal) (front : ℕ) → front ≤ length es → seal_below es seal front ≡ None
seal_low es seal front le = not_chosen (nat_lt (length es) front) seal (le-ltb (length es) front le)

seal_all : (es : List BasisEntry) (seal : Option Seal) (front : ℕ) → front ≡ item_count es seal → seal_below es seal front ≡ seal
seal_all es None front e = any_chosen (nat_lt (length es) front) None refl
seal_all es (Some s) front e = chosen (nat_lt (length es) front) (Some s) (lt-ltb (length es) front (omega (arith, e)))

take_items : (es : List BasisEntry) (seal : Option Seal) (front : ℕ) → front ≡ item_count es seal → take front es ≡ es
take_items es None front e = take_all front es (omega (arith, e))
take_items es (Some s) front e = take_all front es (omega (arith, e))

-- ---- items
-- nothing comes behind a seal
empty_end : (xs more : List LogItem) → xs ++ more ≡ [] → more ≡ []
empty_end [] more e = e
empty_end (x ∷ xs) more e = absurd cc

sealed_ends : (p : Presented) (xs more : List LogItem) (s : Seal) → AreItems p (xs ++ more) → seal_of xs ≡ Some s → more ≡ []
sealed_ends p [] more s are e = absurd cc
sealed_ends p (LogItem.an_entry x ∷ xs) more s are e = sealed_ends p xs more s are.2 e
sealed_ends p (LogItem.a_seal x ∷ xs) more s are e = empty_end xs more are.2

none_before : (xs more : List LogItem) → xs ++ more ≡ [] → xs ≡ []
none_before [] more e = refl
none_before (x ∷ xs) more e = absurd cc

items_before : (p : Presented) (xs more : List LogItem) → AreItems p (xs ++ more) → AreItems p xs
items_before p [] more are = tt
items_before p (LogItem.an_entry e ∷ xs) more are = (are.0, are.1, items_before p xs more are.2)
items_before p (LogItem.a_seal s ∷ xs) more are = (are.0, are.1, none_before xs more are.2)

pub first_items : (p : Presented) (xs ys : List LogItem) → IsPrefix xs ys → AreItems p ys → AreItems p xs
first_items p xs ys pre are = items_before p xs pre.0 (subst (AreItems p) (sym pre.1) are)

count_grows : (p : Presented) (xs ys : List LogItem) → AreItems p ys → IsPrefix xs ys → count_of xs ≤ count_of ys
count_grows p xs ys are pre =
    omega (arith, count_items p xs (first_items p xs ys pre are), count_items p ys are, prefix_length xs ys pre)

-- ---- replies
-- a reply stands when the list grows
stands_by : (p : Presented) (xs ys : List LogItem) (q : Question) (k : Kept) (s : Option Seal) → seal_of xs ≡ s → AreItems p ys → IsPrefix xs ys
    → k.front ≤ item_count (entries_of xs) s
    → IsReplyBelow p xs q k → IsReplyBelow p ys q k
stands_by p xs ys q k None none are pre le reply =
    let es : List BasisEntry = entries_of xs in
    let grown : entries_of ys ≡ es ++ entries_of pre.0 = ap entries_of (sym pre.1) ∙ entries_append xs pre.0 in
    let long : length (entries_of ys) ≡ length es + length (entries_of pre.0) = ap length grown ∙ length-append es (entries_of pre.0) in
    let same : take k.front (entries_of ys) ≡ take k.front es = ap (take k.front) grown ∙ take-append-le k.front es (entries_of pre.0) le in
    let before : seal_below es (seal_of xs) k.front ≡ None = seal_low es (seal_of xs) k.front le in
    let after : seal_below (entries_of ys) (seal_of ys) k.front ≡ None = seal_low (entries_of ys) (seal_of ys) k.front (omega (arith, long, le)) in
    subst (λ (z : Option Seal). IsReply p (take k.front (entries_of ys)) z q k) (sym after)
    (subst (λ (bs : List BasisEntry). IsReply p bs None q k) (sym same) (subst (λ (z : Option Seal). IsReply p (take k.front es) z q k) before reply))
stands_by p xs ys q k (Some s) some are pre le reply =
    let whole : AreItems p (xs ++ pre.0) = subst (AreItems p) (sym pre.1) are in
    let end : pre.0 ≡ [] = sealed_ends p xs pre.0 s whole some in
    let same : xs ≡ ys = sym (append-nil xs) ∙ ap (λ (l : List LogItem). xs ++ l) (sym end) ∙ pre.1 in
    subst (λ (l : List LogItem). IsReplyBelow p l q k) same reply

-- a reply by all items is one by those below its front
pub reply_by_all : (p : Presented) (xs : List LogItem) (q : Question) (k : Kept) → k.front ≡ count_of xs → IsReply p (entries_of xs) (seal_of xs) q k
    → IsReplyBelow p xs q k
reply_by_all p xs q k e reply =
    subst (λ (z : Option Seal). IsReply p (take k.front (entries_of xs)) z q k) (sym (seal_all (entries_of xs) (seal_of xs) k.front e))
    (subst (λ (bs : List BasisEntry). IsReply p bs (seal_of xs) q k) (sym (take_items (entries_of xs) (seal_of xs) k.front e)) reply)

-- ---- sessions
pub none_answered : (p : Presented) (xs : List LogItem) (s : SessionState) → s.kept ≡ [] → AreAnswers p xs s
none_answered p xs s none = record {
  replies = λ i q k asked at. absurd (let e = subst (λ (ks : List Kept). slice_get ks i ≡ Some k) none at in cc);
  fronts = subst (AllByRecursion (λ k. k.front ≤ count_of xs)) (sym none) tt;
}

pub answers_stand : (p : Presented) (xs ys : List LogItem) (s : SessionState) → AreItems p ys → IsPrefix xs ys → AreAnswers p xs s → AreAnswers p ys s
answers_stand p xs ys s items pre are = record {
  replies = λ i q k asked at. stands_by p xs ys q k (seal_of xs) refl items pre
      (all_get (λ k. k.front ≤ count_of xs) s.kept i k are.fronts at) (are.replies i q k asked at);
  fronts = all_low (count_of xs) (count_of ys) s.kept (count_grows p xs ys items pre) are.fronts;
}

pub last_within : (p : Presented) (xs : List LogItem) (s : SessionState) → s.base ≤ length xs → AreItems p xs → AreAnswers p xs s
    → last_front s ≤ count_of xs
last_within p xs s le items are = last_low s.base (count_of xs) s.kept (omega (arith, le, count_items p xs items)) are.fronts

-- one more question has its reply, by all items
pub asked_more : (p : Presented) (ys : List LogItem) (s t : SessionState) → length s.kept < length s.questions → AreAnswers p ys s
    → HasAsked p (entries_of ys) (seal_of ys) s t
    → AreAnswers p ys t
asked_more p ys s t lt are asked =
    let k : Kept = asked.reply in
    let kept : t.kept ≡ s.kept ++ k ∷ [] = ap (λ (x : SessionState). x.kept) asked.is in
    let questions : t.questions ≡ s.questions = ap (λ (x : SessionState). x.questions) asked.is in
    record {
      replies = λ i q r at put. by i q r (subst (λ (qs : List Question). slice_get qs i ≡ Some q) questions at)
          (split_snoc s.kept k r i (subst (λ (ks : List Kept). slice_get ks i ≡ Some r) kept put));
      fronts = subst (AllByRecursion (λ k. k.front ≤ count_of ys)) (sym kept)
          (all_more (count_of ys) s.kept k are.fronts (omega (arith, front)));
    }
  where
    front : asked.reply.front ≡ count_of ys
    front = let one = get_within s.questions (length s.kept) lt in (asked.by_all one.0 one.1).front

    by : (i : ℕ) (q : Question) (r : Kept) → slice_get s.questions i ≡ Some q
        → (slice_get s.kept i ≡ Some r) ⊎ ((i ≡ length s.kept) × (asked.reply ≡ r)) → IsReplyBelow p ys q r
    by i q r at (inl h) = are.replies i q r at h
    by i q r at (inr h) =
        let own : IsReplyBelow p ys q asked.reply =
        reply_by_all p ys q asked.reply front (asked.by_all q (subst (λ (n : ℕ). slice_get s.questions n ≡ Some q) h.0 at)) in
        subst (λ (j : Kept). IsReplyBelow p ys q j) h.1 own

pub ruleset answering = (none_answered, answers_stand, last_within, asked_more)
