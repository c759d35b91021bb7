-- A session that asks one question after another.
use Rattle.std.proofs.Common.{◌≡◌, ℕ, ◌+◌, ◌<◌, ◌≤◌, List, [], ◌∷◌, ◌++◌, append-nil, length, length-append, Option, Some, None, slice_get, sym, ap, subst, ◌∙◌}
use Rattle.std.proofs.Common.{arith, rules, refl, inl, inr, zero, suc}
use Rattle.std.specs.List.{AllByRecursion}
use Rattle.std.specs.Prelude.{nat_lt, if◌then◌else◌}
use Rattle.std.proofs.lemmas.List.{append_assoc}
use Rattle.presentation.specs.Presented.{Presented}
use Rattle.session_text.specs.declared.question.Question.{Question}
use Rattle.basis_entry.specs.Entries.{BasisEntry}
use Rattle.basis_entry.specs.Seals.{Seal, item_count}
use Rattle.session_core.specs.declared.kept.Kept.{Kept}
use Rattle.session_core.specs.Replies.{IsReply}
use Rattle.session_core.specs.Sessions.{SessionState, IsSession, front_after, last_front, next_question}
use Rattle.legal_report.specs.Gathering.{IsAskedOn, IsAnsweredOn}
use Rattle.legal_report.proofs.Fronts.{split_get}

-- before the first question
pub none_asked : (p : Presented) (es : List BasisEntry) (seal : Option Seal) (s : SessionState) → last_front s ≤ item_count es seal → IsAskedOn p es seal s s
none_asked p es seal s front = record {
  more = [];
  is = ap (λ (ks : List Kept). record s { kept = ks }) (sym (append-nil s.kept));
  by_all = tt;
  replies = λ i q k asked at. absurd (cc);
  front = front;
}

all_one_more : (P : Kept → Type 0) (ks : List Kept) (k : Kept) → AllByRecursion P ks → P k → AllByRecursion P (ks ++ k ∷ [])
all_one_more P [] k all own = (own, tt)
all_one_more P (a ∷ ks) k all own = (all.0, all_one_more P ks k all.1 own)

front_of_more : (base : ℕ) (ks : List Kept) (k : Kept) → front_after base (ks ++ k ∷ []) ≡ k.front
front_of_more base [] k = refl
front_of_more base (a ∷ ks) k = front_of_more a.front ks k

get_within : (qs : List Question) (n : ℕ) → n < length qs → (q : Question) × (slice_get qs n ≡ Some q)
get_within [] n lt = absurd (omega (arith, lt))
get_within (q ∷ qs) zero lt = (q, refl)
get_within (q ∷ qs) (suc n) lt = get_within qs n (omega (arith, lt))

one_at : (x k : Kept) (j : ℕ) → slice_get (x ∷ []) j ≡ Some k → (j ≡ 0) × (x ≡ k)
one_at x k zero at = (refl, cc)
one_at x k (suc j) at = absurd (cc)

-- one more question
pub one_asked : (p : Presented) (es : List BasisEntry) (seal : Option Seal) (s now next : SessionState) (k : Kept) → IsAskedOn p es seal s now
    → ((q : Question) → slice_get now.questions (length now.kept) ≡ Some q → IsReply p es seal q k) → length now.kept < length now.questions
    → next ≡ record now { kept = now.kept ++ k ∷ [] } → IsAskedOn p es seal s next
one_asked p es seal s now next k on reply left new =
    let asked = get_within now.questions (length now.kept) left in
    let front : k.front ≡ item_count es seal = (reply asked.0 asked.1).front in
    let questions : now.questions ≡ s.questions = ap (λ (x : SessionState). x.questions) on.is in
    let kept : now.kept ≡ s.kept ++ on.more = ap (λ (x : SessionState). x.kept) on.is in
    let number : now.number ≡ s.number = ap (λ (x : SessionState). x.number) on.is in
    let long = length-append s.kept on.more in
    let many : length now.kept ≡ length (s.kept ++ on.more) = ap length kept in
    record {
      more = on.more ++ k ∷ [];
      is = new ∙ ap (λ (x : SessionState). record x { kept = x.kept ++ k ∷ [] }) on.is
          ∙ ap (λ (ks : List Kept). record s { kept = ks }) (append_assoc s.kept on.more (k ∷ []));
      by_all = all_one_more (λ k. k.front ≡ item_count es seal) on.more k on.by_all front;
      replies = λ i q r asked at. elim (split_get on.more (k ∷ []) i r at) [
        | inl h ↦ on.replies i q r asked h
        | inr h ↦
            let one = one_at k r h.0 h.2 in
            let place : length s.kept + i ≡ length now.kept = let a : i ≡ length on.more + h.0 = h.1 in let b : h.0 ≡ 0 = one.0
            in omega (arith, a, b, long, many) in
            subst (λ (x : Kept). IsReply p es seal q x) one.1
            (reply q (subst (λ (qs : List Question). slice_get qs (length now.kept) ≡ Some q) (sym questions)
            (subst (λ (m : ℕ). slice_get s.questions m ≡ Some q) place asked)))
      ];
      front = let last : last_front next ≡ k.front = ap last_front new ∙ front_of_more now.base now.kept k in omega (arith, last, front);
    }

-- when no question is left
pub all_asked : (p : Presented) (es : List BasisEntry) (seal : Option Seal) (s now : SessionState) → IsAskedOn p es seal s now → IsSession now
    → next_question now ≡ None
    → IsAnsweredOn p es seal s now
all_asked p es seal s now on is none = record {
  more = on.more;
  is = on.is;
  count =
      let questions = ap length (ap (λ (x : SessionState). x.questions) on.is) in
      let kept = ap length (ap (λ (x : SessionState). x.kept) on.is) in
      let few = is.within in
      let long = length-append s.kept on.more in
      let all = none_left (length now.kept) (length now.questions) none in
      omega (arith, questions, kept, few, long, all);
  by_all = on.by_all;
  replies = on.replies;
  session = is;
}
  where
    none_left : (n m : ℕ) → (if nat_lt n m then Some (n + 1) else None) ≡ None → m ≤ n
    none_left n m e = search (rules, arith)
