-- What is answered behind the end, and the last line, tell it.
use Rattle.std.proofs.Common.{◌≡◌, ℕ, ◌+◌, ◌<◌, ◌^◌, nat_lt, Bool, true, false, if◌then◌else◌, List, [], ◌∷◌, ◌++◌, length, Option, Some, None, IsSome, refl}
use Rattle.std.proofs.Common.{sym, subst, append_assoc, append-nil, arith}
use Rattle.std.specs.List.{AllByRecursion, flat_map}
use Rattle.session_text.specs.declared.question.Question.{Question}
use Rattle.report_lines.specs.declared.lines.Line.TheVariants as lines
use Rattle.report_reading.specs.declared.replies.ReplyData.{ReplyData}
use Rattle.report_reading.specs.Telling.{IsShown, proof_count, is_open}
use Rattle.report_text.specs.Histories.{Reply, Answered, SessionAnswers, proof_lines, closing_lines, closing_from, closing_of}
use Rattle.report_acceptance.specs.Saying.{closing_reply, closed_in, closing_replies}
use Rattle.report_acceptance.proofs.Goes.{Goes, then_more}
use Rattle.report_acceptance.proofs.ReplyLines.{Base, items_in, last_of, Says, last_behind, closed, close_told, proofs_told}
use Rattle.report_acceptance.proofs.Fronts.{open_before, all_open_before, is_ge}

-- what is answered once more is what was left open, by all items
abbrev pub IsClosedSo : ℕ → Question → Bool → Option Reply → Type 0
IsClosedSo n q open_so None = open_so ≡ false
IsClosedSo n q open_so (Some r) = (open_so ≡ true) × (r.front ≡ n) × (length r.proofs ≡ proof_count q r.verdict)

pub record IsClosed (n : ℕ) (a : Answered) : Type 0 where
  pub within : a.live.front < n + 1
  pub closing : IsClosedSo n a.question (is_open a.live.verdict) a.closing

abbrev pub AreClosed : ℕ → List SessionAnswers → Type 0
AreClosed n ss = AllByRecursion (λ s. AllByRecursion (IsClosed n) s.answers) ss

reply_shown : (s : ℕ) (q : Question) (r : Reply) (rs : List ReplyData) → length r.proofs ≡ proof_count q r.verdict
    → IsShown (last_of (rs ++ closing_reply s q (Some r)))
reply_shown s q r rs count = subst IsShown (sym (last_behind rs _)) count

module _ (c : Base) (some : IsSome c.end) (small : items_in c < 2 ^ 32) where
  reply_told : (s n : ℕ) (q : Question) (r : Reply) (rs : List ReplyData) (behind : List ((ℕ × ℕ) × Question)) → r.front ≡ items_in c
      → length r.proofs ≡ proof_count q r.verdict → IsShown (last_of rs)
      → Goes (Says c rs (((s, n), q) ∷ behind)) (closing_lines s n q (Some r)) (Says c (rs ++ closing_reply s q (Some r)) behind)
  reply_told s n q r rs behind is count shown =
      then_more (Says c rs (((s, n), q) ∷ behind)) (Says c (rs ++ closed c rs s n r.front q r.verdict ∷ []) behind)
      (Says c (rs ++ closing_reply s q (Some r)) behind)
      (lines.Close s n q r.verdict ∷ []) (proof_lines 1 r.proofs) (close_told c rs s n r.front q r.verdict behind some is small shown)
      (proofs_told c rs (closed c rs s n r.front q r.verdict) behind [] r.proofs (omega (arith, count)))

  session_closed : (s n : ℕ) (answers : List Answered) (rs : List ReplyData) (behind : List ((ℕ × ℕ) × Question))
      → AllByRecursion (IsClosed (items_in c)) answers → IsShown (last_of rs)
      → Goes (Says c rs (open_before (items_in c + 1) s n answers ++ behind)) (closing_from s n answers) (Says c (rs ++ flat_map (closed_in s) answers) behind)
  session_closed s n [] rs behind fits shown = λ t h. (t, (refl, subst (λ l. Says c l behind t) (sym (append-nil rs)) h))
  session_closed s n (a ∷ others) rs behind fits shown =
      by (nat_lt a.live.front (items_in c + 1)) (is_open a.live.verdict) a.closing refl fits.0.closing
      (λ ls h. session_closed s (n + 1) others ls behind fits.1 h)
    where
      left : List ((ℕ × ℕ) × Question)
      left = open_before (items_in c + 1) s (n + 1) others

      all : List ReplyData
      all = flat_map (closed_in s) others

      by : (b o : Bool) (cl : Option Reply) → nat_lt a.live.front (items_in c + 1) ≡ b → IsClosedSo (items_in c) a.question o cl
          → ((ls : List ReplyData) → IsShown (last_of ls) → Goes (Says c ls (left ++ behind)) (closing_from s (n + 1) others) (Says c (ls ++ all) behind))
          → Goes (Says c rs (((if b then (if o then ((s, n), a.question) ∷ [] else []) else []) ++ left) ++ behind)) (closing_lines s n a.question cl
          ++ closing_from s (n + 1) others)
          (Says c (rs ++ (closing_reply s a.question cl ++ all)) behind)
      by false o cl e is again = absurd (let l = is_ge a.live.front (items_in c + 1) e in let k = fits.0.within in omega (arith, l, k))
      by true true None e is again = absurd cc
      by true false None e is again = again rs shown
      by true false (Some r) e is again = absurd (let w = is.0 in cc)
      by true true (Some r) e is again =
          let mine : List ReplyData = closing_reply s a.question (Some r) in
          let later : Goes (Says c (rs ++ mine) (left ++ behind)) (closing_from s (n + 1) others) (Says c (rs ++ (mine ++ all)) behind) =
          subst (λ l. Goes (Says c (rs ++ mine) (left ++ behind)) (closing_from s (n + 1) others) (Says c l behind)) (append_assoc rs mine all)
          (again (rs ++ mine) (reply_shown s a.question r rs is.2)) in
          then_more (Says c rs (((s, n), a.question) ∷ (left ++ behind))) (Says c (rs ++ mine) (left ++ behind)) (Says c (rs ++ (mine ++ all)) behind)
          (closing_lines s n a.question (Some r)) (closing_from s (n + 1) others)
          (reply_told s n a.question r rs (left ++ behind) is.1 is.2 shown) later

  still_shown : (s : ℕ) (answers : List Answered) (rs : List ReplyData) → AllByRecursion (IsClosed (items_in c)) answers → IsShown (last_of rs)
      → IsShown (last_of (rs ++ flat_map (closed_in s) answers))
  still_shown s [] rs fits shown = subst (λ l. IsShown (last_of l)) (sym (append-nil rs)) shown
  still_shown s (a ∷ others) rs fits shown = by (is_open a.live.verdict) a.closing fits.0.closing (λ ls h. still_shown s others ls fits.1 h)
    where
      by : (o : Bool) (cl : Option Reply) → IsClosedSo (items_in c) a.question o cl
          → ((ls : List ReplyData) → IsShown (last_of ls) → IsShown (last_of (ls ++ flat_map (closed_in s) others)))
          → IsShown (last_of (rs ++ (closing_reply s a.question cl ++ flat_map (closed_in s) others)))
      by o None is again = again rs shown
      by o (Some r) is again =
          let mine : List ReplyData = closing_reply s a.question (Some r) in
          subst (λ l. IsShown (last_of l)) (append_assoc rs mine (flat_map (closed_in s) others)) (again (rs ++ mine) (reply_shown s a.question r rs is.2))

  pub all_closed : (ss : List SessionAnswers) (rs : List ReplyData) → AreClosed (items_in c) ss → IsShown (last_of rs)
      → Goes (Says c rs (all_open_before (items_in c + 1) ss)) (closing_of ss) (Says c (rs ++ closing_replies ss) [])
  all_closed [] rs fits shown = λ t h. (t, (refl, subst (λ l. Says c l [] t) (sym (append-nil rs)) h))
  all_closed (s ∷ ss) rs fits shown =
      let mine : List ReplyData = flat_map (closed_in s.number) s.answers in
      let later : Goes (Says c (rs ++ mine) (all_open_before (items_in c + 1) ss)) (closing_of ss) (Says c (rs ++ (mine ++ closing_replies ss)) []) =
      subst (λ l. Goes (Says c (rs ++ mine) (all_open_before (items_in c + 1) ss)) (closing_of ss) (Says c l [])) (append_assoc rs mine (closing_replies ss))
      (all_closed ss (rs ++ mine) fits.1 (still_shown s.number s.answers rs fits.0 shown)) in
      then_more (Says c rs (all_open_before (items_in c + 1) (s ∷ ss))) (Says c (rs ++ mine) (all_open_before (items_in c + 1) ss))
      (Says c (rs ++ (mine ++ closing_replies ss)) []) (closing_from s.number 1 s.answers) (closing_of ss)
      (session_closed s.number 1 s.answers rs (all_open_before (items_in c + 1) ss) fits.0 shown) later

  pub all_closed_shown : (ss : List SessionAnswers) (rs : List ReplyData) → AreClosed (items_in c) ss → IsShown (last_of rs)
      → IsShown (last_of (rs ++ closing_replies ss))
  all_closed_shown [] rs fits shown = subst (λ l. IsShown (last_of l)) (sym (append-nil rs)) shown
  all_closed_shown (s ∷ ss) rs fits shown =
      let mine : List ReplyData = flat_map (closed_in s.number) s.answers in
      subst (λ l. IsShown (last_of l)) (append_assoc rs mine (closing_replies ss))
      (all_closed_shown ss (rs ++ mine) fits.1 (still_shown s.number s.answers rs fits.0 shown))
