-- What is found of the last verdicts.
use Rattle.std.proofs.Common.{◌≡◌, ◌⊎◌, inl, inr, ℕ, zero, suc, ◌+◌, ◌<◌, ◌≤◌, Bool, true, false, List, [], ◌∷◌, ◌++◌, append-nil, append_assoc, length, map, take, get_or}
use Rattle.std.proofs.Common.{Option, Some, None, slice_get, unwrap_or, sym, ap, subst, ◌∙◌, arith, refl}
use Rattle.std.specs.List.{AllByRecursion}
use Rattle.std.specs.Prelude.{◌==◌, ◌||◌, not, if◌then◌else◌}
use Rattle.std.proofs.lemmas.List.{map-append, take_all}
use Rattle.presentation.specs.Presented.{Presented}
use Rattle.module_vec.specs.declared.places.Term.{Term}
use Rattle.outcomes.specs.declared.verdicts.Verdict.{Verdict}
use Rattle.session_text.specs.declared.question.Question.{Question}
use Rattle.basis_entry.specs.Entries.{BasisEntry, vectors_of}
use Rattle.basis_entry.specs.Items.{seal_below, vectors_below}
use Rattle.basis_entry.specs.Seals.{Seal, item_count}
use Rattle.session_core.specs.declared.kept.Kept.{Kept}
use Rattle.session_core.specs.Replies.{IsReply, tag_of}
use Rattle.session_core.specs.Sessions.{SessionState}
use Rattle.session_core.specs.Verdicts.{IsVerdict}
use Rattle.report_text.specs.Answers.{to_show, IsOpen, IsClosing, IsClosingReply, IsAnswered, IsSessionAnswered, AreAnswered}
use Rattle.report_text.specs.Closing.{is_left_open, HasClosing, HasClosings}
use Rattle.report_text.specs.Histories.{Reply, Answered, SessionAnswers}
use Rattle.report_text.specs.Reports.{IsReplied}
use Rattle.report_text.proofs.Building.{proofs_there}
use Rattle.report_text.proofs.Lists.{StandsAt, stands_at, got, same_item, all_more, all_taken}
use Rattle.report_text.proofs.Telling.{Told, open_verdict, closed_verdict, live_is, all_below, seal_of_all, closing_there}
use Rattle.report_text.proofs.Verdicts.{one_verdict, yes_is_shown}
use Rattle.legal_report.specs.declared.last.Kind.{Kind}
use Rattle.legal_report.specs.Last.{kind_of, last_kind, last_kinds_in, kind_kept, IsLastKind, ArePut, AreFound}

-- ---- one question

-- a reply by all items is a closing one
closing : (p : Presented) (es : List BasisEntry) (seal : Option Seal) (q : Question) (k : Kept) → k.front ≡ item_count es seal
    → IsReply p (take k.front es) (seal_below es seal k.front) q k → HasClosing p es seal q
closing p es seal q k front reply =
    let shown = proofs_there (vectors_below es k.front) (to_show q reply.verdict)
    (yes_is_shown p (vectors_below es k.front) (seal_below es seal k.front) q reply.verdict reply.is) in
    (record { front = k.front; verdict = reply.verdict; proofs = shown.0 }, record { front = front; reply = record { verdict = reply.is; proofs = shown.1 } })

-- a verdict by the items below a front, where these are all items
by_all : (p : Presented) (es : List BasisEntry) (seal : Option Seal) (q : Question) (v : Verdict) (front : ℕ) → front ≡ item_count es seal
    → IsVerdict p (vectors_below es front) (seal_below es seal front) q v
    → IsVerdict p (vectors_of es) seal q v
by_all p es seal q v front all is =
    subst (λ (z : Option Seal). IsVerdict p (vectors_of es) z q v) (seal_of_all es seal)
    (subst (λ (xs : List BasisEntry). IsVerdict p (vectors_of xs) (seal_below es seal (item_count es seal)) q v) (all_below es seal)
    (subst (λ (f : ℕ). IsVerdict p (vectors_below es f) (seal_below es seal f) q v) all is))

-- the last verdict is that behind the end where the question was left open, and else the live one
last_by : (p : Presented) (es : List BasisEntry) (seal : Option Seal) (q : Question) (live : Reply) (c : Option Reply) (kind : Kind)
    → IsClosing p es seal q live.verdict c
    → (IsOpen live.verdict → (r : Reply) → IsClosingReply p es seal q r → kind ≡ kind_of (tag_of r.verdict))
    → ((IsOpen live.verdict → ⊥) → kind ≡ kind_of (tag_of live.verdict)) → kind ≡ kind_of (tag_of (unwrap_or c live).verdict)
last_by p es seal q live None kind is left closed = closed is
last_by p es seal q live (Some r) kind is left closed = left is.0 r is.1

module _ (p : Presented) (es : List BasisEntry) (seal : Option Seal) (s : SessionState) (replied : IsReplied p es seal s) (i : ℕ) (kind : Kind) where
  module _ (q : Question) (k : Kept) (asked : slice_get s.questions i ≡ Some q) (kept : slice_get s.kept i ≡ Some k) where
    reply : IsReply p (take k.front es) (seal_below es seal k.front) q k
    reply = replied.each i q k asked kept

    here : Told p es seal s replied i
    here = record { q = q; k = k; question = asked; kept = kept; reply = reply }

    module _ (a : Answered) (h : IsAnswered p es seal q k a) where
      same : a.live.verdict ≡ reply.verdict
      same = live_is p es seal q k a reply h

      tag_is : kind_of (tag_of a.live.verdict) ≡ kind_of k.tag
      tag_is = ap (λ (v : Verdict). kind_of (tag_of v)) same ∙ ap kind_of (sym reply.tag)

      open_live : is_left_open k.tag ≡ true → IsOpen a.live.verdict
      unfolding here
      open_live e = subst IsOpen (sym same) (open_verdict p es seal s replied i here e)

      closed_live : is_left_open k.tag ≡ false → IsOpen a.live.verdict → ⊥
      unfolding here
      closed_live e left = closed_verdict p es seal s replied i here e (subst IsOpen same left)

      decided : is_left_open k.tag ≡ false → kind ≡ kind_of k.tag → kind ≡ last_kind a
      decided e is = last_by p es seal q a.live a.closing kind h.closing (λ left r c. absurd (closed_live e left)) (λ closed. is ∙ sym tag_is)

      final : k.front ≡ item_count es seal → kind ≡ kind_of k.tag → kind ≡ last_kind a
      final all is =
          last_by p es seal q a.live a.closing kind h.closing
          (λ left r c. is ∙ sym tag_is ∙ ap (λ (v : Verdict). kind_of (tag_of v))
          (one_verdict p (vectors_of es) seal q a.live.verdict r.verdict
          (by_all p es seal q a.live.verdict a.live.front (h.front ∙ all) h.live.verdict)
          (by_all p es seal q r.verdict r.front c.front c.reply.verdict)))
          (λ closed. is ∙ sym tag_is)

      asked_again : (v : Verdict) → is_left_open k.tag ≡ true → IsVerdict p (vectors_of es) seal q v → kind ≡ kind_of (tag_of v) → kind ≡ last_kind a
      asked_again v e made is =
          last_by p es seal q a.live a.closing kind h.closing
          (λ left r c. is ∙ ap (λ (v : Verdict). kind_of (tag_of v))
          (one_verdict p (vectors_of es) seal q v r.verdict made (by_all p es seal q r.verdict r.front c.front c.reply.verdict)))
          (λ closed. absurd (closed (open_live e)))

  -- the reply that was kept decides the question, or is by all items
  pub kept_last : (k : Kept) → slice_get s.kept i ≡ Some k → (is_left_open k.tag ≡ false) ⊎ (k.front ≡ item_count es seal) → kind ≡ kind_of k.tag
      → IsLastKind p es seal s i kind
  kept_last k kept (inl e) is = record {
    closing = λ q x asked there left. absurd (not_both x there left);
    is = λ q x a asked there h. let one : k ≡ x = same_item s.kept i k x kept there in
        decided q x asked there a h (subst (λ (y : Kept). is_left_open y.tag ≡ false) one e) (subst (λ (y : Kept). kind ≡ kind_of y.tag) one is);
  }
    where
      not_both : (x : Kept) → slice_get s.kept i ≡ Some x → is_left_open x.tag ≡ true → ⊥
      not_both x there left =
          let one : k ≡ x = same_item s.kept i k x kept there in
          let no : is_left_open x.tag ≡ false = subst (λ (y : Kept). is_left_open y.tag ≡ false) one e in
          let both : true ≡ false = sym left ∙ no in
          absurd (cc)
  kept_last k kept (inr all) is = record {
    closing = λ q x asked there left. let one : k ≡ x = same_item s.kept i k x kept there in
        closing p es seal q x (subst (λ (y : Kept). y.front ≡ item_count es seal) one all) (reply q x asked there);
    is = λ q x a asked there h. let one : k ≡ x = same_item s.kept i k x kept there in
        final q x asked there a h (subst (λ (y : Kept). y.front ≡ item_count es seal) one all) (subst (λ (y : Kept). kind ≡ kind_of y.tag) one is);
  }

  -- a question that was left open has the verdict by all items as its last one
  pub asked_last : (vs : List (List Term)) (q : Question) (v : Verdict) → vs ≡ vectors_of es → slice_get s.questions i ≡ Some q
      → ((k : Kept) → slice_get s.kept i ≡ Some k → is_left_open k.tag ≡ true) → IsVerdict p vs seal q v → kind ≡ kind_of (tag_of v)
      → IsLastKind p es seal s i kind
  asked_last vs q v entries asked left made is = record {
    closing = λ x k here there e. subst (HasClosing p es seal) (same_item s.questions i q x asked here)
        (closing_there p vs es seal entries q v made);
    is = λ x k a here there h. asked_again x k here there a h v (left k there)
        (subst (λ (y : Question). IsVerdict p (vectors_of es) seal y v) (same_item s.questions i q x asked here)
        (subst (λ (b : List (List Term)). IsVerdict p b seal q v) entries made)) is;
  }

-- ---- the reply that was kept

chosen : (b : Bool) (x kind : Kind) → (if b then Some x else None) ≡ Some kind → (b ≡ true) × (kind ≡ x)
chosen true x kind e = (refl, cc)
chosen false x kind e = absurd (cc)

not_chosen : (b : Bool) (x : Kind) → (if b then Some x else None) ≡ None → b ≡ false
not_chosen true x e = absurd (cc)
not_chosen false x e = refl

either : (a b : Bool) → (not a || b) ≡ true → (a ≡ false) ⊎ (b ≡ true)
either true true e = inr refl
either true false e = absurd (cc)
either false b e = inl refl

neither : (a b : Bool) → (not a || b) ≡ false → a ≡ true
neither true b e = refl
neither false b e = absurd (cc)

same_by : (m n : ℕ) → (m == n) ≡ true → m ≡ n
same_by m n e = grind arith

-- a reply that is known to be the last one
pub record IsKept (all : ℕ) (o : Option Kept) (kind : Kind) : Type 0 where
  pub k : Kept
  pub kept : o ≡ Some k
  pub last : (is_left_open k.tag ≡ false) ⊎ (k.front ≡ all)
  pub is : kind ≡ kind_of k.tag

pub some_kept : (all : ℕ) (o : Option Kept) (kind : Kind) → kind_kept all o ≡ Some kind → IsKept all o kind
some_kept all None kind e = absurd (cc)
some_kept all (Some k) kind e =
    let found = chosen (not (is_left_open k.tag) || (k.front == all)) (kind_of k.tag) kind e in
    record { k = k; kept = refl; last = by (either (is_left_open k.tag) (k.front == all) found.0); is = found.1 }
  where
    by : (is_left_open k.tag ≡ false) ⊎ ((k.front == all) ≡ true) → (is_left_open k.tag ≡ false) ⊎ (k.front ≡ all)
    by (inl h) = inl h
    by (inr h) = inr (same_by k.front all h)

pub none_kept : (all : ℕ) (o : Option Kept) → kind_kept all o ≡ None → (k : Kept) → o ≡ Some k → is_left_open k.tag ≡ true
none_kept all None e k is = absurd (cc)
none_kept all (Some x) e k is =
    let same : x ≡ k = cc in
    subst (λ (y : Kept). is_left_open y.tag ≡ true) same
    (neither (is_left_open x.tag) (x.front == all) (not_chosen (not (is_left_open x.tag) || (x.front == all)) (kind_of x.tag) e))

-- ---- the questions of a session

take_one : {A : Type 0} (xs : List A) (i : ℕ) (x : A) → slice_get xs i ≡ Some x → take (i + 1) xs ≡ take i xs ++ x ∷ []
take_one [] i x at = absurd (cc)
take_one (y ∷ xs) zero x at = let e : y ≡ x = cc in ap (λ z. z ∷ []) e
take_one {A} (y ∷ xs) (suc i) x at =
    let e : suc (i + 1) ≡ suc i + 1 = omega arith in
    subst (λ (j : ℕ). take j (y ∷ xs) ≡ y ∷ (take i xs ++ x ∷ [])) e (ap (λ (zs : List A). y ∷ zs) (take_one xs i x at))

-- of the first questions
pub record ArePutTo (p : Presented) (es : List BasisEntry) (seal : Option Seal) (s : SessionState) (n : ℕ) (old now : List Kind) : Type 0 where
  pub closings : (i : ℕ) (q : Question) (k : Kept) → i < n → slice_get s.questions i ≡ Some q → slice_get s.kept i ≡ Some k → is_left_open k.tag ≡ true
      → HasClosing p es seal q
  pub are : (t : SessionAnswers) → IsSessionAnswered p es seal s t → now ≡ old ++ map last_kind (take n t.answers)

take_none : {A : Type 0} (xs : List A) → take 0 xs ≡ []
take_none [] = refl
take_none (x ∷ xs) = refl

pub none_put : (p : Presented) (es : List BasisEntry) (seal : Option Seal) (s : SessionState) (old : List Kind) → ArePutTo p es seal s 0 old old
none_put p es seal s old = record {
  closings = λ i q k lt asked kept left. absurd (omega (arith, lt));
  are = λ t h. sym (ap (λ (xs : List Answered). old ++ map last_kind xs) (take_none t.answers) ∙ append-nil old);
}

module _ (p : Presented) (es : List BasisEntry) (seal : Option Seal) (s : SessionState) (n : ℕ) (old now : List Kind)
    (to : ArePutTo p es seal s n old now) where
  pub one_put : IsReplied p es seal s → n < length s.questions → (kind : Kind) (next : List Kind) → IsLastKind p es seal s n kind → next ≡ now ++ kind ∷ []
      → ArePutTo p es seal s (n + 1) old next
  one_put replied lt kind next last is = record {
    closings = λ i q k less asked kept left. elim (before_or_at i n less) [
      | inl h ↦ to.closings i q k h asked kept left
      | inr e ↦ last.closing q k (subst (λ (m : ℕ). slice_get s.questions m ≡ Some q) e asked) (subst (λ (m : ℕ). slice_get s.kept m ≡ Some k) e kept) left
    ];
    are = λ t h.
        let q : StandsAt s.questions n = stands_at s.questions n lt in
        let k : StandsAt s.kept n = stands_at s.kept n (omega (arith, lt, replied.count)) in
        let a : StandsAt t.answers n = stands_at t.answers n (omega (arith, lt, h.count)) in
        let own : kind ≡ last_kind a.item = last.is q.item k.item a.item q.here k.here (h.each n q.item k.item a.item q.here k.here a.here) in
        let more : map last_kind (take (n + 1) t.answers) ≡ map last_kind (take n t.answers) ++ last_kind a.item ∷ [] =
        ap (map last_kind) (take_one t.answers n a.item a.here) ∙ map-append last_kind (take n t.answers) (a.item ∷ []) in
        is ∙ ap (λ (xs : List Kind). xs ++ kind ∷ []) (to.are t h) ∙ append_assoc old (map last_kind (take n t.answers)) (kind ∷ [])
        ∙ ap (λ (x : Kind). old ++ (map last_kind (take n t.answers) ++ x ∷ [])) own ∙ ap (λ (xs : List Kind). old ++ xs) (sym more);
  }
    where
      before_or_at : (i m : ℕ) → i < m + 1 → (i < m) ⊎ (i ≡ m)
      before_or_at zero zero less = inr refl
      before_or_at zero (suc m) less = inl (omega arith)
      before_or_at (suc i) zero less = absurd (omega (arith, less))
      before_or_at (suc i) (suc m) less = elim (before_or_at i m (omega (arith, less))) [
        | inl h ↦ inl (omega (arith, h))
        | inr e ↦ inr (ap suc e)
      ]

  pub all_put : length s.questions ≤ n → ArePut p es seal s old now
  all_put le = record {
    closings = λ i q k asked kept left. to.closings i q k (within i q asked) asked kept left;
    are = λ t h. to.are t h ∙ ap (λ (xs : List Answered). old ++ map last_kind xs) (take_all n t.answers (omega (arith, le, h.count)));
  }
    where
      inside : {A : Type 0} (xs : List A) (i : ℕ) (x : A) → slice_get xs i ≡ Some x → i < length xs
      inside [] i x at = absurd (cc)
      inside (y ∷ xs) zero x at = omega arith
      inside (y ∷ xs) (suc i) x at = let lt = inside xs i x at in omega (arith, lt)

      within : (i : ℕ) (q : Question) → slice_get s.questions i ≡ Some q → i < n
      within i q asked = let lt = inside s.questions i q asked in omega (arith, lt, le)

-- ---- the sessions

-- of the first sessions
pub record AreFoundTo (p : Presented) (es : List BasisEntry) (seal : Option Seal) (ss : List SessionState) (n : ℕ) (kinds : List Kind) : Type 0 where
  pub closings : AllByRecursion (HasClosings p es seal) (take n ss)
  pub are : (ts : List SessionAnswers) → AreAnswered p es seal ss ts → kinds ≡ last_kinds_in (take n ts)

none_in : (ts : List SessionAnswers) → last_kinds_in (take 0 ts) ≡ []
none_in [] = refl
none_in (t ∷ ts) = refl

pub none_found : (p : Presented) (es : List BasisEntry) (seal : Option Seal) (ss : List SessionState) → AreFoundTo p es seal ss 0 []
none_found p es seal [] = record { closings = tt; are = λ ts h. sym (none_in ts) }
none_found p es seal (s ∷ ss) = record { closings = tt; are = λ ts h. sym (none_in ts) }

in_both : (xs ys : List SessionAnswers) → last_kinds_in (xs ++ ys) ≡ last_kinds_in xs ++ last_kinds_in ys
in_both [] ys = refl
in_both (x ∷ xs) ys =
    ap (λ (zs : List Kind). map last_kind x.answers ++ zs) (in_both xs ys) ∙ sym (append_assoc (map last_kind x.answers) (last_kinds_in xs) (last_kinds_in ys))

module _ (p : Presented) (es : List BasisEntry) (seal : Option Seal) (ss : List SessionState) (n : ℕ) (kinds : List Kind)
    (to : AreFoundTo p es seal ss n kinds) where
  pub one_found : (s : SessionState) (next : List Kind) → n < length ss → s ≡ get_or ss n s → ArePut p es seal s kinds next
      → AreFoundTo p es seal ss (n + 1) next
  one_found s next lt is put = record {
    closings = all_more (HasClosings p es seal) ss n s lt is to.closings put.closings;
    are = λ ts h.
        let t : StandsAt ts n = stands_at ts n (omega (arith, lt, h.count)) in
        let own : IsSessionAnswered p es seal s t.item = h.each n s t.item (got ss n s lt is) t.here in
        let more : last_kinds_in (take (n + 1) ts) ≡ last_kinds_in (take n ts) ++ map last_kind t.item.answers =
        ap last_kinds_in (take_one ts n t.item t.here) ∙ in_both (take n ts) (t.item ∷ [])
        ∙ ap (λ (xs : List Kind). last_kinds_in (take n ts) ++ xs) (append-nil (map last_kind t.item.answers)) in
        put.are t.item own ∙ ap (λ (xs : List Kind). xs ++ map last_kind t.item.answers) (to.are ts h) ∙ sym more;
  }

  pub all_found : length ss ≤ n → AreFound p es seal ss kinds
  all_found le = record {
    closings = all_taken (HasClosings p es seal) ss n le to.closings;
    are = λ ts h. to.are ts h ∙ ap last_kinds_in (take_all n ts (omega (arith, le, h.count)));
  }

pub ruleset putting = (none_put, one_put, all_put)

pub ruleset finding = (none_found, one_found, all_found)
