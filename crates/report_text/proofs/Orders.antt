-- The lines that are left, behind those that were written.
use Rattle.std.proofs.Common.{◌≡◌, ◌≢◌, ℕ, zero, suc, ◌+◌, ◌<◌, ◌≤◌, ◌==◌, true, false, if◌then◌else◌, List, [], ◌∷◌, ◌++◌, length, drop, slice_get, Option}
use Rattle.std.proofs.Common.{Some, None, refl, ap, subst, ◌∙◌, append-nil, arith}
use Rattle.std.proofs.lemmas.Bool.Decides.{nat_tests}
use Rattle.std.proofs.lemmas.List.{drop_all}
use Rattle.presentation.specs.Presented.{Presented}
use Rattle.module_vec.specs.declared.steps.Step.{Step}
use Rattle.report_lines.specs.declared.lines.Line.{Line}
use Rattle.report_lines.specs.declared.lines.Line.TheVariants as lines
use Rattle.report_lines.specs.Texts.{line_text, lines_text}
use Rattle.basis_entry.specs.Entries.{BasisEntry}
use Rattle.basis_entry.specs.Seals.{Seal}
use Rattle.session_core.specs.declared.kept.Kept.{Kept}
use Rattle.session_core.specs.Sessions.{AreRising}
use Rattle.report_text.specs.Histories.{Answered, SessionAnswers, proof_lines, live_lines, closing_lines, live_from, live_at, closing_from, closing_of, made_by}
use Rattle.report_text.specs.Histories.{entry_lines, seal_lines, told_from}
use Rattle.report_text.proofs.Lists.{StandsAt}
use Rattle.report_text.proofs.Written.{lines_append}

-- the text of one line
abbrev pub line_piece : Presented → Line → List ℕ
line_piece p l = line_text p l ++ 10 ∷ []

-- ---- proofs

pub proofs_left : (p : Presented) (proofs : List (List Step)) (i : ℕ) (at : StandsAt proofs i)
    → lines_text p (proof_lines (i + 1) (drop i proofs)) ≡ line_piece p (lines.Proof (i + 1) at.item)
    ++ lines_text p (proof_lines (i + 1 + 1) (drop (i + 1) proofs))
proofs_left p proofs i at = ap (λ (l : List (List Step)). lines_text p (proof_lines (i + 1) l)) at.left

pub no_proofs_left : (p : Presented) (proofs : List (List Step)) (i j : ℕ) → length proofs ≤ i → lines_text p (proof_lines j (drop i proofs)) ≡ []
no_proofs_left p proofs i j le = ap (λ (l : List (List Step)). lines_text p (proof_lines j l)) (drop_all i proofs le)

-- ---- the answers of a session

module _ (front s : ℕ) where
  one_at : ℕ → Answered → List Line
  one_at n a = if a.live.front == front then live_lines s n a else []

  not_here : (n : ℕ) (a : Answered) → a.live.front ≢ front → one_at n a ≡ []
  unfolding one_at
  not_here n a ne = let e : (a.live.front == front) ≡ false = grind (arith, nat_tests) in rw e refl

  here : (n : ℕ) (a : Answered) → a.live.front ≡ front → one_at n a ≡ live_lines s n a
  unfolding one_at
  here n a is = let e : (a.live.front == front) ≡ true = grind (arith, nat_tests) in rw e refl

  -- answers at other fronts are left out
  pub live_skipped : (n m : ℕ) (xs : List Answered) → ((i : ℕ) (a : Answered) → i < m → slice_get xs i ≡ Some a → a.live.front ≢ front)
      → live_from front s n xs ≡ live_from front s (n + m) (drop m xs)
  unfolding one_at
  live_skipped n zero xs other = let e : n ≡ n + 0 = omega arith in ap (λ k. live_from front s k xs) e
  live_skipped n (suc m) [] other = refl
  live_skipped n (suc m) (a ∷ xs) other =
      let e : (n + 1) + m ≡ n + suc m = omega arith in
      ap (λ l. l ++ live_from front s (n + 1) xs) (not_here n a (other 0 a (omega arith) refl))
      ∙ live_skipped (n + 1) m xs (λ i b lt is. other (suc i) b (omega (arith, lt)) is)
      ∙ ap (λ k. live_from front s k (drop m xs)) e

  pub none_live : (n : ℕ) (xs : List Answered) → ((i : ℕ) (a : Answered) → slice_get xs i ≡ Some a → a.live.front ≢ front) → live_from front s n xs ≡ []
  unfolding one_at
  none_live n [] other = refl
  none_live n (a ∷ xs) other =
      ap (λ l. l ++ live_from front s (n + 1) xs) (not_here n a (other 0 a refl)) ∙ none_live (n + 1) xs (λ i b is. other (suc i) b is)

  pub live_left : (p : Presented) (n m : ℕ) (xs : List Answered) (at : StandsAt xs m) → at.item.live.front ≡ front
      → lines_text p (live_from front s n (drop m xs)) ≡ lines_text p (live_lines s n at.item) ++ lines_text p (live_from front s (n + 1) (drop (m + 1) xs))
  unfolding one_at
  live_left p n m xs at is =
      ap (λ (l : List Answered). lines_text p (live_from front s n l)) at.left
      ∙ ap (λ (l : List Line). lines_text p (l ++ live_from front s (n + 1) (drop (m + 1) xs))) (here n at.item is)
      ∙ lines_append p (live_lines s n at.item) (live_from front s (n + 1) (drop (m + 1) xs))

-- fronts rise
rising_from : (base : ℕ) (ks : List Kept) (i : ℕ) (k : Kept) → AreRising base ks → slice_get ks i ≡ Some k → base ≤ k.front
rising_from base [] i k r is = absurd cc
rising_from base (l ∷ ks) zero k r is = let e : l ≡ k = cc in subst (λ x. base ≤ x.front) e r.0
rising_from base (l ∷ ks) (suc i) k r is = let le = rising_from l.front ks i k r.1 is in omega (arith, r.0, le)

pub rising_to : (base : ℕ) (ks : List Kept) (i j : ℕ) (k l : Kept) → AreRising base ks → i ≤ j → slice_get ks i ≡ Some k → slice_get ks j ≡ Some l
    → k.front ≤ l.front
rising_to base [] i j k l r le is at = absurd cc
rising_to base (x ∷ ks) zero zero k l r le is at = let e : k ≡ l = cc in subst (λ y. k.front ≤ y.front) e (omega arith)
rising_to base (x ∷ ks) zero (suc j) k l r le is at = let e : x ≡ k = cc in subst (λ y. y.front ≤ l.front) e (rising_from x.front ks j l r.1 at)
rising_to base (x ∷ ks) (suc i) zero k l r le is at = absurd (omega (arith, le))
rising_to base (x ∷ ks) (suc i) (suc j) k l r le is at = rising_to x.front ks i j k l r.1 (omega (arith, le)) is at

-- ---- the answers of all sessions

pub sessions_left : (p : Presented) (front : ℕ) (ts : List SessionAnswers) (i : ℕ) (at : StandsAt ts i)
    → lines_text p (live_at front (drop i ts)) ≡ lines_text p (live_from front at.item.number 1 at.item.answers)
    ++ lines_text p (live_at front (drop (i + 1) ts))
sessions_left p front ts i at =
    ap (λ (l : List SessionAnswers). lines_text p (live_at front l)) at.left
    ∙ lines_append p (live_from front at.item.number 1 at.item.answers) (live_at front (drop (i + 1) ts))

pub no_sessions_left : (p : Presented) (front : ℕ) (ts : List SessionAnswers) (i : ℕ) → length ts ≤ i → lines_text p (live_at front (drop i ts)) ≡ []
no_sessions_left p front ts i le = ap (λ (l : List SessionAnswers). lines_text p (live_at front l)) (drop_all i ts le)

-- ---- closing answers

pub closing_left : (p : Presented) (s n m : ℕ) (xs : List Answered) (at : StandsAt xs m)
    → lines_text p (closing_from s n (drop m xs)) ≡ lines_text p (closing_lines s n at.item.question at.item.closing)
    ++ lines_text p (closing_from s (n + 1) (drop (m + 1) xs))
closing_left p s n m xs at =
    ap (λ (l : List Answered). lines_text p (closing_from s n l)) at.left
    ∙ lines_append p (closing_lines s n at.item.question at.item.closing) (closing_from s (n + 1) (drop (m + 1) xs))

pub no_closing_left : (p : Presented) (s n m : ℕ) (xs : List Answered) → length xs ≤ m → lines_text p (closing_from s n (drop m xs)) ≡ []
no_closing_left p s n m xs le = ap (λ (l : List Answered). lines_text p (closing_from s n l)) (drop_all m xs le)

pub closings_left : (p : Presented) (ts : List SessionAnswers) (i : ℕ) (at : StandsAt ts i)
    → lines_text p (closing_of (drop i ts)) ≡ lines_text p (closing_from at.item.number 1 at.item.answers) ++ lines_text p (closing_of (drop (i + 1) ts))
closings_left p ts i at =
    ap (λ (l : List SessionAnswers). lines_text p (closing_of l)) at.left
    ∙ lines_append p (closing_from at.item.number 1 at.item.answers) (closing_of (drop (i + 1) ts))

pub no_closings_left : (p : Presented) (ts : List SessionAnswers) (i : ℕ) → length ts ≤ i → lines_text p (closing_of (drop i ts)) ≡ []
no_closings_left p ts i le = ap (λ (l : List SessionAnswers). lines_text p (closing_of l)) (drop_all i ts le)

-- ---- items

-- what is told from the entry number k on
abbrev pub told_after : List SessionAnswers → List BasisEntry → Option Seal → ℕ → List Line
told_after ts es seal k = told_from ts k (entry_lines k (drop k es) ++ seal_lines seal)

pub items_left : (p : Presented) (ts : List SessionAnswers) (es : List BasisEntry) (seal : Option Seal) (k : ℕ) (at : StandsAt es k)
    → lines_text p (told_after ts es seal k) ≡ line_piece p (lines.Entry k (made_by at.item.recipe) at.item.vector)
    ++ (lines_text p (live_at (k + 1) ts) ++ lines_text p (told_after ts es seal (k + 1)))
items_left p ts es seal k at =
    ap (λ (l : List BasisEntry). lines_text p (told_from ts k (entry_lines k l ++ seal_lines seal))) at.left
    ∙ ap (λ (t : List ℕ). line_piece p (lines.Entry k (made_by at.item.recipe) at.item.vector) ++ t)
    (lines_append p (live_at (k + 1) ts) (told_after ts es seal (k + 1)))

pub seal_left : (p : Presented) (ts : List SessionAnswers) (es : List BasisEntry) (seal : Seal) (k : ℕ) → length es ≡ k
    → lines_text p (told_after ts es (Some seal) k) ≡ line_piece p lines.Seal ++ lines_text p (live_at (k + 1) ts)
seal_left p ts es seal k is =
    ap (λ (l : List BasisEntry). lines_text p (told_from ts k (entry_lines k l ++ lines.Seal ∷ []))) (drop_all k es (omega (arith, is)))
    ∙ ap (λ (l : List Line). line_piece p lines.Seal ++ lines_text p l) (append-nil (live_at (k + 1) ts))

pub nothing_left : (p : Presented) (ts : List SessionAnswers) (es : List BasisEntry) (k : ℕ) → length es ≡ k → lines_text p (told_after ts es None k) ≡ []
nothing_left p ts es k is = ap (λ (l : List BasisEntry). lines_text p (told_from ts k (entry_lines k l ++ []))) (drop_all k es (omega (arith, is)))
