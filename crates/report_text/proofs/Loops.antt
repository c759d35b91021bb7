-- One more piece of a text that is written in a loop.
use Rattle.std.proofs.Common.{◌≡◌, ◌≢◌, ℕ, zero, suc, ◌+◌, ◌-◌, ◌/◌, ◌<◌, ◌≤◌, List, [], ◌∷◌, ◌++◌, length, drop, slice_get, slice_index_or, Option, Some, refl}
use Rattle.std.proofs.Common.{sym, ap, subst, ◌∙◌, arith}
use Rattle.mb_io.specs.Shelf.{TakesPrefix}
use Rattle.presentation.specs.Presented.{Presented}
use Rattle.module_vec.specs.declared.places.Term.{Term}
use Rattle.module_vec.specs.declared.steps.Step.{Step}
use Rattle.report_lines.specs.declared.lines.Line.TheVariants as lines
use Rattle.report_lines.specs.Texts.{lines_text}
use Rattle.session_text.specs.declared.question.Question.{Question}
use Rattle.session_text.specs.Questions.{subjects}
use Rattle.hom_check.specs.Subjects.{subject_at}
use Rattle.basis_entry.specs.Entries.{BasisEntry}
use Rattle.basis_entry.specs.Seals.{Seal}
use Rattle.session_core.specs.declared.kept.Kept.{Kept}
use Rattle.session_core.specs.Sessions.{SessionState, AreRising}
use Rattle.session_core.specs.Proofs.{AreStepsOf}
use Rattle.report_text.specs.Answers.{AreProofsOf, IsAnswered, IsSessionAnswered}
use Rattle.report_text.specs.Histories.{Answered, SessionAnswers, proof_lines, live_lines, live_from}
use Rattle.report_text.specs.Writing.{Stops}
use Rattle.report_text.proofs.Lists.{StandsAt, stands_at}
use Rattle.report_text.proofs.Orders.{line_piece, proofs_left, no_proofs_left, live_skipped, none_live, live_left, rising_to}
use Rattle.report_text.proofs.Written.{Goes, goes_from, goes_more, goes_all, goes_stops}

index_there : {A : Type 0} (xs : List A) (i : ℕ) (d : A) → i < length xs → slice_get xs i ≡ Some (slice_index_or xs i d)
index_there [] i d lt = absurd (omega (arith, lt))
index_there (x ∷ xs) zero d lt = refl
index_there (x ∷ xs) (suc i) d lt = index_there xs i d (omega (arith, lt))

pub half_below : (d : ℕ) → 0 < d → d / 2 < d
half_below d some = grind arith

pub read_within : {A : Type 0} (xs : List A) (i : ℕ) (x : A) → slice_get xs i ≡ Some x → i < length xs
read_within [] i x is = absurd cc
read_within (y ∷ xs) zero x is = omega arith
read_within (y ∷ xs) (suc i) x is = let lt = read_within xs i x is in omega (arith, lt)

read_behind : {A : Type 0} (xs : List A) (m i : ℕ) (x : A) → slice_get (drop m xs) i ≡ Some x → slice_get xs (m + i) ≡ Some x
read_behind xs zero i x is = let e : i ≡ 0 + i = omega arith in subst (λ k. slice_get xs k ≡ Some x) e is
read_behind [] (suc m) i x is = absurd cc
read_behind (y ∷ xs) (suc m) i x is = let e : suc (m + i) ≡ suc m + i = omega arith in subst (λ k. slice_get (y ∷ xs) k ≡ Some x) e (read_behind xs m i x is)

-- ---- proofs

module _ (b : List (List Term)) (q : Question) (proofs : List (List Step)) (are : AreProofsOf b (subjects q) proofs) where
  pub proof_there : (i : ℕ) → i < length (subjects q) → StandsAt proofs i
  proof_there i lt = stands_at proofs i (omega (arith, lt, are.count))

  pub proof_is : (i : ℕ) (lt : i < length (subjects q)) → AreStepsOf b (subject_at q (i + 1)) (proof_there i lt).item
  unfolding proof_there
  proof_is i lt =
      let back : i ≡ i + 1 - 1 = omega arith in
      subst (λ k. AreStepsOf b (slice_index_or (subjects q) k []) (proof_there i lt).item) back
      (are.each i (slice_index_or (subjects q) i []) (proof_there i lt).item (index_there (subjects q) i [] lt) (proof_there i lt).here)

  pub proofs_go_on : (o m n : Option (List ℕ)) (p : Presented) (i : ℕ) (lt : i < length (subjects q))
      → Goes o (lines_text p (proof_lines 1 proofs)) (lines_text p (proof_lines (i + 1) (drop i proofs))) m
      → ((steps : List Step) → AreStepsOf b (subject_at q (i + 1)) steps → TakesPrefix m (line_piece p (lines.Proof (i + 1) steps)) n)
      → Goes o (lines_text p (proof_lines 1 proofs)) (lines_text p (proof_lines (i + 1 + 1) (drop (i + 1) proofs))) n
  proofs_go_on o m n p i lt goes took =
      let at : StandsAt proofs i = proof_there i lt in
      goes_more o m n (lines_text p (proof_lines 1 proofs)) (line_piece p (lines.Proof (i + 1) at.item))
      (lines_text p (proof_lines (i + 1 + 1) (drop (i + 1) proofs)))
      (subst (λ t. Goes o (lines_text p (proof_lines 1 proofs)) t m) (proofs_left p proofs i at) goes) (took at.item (proof_is i lt))

  pub proofs_stop : (o m n : Option (List ℕ)) (p : Presented) (i : ℕ) (lt : i < length (subjects q))
      → Goes o (lines_text p (proof_lines 1 proofs)) (lines_text p (proof_lines (i + 1) (drop i proofs))) m
      → ((steps : List Step) → AreStepsOf b (subject_at q (i + 1)) steps → Stops m (line_piece p (lines.Proof (i + 1) steps)) n)
      → Stops o (lines_text p (proof_lines 1 proofs)) n
  proofs_stop o m n p i lt goes stops =
      let at : StandsAt proofs i = proof_there i lt in
      goes_stops o m n (lines_text p (proof_lines 1 proofs)) (line_piece p (lines.Proof (i + 1) at.item))
      (lines_text p (proof_lines (i + 1 + 1) (drop (i + 1) proofs)))
      (subst (λ t. Goes o (lines_text p (proof_lines 1 proofs)) t m) (proofs_left p proofs i at) goes) (stops at.item (proof_is i lt))

  pub proofs_end : (o m : Option (List ℕ)) (p : Presented) (i : ℕ) → length (subjects q) ≤ i
      → Goes o (lines_text p (proof_lines 1 proofs)) (lines_text p (proof_lines (i + 1) (drop i proofs))) m
      → TakesPrefix o (lines_text p (proof_lines 1 proofs)) m
  proofs_end o m p i le goes =
      goes_all o m (lines_text p (proof_lines 1 proofs))
      (subst (λ t. Goes o (lines_text p (proof_lines 1 proofs)) t m) (no_proofs_left p proofs i (i + 1) (omega (arith, le, are.count))) goes)

-- ---- the answers of a session

module _ (base front : ℕ) (ks : List Kept) (rising : AreRising base ks) where
  kept_there : (i : ℕ) → i < length ks → StandsAt ks i
  kept_there i lt = stands_at ks i lt

  -- what stands up to a reply before the front is before it
  pub before_step : (m : ℕ) → 1 ≤ m → m ≤ length ks → ((k : Kept) → slice_get ks (m - 1) ≡ Some k → k.front < front)
      → (i : ℕ) (k : Kept) → i + 1 < m + 1 → slice_get ks i ≡ Some k → k.front < front
  before_step m first within earlier i k lt is =
      let at : StandsAt ks (m - 1) = stands_at ks (m - 1) (omega (arith, first, within)) in
      let le : k.front ≤ at.item.front = rising_to base ks i (m - 1) k at.item rising (omega (arith, lt)) is at.here in
      let less : at.item.front < front = earlier at.item at.here in
      omega (arith, le, less)

  -- what stands from a reply on that isn't before the front isn't either
  pub behind_step : (m : ℕ) → 1 ≤ m → m ≤ length ks → ((k : Kept) → slice_get ks (m - 1) ≡ Some k → k.front < front → ⊥)
      → (i : ℕ) (k : Kept) → m ≤ i + 1 → slice_get ks i ≡ Some k → front ≤ k.front
  behind_step m first within later i k le is =
      let at : StandsAt ks (m - 1) = stands_at ks (m - 1) (omega (arith, first, within)) in
      let up : at.item.front ≤ k.front = rising_to base ks (m - 1) i at.item k rising (omega (arith, le, first)) at.here is in
      let least : front ≤ at.item.front = not_less at.item.front front (later at.item at.here) in
      omega (arith, up, least)
    where
      not_less : (a b : ℕ) → (a < b → ⊥) → b ≤ a
      not_less a b not = grind arith

  -- a reply of another front that isn't before this one, and all behind it, are of other fronts
  pub other_behind : (m : ℕ) → 1 ≤ m → ((i : ℕ) (k : Kept) → m ≤ i + 1 → slice_get ks i ≡ Some k → front ≤ k.front)
      → ((k : Kept) → slice_get ks (m - 1) ≡ Some k → k.front ≡ front → ⊥)
      → (i : ℕ) (k : Kept) → m ≤ i + 1 → slice_get ks i ≡ Some k → k.front ≢ front
  other_behind m first behind other i k le is same =
      let lt : i < length ks = read_within ks i k is in
      let at : StandsAt ks (m - 1) = stands_at ks (m - 1) (omega (arith, le, lt, first)) in
      let low : front ≤ at.item.front = behind (m - 1) at.item (omega (arith, first)) at.here in
      let up : at.item.front ≤ k.front = rising_to base ks (m - 1) i at.item k rising (omega (arith, le, first)) at.here is in
      other at.item at.here (omega (arith, low, up, same))

-- what is written of a session that is answered
module _ (p : Presented) (es : List BasisEntry) (seal : Option Seal) (s : SessionState) (t : SessionAnswers) (are : IsSessionAnswered p es seal s t)
    (full : length s.kept ≡ length s.questions) where
  answer_there : (i : ℕ) → i < length s.kept → StandsAt t.answers i
  answer_there i lt = stands_at t.answers i (omega (arith, lt, are.count, full))

  answered : (i : ℕ) (k : Kept) (a : Answered) → slice_get s.kept i ≡ Some k → slice_get t.answers i ≡ Some a
      → (q : Question) × (slice_get s.questions i ≡ Some q) × IsAnswered p es seal q k a
  answered i k a is at =
      let lt : i < length s.kept = read_within s.kept i k is in
      let q : StandsAt s.questions i = stands_at s.questions i (omega (arith, lt, full)) in
      (q.item, q.here, are.each i q.item k a q.here is at)

  front_of : (i : ℕ) (k : Kept) (a : Answered) → slice_get s.kept i ≡ Some k → slice_get t.answers i ≡ Some a → a.live.front ≡ k.front
  front_of i k a is at = let h = answered i k a is at in h.2.front

  kept_at : (i : ℕ) (a : Answered) → slice_get t.answers i ≡ Some a → StandsAt s.kept i
  kept_at i a at = let lt : i < length t.answers = read_within t.answers i a at in stands_at s.kept i (omega (arith, lt, are.count, full))

  module _ (front : ℕ) where
    -- the first answers are of fronts before this one
    pub session_starts : (o : Option (List ℕ)) (m : ℕ) → 1 ≤ m → ((i : ℕ) (k : Kept) → i + 1 < m → slice_get s.kept i ≡ Some k → k.front < front)
        → Goes o (lines_text p (live_from front s.number 1 t.answers)) (lines_text p (live_from front s.number m (drop (m - 1) t.answers))) o
    session_starts o m first before =
        let e : 1 + (m - 1) ≡ m = omega (arith, first) in
        let skipped : live_from front s.number 1 t.answers ≡ live_from front s.number m (drop (m - 1) t.answers) =
        live_skipped front s.number 1 (m - 1) t.answers
        (λ i a lt at same. let k : StandsAt s.kept i = kept_at i a at in
        let less : k.item.front < front = before i k.item (omega (arith, lt)) k.here in
        let is : a.live.front ≡ k.item.front = front_of i k.item a k.here at in
        omega (arith, less, is, same))
        ∙ ap (λ k. live_from front s.number k (drop (m - 1) t.answers)) e in
        subst (λ l. Goes o (lines_text p (live_from front s.number 1 t.answers)) (lines_text p l) o) skipped
        (goes_from o (lines_text p (live_from front s.number 1 t.answers)))

    -- the answer that is next
    module _ (o m n : Option (List ℕ)) (number : ℕ) (first : 1 ≤ number) (k : Kept) (here : slice_get s.kept (number - 1) ≡ Some k) (same : k.front ≡ front)
        (goes : Goes o (lines_text p (live_from front s.number 1 t.answers))
        (lines_text p (live_from front s.number number (drop (number - 1) t.answers))) m) where
      next_answer : StandsAt t.answers (number - 1)
      next_answer = answer_there (number - 1) (read_within s.kept (number - 1) k here)

      split : Goes o (lines_text p (live_from front s.number 1 t.answers))
          (lines_text p (live_lines s.number number next_answer.item) ++ lines_text p
          (live_from front s.number (number + 1) (drop (number + 1 - 1) t.answers))) m
      split =
          let e : number - 1 + 1 ≡ number + 1 - 1 = omega (arith, first) in
          let is : next_answer.item.live.front ≡ front = front_of (number - 1) k next_answer.item here next_answer.here ∙ same in
          subst (λ l. Goes o (lines_text p (live_from front s.number 1 t.answers)) l m)
          (live_left front s.number p number (number - 1) t.answers next_answer is
          ∙ ap (λ j. lines_text p (live_lines s.number number next_answer.item) ++ lines_text p (live_from front s.number (number + 1) (drop j t.answers))) e)
          goes

      pub session_goes_on : ((q : Question) (a : Answered) → slice_get s.questions (number - 1) ≡ Some q → IsAnswered p es seal q k a
          → TakesPrefix m (lines_text p (live_lines s.number number a)) n)
          → Goes o (lines_text p (live_from front s.number 1 t.answers))
          (lines_text p (live_from front s.number (number + 1) (drop (number + 1 - 1) t.answers))) n
      session_goes_on took =
          let h = answered (number - 1) k next_answer.item here next_answer.here in
          goes_more o m n (lines_text p (live_from front s.number 1 t.answers)) (lines_text p (live_lines s.number number next_answer.item))
          (lines_text p (live_from front s.number (number + 1) (drop (number + 1 - 1) t.answers))) split
          (took h.0 next_answer.item h.1 h.2)

      pub session_stops : ((q : Question) (a : Answered) → slice_get s.questions (number - 1) ≡ Some q → IsAnswered p es seal q k a
          → Stops m (lines_text p (live_lines s.number number a)) n)
          → Stops o (lines_text p (live_from front s.number 1 t.answers)) n
      session_stops stops =
          let h = answered (number - 1) k next_answer.item here next_answer.here in
          goes_stops o m n (lines_text p (live_from front s.number 1 t.answers)) (lines_text p (live_lines s.number number next_answer.item))
          (lines_text p (live_from front s.number (number + 1) (drop (number + 1 - 1) t.answers))) split
          (stops h.0 next_answer.item h.1 h.2)

    -- no answer of the front is left
    pub session_ends : (o m : Option (List ℕ)) (base number : ℕ) → AreRising base s.kept → 1 ≤ number
        → ((i : ℕ) (k : Kept) → number ≤ i + 1 → slice_get s.kept i ≡ Some k → front ≤ k.front)
        → ((k : Kept) → slice_get s.kept (number - 1) ≡ Some k → k.front ≡ front → ⊥)
        → Goes o (lines_text p (live_from front s.number 1 t.answers)) (lines_text p (live_from front s.number number (drop (number - 1) t.answers))) m
        → TakesPrefix o (lines_text p (live_from front s.number 1 t.answers)) m
    session_ends o m base number rising first behind other goes =
        let none : live_from front s.number number (drop (number - 1) t.answers) ≡ [] =
        none_live front s.number number (drop (number - 1) t.answers)
        (λ i a at same. let at' : slice_get t.answers (number - 1 + i) ≡ Some a = read_behind t.answers (number - 1) i a at in
        let k : StandsAt s.kept (number - 1 + i) = kept_at (number - 1 + i) a at' in
        let is : a.live.front ≡ k.item.front = front_of (number - 1 + i) k.item a k.here at' in
        other_behind base front s.kept rising number first behind other (number - 1 + i) k.item (omega (arith, first)) k.here (sym is ∙ same)) in
        goes_all o m (lines_text p (live_from front s.number 1 t.answers))
        (subst (λ l. Goes o (lines_text p (live_from front s.number 1 t.answers)) (lines_text p l) m) none goes)
