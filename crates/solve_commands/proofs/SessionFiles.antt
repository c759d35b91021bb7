-- Sessions that are read one after another.
use Rattle.std.proofs.Common.{◌≡◌, ℕ, zero, suc, ◌+◌, ◌<◌, ◌≤◌, inl, inr, List, [], ◌∷◌, ◌++◌, length, take, Option, Some, slice_get, slice_index_or, sym, ap}
use Rattle.std.proofs.Common.{subst, arith, refl}
use denote.Bor.{Bor}
use Rattle.command_floor.specs.Parsing.{shown}
use Rattle.std.proofs.lemmas.List.{map-append}
use Rattle.presentation.specs.Presented.{Presented}
use Rattle.session_text.specs.declared.question.Question.{Question}
use Rattle.session_core.specs.Sessions.{SessionState}
use Rattle.legal_report.specs.Gathering.{questions_of}
use Rattle.command_floor.specs.Answers.{Answer}
use Rattle.solve_commands.specs.SessionFiles.{AreQuestionsIn, AreQuestionsUnder, SessionFails, SessionsFail}
use Rattle.legal_report.specs.Solutions.{IsNewSession, AreNewSessions}
use Rattle.legal_report.proofs.Fronts.{split_get}

-- ---- one after another

-- so many sessions are read
pub record AreRead (under : List ℕ → Option (List ℕ)) (p : Presented) (least : ℕ) (names : List (List ℕ)) (n : ℕ) (ss : List SessionState) : Type 0 where
  pub texts : AreQuestionsUnder under p (take n names) (questions_of ss)
  pub count : length ss ≡ n
  pub new : AreNewSessions p least ss

pub none_read : (under : List ℕ → Option (List ℕ)) (p : Presented) (least : ℕ) (names : List (List ℕ)) → AreRead under p least names 0 []
none_read under p least names = record { texts = tt; count = refl; new = λ i s at. absurd (cc) }

more_under : (under : List ℕ → Option (List ℕ)) (p : Presented) (names : List (List ℕ)) (i : ℕ) (name : List ℕ) (qss : List (List Question))
    (qs : List Question)
    → slice_get names i ≡ Some name → AreQuestionsUnder under p (take i names) qss → AreQuestionsIn p (under name) qs
    → AreQuestionsUnder under p (take (suc i) names) (qss ++ qs ∷ [])
more_under under p [] i name qss qs at are own = absurd (cc)
more_under under p (n ∷ names) zero name [] qs at are own = let e : n ≡ name = cc in (subst (λ (m : List ℕ). AreQuestionsIn p (under m) qs) (sym e) own, tt)
more_under under p (n ∷ names) zero name (x ∷ qss) qs at are own = absurd are
more_under under p (n ∷ names) (suc i) name [] qs at are own = absurd are
more_under under p (n ∷ names) (suc i) name (x ∷ qss) qs at are own = (are.0, more_under under p names i name qss qs at are.1 own)

one_at : (x s : SessionState) (j : ℕ) → slice_get (x ∷ []) j ≡ Some s → (j ≡ 0) × (x ≡ s)
one_at x s zero at = (refl, cc)
one_at x s (suc j) at = absurd (cc)

pub one_read : (under : List ℕ → Option (List ℕ)) (p : Presented) (least : ℕ) (names : List (List ℕ)) (n : ℕ) (ss : List SessionState) (name : List ℕ)
    (qs : List Question) (s : SessionState)
    → AreRead under p least names n ss → slice_get names n ≡ Some name → AreQuestionsIn p (under name) qs → s.questions ≡ qs → IsNewSession p least (n + 1) s
    → AreRead under p least names (n + 1) (ss ++ s ∷ [])
one_read under p least names n ss name qs s read at own same new =
    let next : suc n ≡ n + 1 = omega arith in
    let all : AreQuestionsUnder under p (take (suc n) names) (questions_of ss ++ s.questions ∷ []) =
    more_under under p names n name (questions_of ss) s.questions at read.texts (subst (AreQuestionsIn p (under name)) (sym same) own) in
    let both : questions_of (ss ++ s ∷ []) ≡ questions_of ss ++ s.questions ∷ [] = map-append (λ (x : SessionState). x.questions) ss (s ∷ []) in
    let long = length_more ss in
    record {
      texts = subst (λ (qss : List (List Question)). AreQuestionsUnder under p (take (n + 1) names) qss) (sym both)
          (subst (λ (m : ℕ). AreQuestionsUnder under p (take m names) (questions_of ss ++ s.questions ∷ [])) next all);
      count = let c = read.count in omega (arith, long, c);
      new = λ i t here. elim (split_get ss (s ∷ []) i t here) [
        | inl h ↦ read.new i t h
        | inr h ↦
            let one = one_at s t h.0 h.2 in
            let place : n + 1 ≡ i + 1 = let a : i ≡ length ss + h.0 = h.1 in let b : h.0 ≡ 0 = one.0 in let c = read.count in omega (arith, a, b, c) in
            subst (λ (m : ℕ). IsNewSession p least m t) place (subst (IsNewSession p least (n + 1)) one.1 new)
      ];
    }
  where
    length_more : (xs : List SessionState) → length (xs ++ s ∷ []) ≡ length xs + 1
    length_more [] = refl
    length_more (x ∷ xs) = let e : length (xs ++ s ∷ []) ≡ length xs + 1 = length_more xs in omega (arith, e)

-- the name at a place
pub name_at : (xs : List (Bor (List ℕ))) (i : ℕ) (x : Bor (List ℕ)) → i < length xs → slice_get (shown xs) i ≡ Some (slice_index_or xs i x).now
name_at [] i x lt = absurd (omega (arith, lt))
name_at (y ∷ xs) zero x lt = refl
name_at (y ∷ xs) (suc i) x lt = name_at xs i x (omega (arith, lt))

-- the session under the name at a place is read behind those before it, and the shelf tells as before
pub one_more : (under before : List ℕ → Option (List ℕ)) (p : Presented) (least : ℕ) (names : List (Bor (List ℕ))) (n : ℕ) (x : Bor (List ℕ))
    (ss all : List SessionState) (qs : List Question) (s : SessionState)
    → AreRead under p least (shown names) n ss → n < length names → ((m : List ℕ) → before m ≡ under m)
    → AreQuestionsIn p (before (slice_index_or names n x).now) qs
    → s.questions ≡ qs → IsNewSession p least (n + 1) s → all ≡ ss ++ s ∷ [] → AreRead under p least (shown names) (n + 1) all
one_more under before p least names n x ss all qs s read lt same own are new is =
    let name : List ℕ = (slice_index_or names n x).now in
    subst (AreRead under p least (shown names) (n + 1)) (sym is)
    (one_read under p least (shown names) n ss name qs s read (name_at names n x lt)
    (subst (λ (told : Option (List ℕ)). AreQuestionsIn p told qs) (same name) own) are new)

-- all are read
pub all_read : (under : List ℕ → Option (List ℕ)) (p : Presented) (least : ℕ) (names : List (List ℕ)) (n : ℕ) (ss : List SessionState)
    → AreRead under p least names n ss → length names ≤ n
    → AreQuestionsUnder under p names (questions_of ss)
all_read under p least names n ss read le = subst (λ (ns : List (List ℕ)). AreQuestionsUnder under p ns (questions_of ss)) (whole names n le) read.texts
  where
    whole : (xs : List (List ℕ)) (m : ℕ) → length xs ≤ m → take m xs ≡ xs
    whole [] zero le = refl
    whole [] (suc m) le = refl
    whole (x ∷ xs) zero le = absurd (omega (arith, le))
    whole (x ∷ xs) (suc m) le = ap (λ (ys : List (List ℕ)). x ∷ ys) (whole xs m (omega (arith, le)))

-- ---- a shelf that tells the same

module _ (u v : List ℕ → Option (List ℕ)) (same : (n : List ℕ) → u n ≡ v n) where
  -- the questions of the sessions
  questions_same : (p : Presented) (names : List (List ℕ)) (qss : List (List Question)) → AreQuestionsUnder u p names qss → AreQuestionsUnder v p names qss
  questions_same p [] [] are = tt
  questions_same p [] (qs ∷ qss) are = absurd are
  questions_same p (name ∷ names) [] are = absurd are
  questions_same p (name ∷ names) (qs ∷ qss) are = (
    subst (λ (told : Option (List ℕ)). AreQuestionsIn p told qs) (same name) are.0,
    questions_same p names qss are.1,
  )

  fails_same : (counted later : Type 0) → (counted → later) → (p : Presented) (name : List ℕ) (told : Option (List ℕ)) (a : Answer)
      → SessionFails counted p name told a → SessionFails later p name told a
  fails_same counted later on p name told a (inl h) = inl (on h.0, h.1)
  fails_same counted later on p name told a (inr h) = inr h

  -- what goes wrong with one of them
  pub fail_same : (counted later : Type 0) → (counted → later) → (p : Presented) (names : List (List ℕ)) (a : Answer) → SessionsFail counted u p names a
      → SessionsFail later v p names a
  fail_same counted later on p names a fail = record {
    place = fail.place;
    name = fail.name;
    is = fail.is;
    before = fail.before;
    read = questions_same p (take fail.place names) fail.before fail.read;
    fails = fails_same counted later on p fail.name (v fail.name) a (subst (λ (told : Option (List ℕ)). SessionFails counted p fail.name told a)
        (same fail.name) fail.fails);
  }

-- the questions of sessions that were read from a shelf which tells the same
pub asked_same : (u v : List ℕ → Option (List ℕ)) → ((n : List ℕ) → u n ≡ v n) → (p : Presented) (names : List (List ℕ)) (qss : List (List Question))
    → AreQuestionsUnder u p names qss → AreQuestionsUnder v p names qss
asked_same u v same p names qss are = questions_same u v same p names qss are
