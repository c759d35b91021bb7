-- The sessions of a run when its actors have ended.
use Rattle.std.proofs.Common.{◌≡◌, ℕ, zero, suc, List, [], ◌∷◌, ◌++◌, length, take, Some, slice_get}
use Rattle.std.proofs.Common.{◌+◌, refl, sym, ap, subst, ◌∙◌, arith}
use Rattle.std.proofs.Math.Seq.{take-append_seam}
use Rattle.presentation.specs.Presented.{Presented}
use Rattle.pair_book.specs.declared.limits.Limits.{Limits}
use Rattle.pair_book.specs.Books.{Held}
use Rattle.basis_log.specs.Seats.{Seen}
use Rattle.session_core.specs.Sessions.{SessionState}
use Rattle.completion_workers.specs.declared.actors.Actor.{Actor}
use Rattle.completion_workers.specs.declared.actors.Actor.TheVariants.{Worker, Session}
use Rattle.completion_workers.specs.Acting.{HasAnswered, HaveActed}
use Rattle.legal_report.specs.Gathering.{questions_of}
use Rattle.legal_report.specs.Solutions.{IsNewSession, AreNewSessions}
use Rattle.legal_report.specs.Seats.{Seated, sessions_of, IsBaseCount, HasAskedOver, IsActor, AreActors}
use Rattle.threaded_run.specs.Parts.{seated_in, AreCast}

-- a session that was new has asked over its seat
over : (p : Presented) (base n : ℕ) (s t : SessionState) (seat after : Seen) (dry : _) → IsBaseCount p base → IsNewSession p base n s
    → HasAnswered p s t seat after dry → HasAskedOver p after n t
over p base n s t seat after dry counted new acted =
    let base_is : t.base ≡ base = acted.base ∙ new.base in
    record {
      base = subst (IsBaseCount p) (sym base_is) counted;
      asked = record {
        number = acted.number ∙ new.number;
        base = refl;
        questions = acted.left.questions;
        replies = acted.left.answers.replies;
        fronts = acted.left.answers.fronts;
      };
    }

-- sessions numbered from n + 1 on
abbrev pub AreNewFrom : Presented → ℕ → ℕ → List SessionState → Type 0
AreNewFrom p base n ss = (i : ℕ) (s : SessionState) → slice_get ss i ≡ Some s → IsNewSession p base (n + i + 1) s

abbrev pub AreActorsFrom : Presented → Limits → Held → ℕ → List Seated → Type 0
AreActorsFrom p limits book n xs = (i : ℕ) (a : Seated) → slice_get xs i ≡ Some a → IsActor p limits book (n + i + 1) a

rest_new : (p : Presented) (base n : ℕ) (s : SessionState) (ss : List SessionState) → AreNewFrom p base n (s ∷ ss) → AreNewFrom p base (n + 1) ss
rest_new p base n s ss new i t at = subst (λ (m : ℕ). IsNewSession p base m t) (omega arith) (new (suc i) t at)

actors_after : (p : Presented) (limits : Limits) (book : Held) (base n : ℕ) (olds news : List Actor) → IsBaseCount p base
    → AreNewFrom p base n (sessions_of (seated_in olds)) → HaveActed p olds news → length news ≡ length olds → AreActorsFrom p limits book n (seated_in news)
actors_after p limits book base n [] [] counted new acted many i a at = absurd cc
actors_after p limits book base n [] (y ∷ ys) counted new acted many i a at = absurd (omega (arith, many))
actors_after p limits book base n (x ∷ xs) [] counted new acted many i a at = absurd (omega (arith, many))
actors_after p limits book base n (Worker w seat ∷ xs) (Worker m after ∷ ys) counted new acted many i a at =
    actors_after p limits book base n xs ys counted new (λ j o k h l. acted (suc j) o k h l) (omega (arith, many)) i a at
actors_after p limits book base n (Worker w seat ∷ xs) (Session t after dry ∷ ys) counted new acted many i a at = absurd (acted 0 _ _ refl refl)
actors_after p limits book base n (Session s seat d ∷ xs) (Worker m after ∷ ys) counted new acted many i a at = absurd (acted 0 _ _ refl refl)
actors_after p limits book base n (Session s seat d ∷ xs) (Session t after dry ∷ ys) counted new acted many zero a at =
    let first : HasAnswered p s t seat after dry = acted 0 _ _ refl refl in
    let is : (t, Some after) ≡ a = cc in
    subst (IsActor p limits book (n + 0 + 1)) is (over p base (n + 0 + 1) s t seat after dry counted (new 0 s refl) first)
actors_after p limits book base n (Session s seat d ∷ xs) (Session t after dry ∷ ys) counted new acted many (suc i) a at =
    subst (λ (m : ℕ). IsActor p limits book m a) (omega arith)
    (actors_after p limits book base (n + 1) xs ys counted (rest_new p base n s (sessions_of (seated_in xs)) new)
    (λ j o k h l. acted (suc j) o k h l) (omega (arith, many)) i a at)

-- their questions are the same
questions_after : (p : Presented) (olds news : List Actor) → HaveActed p olds news → length news ≡ length olds
    → questions_of (sessions_of (seated_in news)) ≡ questions_of (sessions_of (seated_in olds))
questions_after p [] [] acted many = refl
questions_after p [] (y ∷ ys) acted many = absurd (omega (arith, many))
questions_after p (x ∷ xs) [] acted many = absurd (omega (arith, many))
questions_after p (Worker w seat ∷ xs) (Worker m after ∷ ys) acted many =
    questions_after p xs ys (λ j o k h l. acted (suc j) o k h l) (omega (arith, many))
questions_after p (Worker w seat ∷ xs) (Session t after dry ∷ ys) acted many = absurd (acted 0 _ _ refl refl)
questions_after p (Session s seat d ∷ xs) (Worker m after ∷ ys) acted many = absurd (acted 0 _ _ refl refl)
questions_after p (Session s seat d ∷ xs) (Session t after dry ∷ ys) acted many =
    let first : HasAnswered p s t seat after dry = acted 0 _ _ refl refl in
    let rest = questions_after p xs ys (λ j o k h l. acted (suc j) o k h l) (omega (arith, many)) in
    rw (first.questions, rest) refl

-- a vector that was lent whole holds what was made of it
pub given_back : (n : ℕ) (news rest : List Actor) → n ≡ length news → take n (news ++ rest) ≡ news
given_back n news rest e = ap (λ (k : ℕ). take k (news ++ rest)) e ∙ take-append_seam news rest

-- ---- what the actors of a run have left, where it began with these sessions

pub can_be_gathered : (p : Presented) (limits : Limits) (book : Held) (base n : ℕ) (ss : List SessionState) (olds news : List Actor) → IsBaseCount p base
    → AreNewSessions p base ss → AreCast p n ss olds → HaveActed p olds news → length news ≡ length olds → AreActors p limits book (seated_in news)
can_be_gathered p limits book base n ss olds news counted new are acted many i a at =
    let from : AreNewFrom p base 0 ss = λ j s here. subst (λ (m : ℕ). IsNewSession p base m s) (omega arith) (new j s here) in
    subst (λ (m : ℕ). IsActor p limits book m a) (omega arith)
    (actors_after p limits book base 0 olds news counted (subst (AreNewFrom p base 0) (sym are.sessions) from) acted many i a at)

pub questions_stay : (p : Presented) (n : ℕ) (ss : List SessionState) (olds news : List Actor) → AreCast p n ss olds → HaveActed p olds news
    → length news ≡ length olds → questions_of (sessions_of (seated_in news)) ≡ questions_of ss
questions_stay p n ss olds news are acted many = questions_after p olds news acted many ∙ ap questions_of are.sessions
