-- Actors that are put one after another.
use Rattle.std.proofs.Common.{◌≡◌, ℕ, zero, suc, ◌+◌, List, [], ◌∷◌, ◌++◌, length, map, Option, None, Some, false, refl, sym, ap, ◌∙◌, arith}
use Rattle.std.specs.List.{AllByRecursion, cons_option, range_with_len}
use Rattle.std.specs.Prelude.{slice_get}
use Rattle.std.proofs.lemmas.List.{append-nil, length-map, map-append}
use Rattle.std.proofs.lemmas.List.Elements.{filter_map-append}
use Rattle.presentation.specs.Presented.{Presented}
use Rattle.basis_log.specs.Items.{LogItem}
use Rattle.basis_log.specs.Rows.{row_source}
use Rattle.basis_log.specs.Seats.{Seen, items_of}
use Rattle.session_core.specs.Sessions.{SessionState}
use Rattle.completion_workers.specs.declared.actors.Actor.{Actor}
use Rattle.completion_workers.specs.declared.actors.Actor.TheVariants.{Worker, Session}
use Rattle.completion_workers.specs.Acting.{IsReady, IsFresh}
use Rattle.legal_report.specs.Solutions.{IsNewSession}
use Rattle.legal_report.specs.Seats.{Seated, sessions_of}
use Rattle.threaded_run.specs.Parts.{session_in, seated_in, number_in, numbers_in, AreCast}

all_one_more : {X : Type 0} (P : X → Type 0) (xs : List X) (x : X) → AllByRecursion P xs → P x → AllByRecursion P (xs ++ x ∷ [])
all_one_more P [] x all own = (own, tt)
all_one_more P (y ∷ xs) x all own = (all.0, all_one_more P xs x all.1 own)

seated_more : (xs ys : List Actor) → seated_in (xs ++ ys) ≡ seated_in xs ++ seated_in ys
seated_more xs ys = filter_map-append session_in xs ys

range_more : (a n : ℕ) → range_with_len a (suc n) ≡ range_with_len a n ++ (a + n) ∷ []
range_more a zero = ap (λ (k : ℕ). k ∷ []) (omega arith)
range_more a (suc n) =
    let last : a + 1 + n ≡ a + suc n = omega arith in
    ap (λ (ks : List ℕ). a ∷ ks) (range_more (a + 1) n ∙ ap (λ (k : ℕ). range_with_len (a + 1) n ++ k ∷ []) last)

-- one number more
next_number : (n : ℕ) → range_with_len 1 n ++ (n + 1) ∷ [] ≡ range_with_len 1 (n + 1)
next_number n =
    let last : n + 1 ≡ 1 + n = omega arith in
    let next : suc n ≡ n + 1 = omega arith in
    ap (λ (k : ℕ). range_with_len 1 n ++ k ∷ []) last ∙ sym (range_more 1 n) ∙ ap (range_with_len 1) next

pub none_cast : (p : Presented) → AreCast p 0 [] []
none_cast p = record { ready = tt; workers = refl; sessions = refl }

pub worker_cast : (p : Presented) (n : ℕ) (xs : List Actor) (seat : Seen) → AreCast p n [] xs → row_source seat.row ≡ p
    → AreCast p (n + 1) [] (xs ++ Worker (n + 1) seat ∷ [])
worker_cast p n xs seat are source = record {
  ready = all_one_more (IsReady p) xs (Worker (n + 1) seat) are.ready source;
  workers = filter_map-append number_in xs (Worker (n + 1) seat ∷ [])
      ∙ ap (λ (ks : List ℕ). ks ++ (n + 1) ∷ []) are.workers
      ∙ next_number n;
  sessions = ap sessions_of (seated_more xs (Worker (n + 1) seat ∷ []) ∙ append-nil (seated_in xs)) ∙ are.sessions;
}

pub session_cast : (p : Presented) (n : ℕ) (ss : List SessionState) (xs : List Actor) (s : SessionState) (seat : Seen) → AreCast p n ss xs
    → IsFresh p s seat false → AreCast p n (ss ++ s ∷ []) (xs ++ Session s seat false ∷ [])
session_cast p n ss xs s seat are fresh = record {
  ready = all_one_more (IsReady p) xs (Session s seat false) are.ready fresh;
  workers = filter_map-append number_in xs (Session s seat false ∷ []) ∙ append-nil (numbers_in xs) ∙ are.workers;
  sessions = ap sessions_of (seated_more xs (Session s seat false ∷ []))
      ∙ map-append (λ (x : Seated). x.0) (seated_in xs) ((s, Some seat) ∷ [])
      ∙ ap (λ (zs : List SessionState). zs ++ s ∷ []) are.sessions;
}

-- a new session with a seat that has seen the generator entries alone
pub fresh : (p : Presented) (n : ℕ) (s : SessionState) (seat : Seen) → row_source seat.row ≡ p → seat.items ≡ items_of seat.row.base []
    → IsNewSession p (length seat.row.base) n s → IsFresh p s seat false
fresh p n s seat source items new =
    let all = ap length items in
    let nil = ap length (append-nil (map LogItem.an_entry seat.row.base)) in
    let mapped = length-map seat.row.base LogItem.an_entry in
    record {
      source = source;
      base = new.base;
      begins = omega (arith, all, nil, mapped);
      questions = new.questions;
      kept = new.kept;
      dry = refl;
    }

-- ---- lists

pub nothing_left : {X : Type 0} (xs : List X) → length xs ≡ 0 → xs ≡ []
nothing_left [] none = refl
nothing_left (x ∷ xs) none = absurd (omega (arith, none))

pub mid_get : {X : Type 0} (xs ys : List X) (x : X) → slice_get (xs ++ x ∷ ys) (length xs) ≡ Some x
mid_get [] ys x = refl
mid_get (y ∷ xs) ys x = mid_get xs ys x

-- one actor more, which is a session or isn't
pub one_seated : (xs : List Actor) (a : Actor) (s : Seated) (got : List Seated) → got ≡ seated_in xs → session_in a ≡ Some s
    → got ++ s ∷ [] ≡ seated_in (xs ++ a ∷ [])
one_seated xs a s got is one = rw is (sym (seated_more xs (a ∷ []) ∙ ap (λ (o : Option Seated). seated_in xs ++ cons_option o []) one))

pub none_seated : (xs : List Actor) (a : Actor) (got : List Seated) → got ≡ seated_in xs → session_in a ≡ None → got ≡ seated_in (xs ++ a ∷ [])
none_seated xs a got is none =
    is ∙ sym (seated_more xs (a ∷ []) ∙ ap (λ (o : Option Seated). seated_in xs ++ cons_option o []) none ∙ append-nil (seated_in xs))
