-- Answers of a session, one at a time.
use Rattle.std.proofs.Common.{◌≡◌, ◌∙◌, subst, ℕ, zero, suc, Bool, true, false, List, [], ◌∷◌, take, filter, length, slice_get, if◌then◌else◌, refl, ap}
use Rattle.std.specs.Prelude.{Option, Some, None, cond, option_map, option_and_then, slice_index_or}
use Rattle.std.specs.List.{AllByRecursion}
use Rattle.free_words.specs.declared.letter.Letter.{Letter}
use Rattle.presentation.specs.Presented.{Presented}
use Rattle.module_vec.specs.declared.steps.Step.{Step}
use Rattle.session_text.specs.Questions.{subjects}
use Rattle.report_reading.specs.declared.data.ReportData.{ReportData}
use Rattle.report_reading.specs.declared.replies.ReplyData.{ReplyData}
use Rattle.report_reading.specs.Telling.{is_open}
use Rattle.flat_making.specs.Checked.{IsShownBy, ShowsSubjects, IsChecked}
use Rattle.check_commands.specs.declared.flat.ProofNumber.{ProofNumber}
use Rattle.check_commands.specs.Replies.{is_of, answers_of, left_open, last_answer, reply_at, reply_to, proof_at, proof_in}

-- ---- how many are left open

-- the next answer is one of the session's, of which so many are counted
first_taken : (session k : ℕ) (r : ReplyData) (rest : List ReplyData) → is_of session true r ≡ true
    → left_open (take (suc k) (answers_of session true (r ∷ rest))) ≡ left_open (r ∷ take k (answers_of session true rest))
first_taken session k r rest is = ap (λ b. left_open (take (suc k) (cond b (r ∷ answers_of session true rest) (answers_of session true rest)))) is

pub one_open : (session k : ℕ) (r : ReplyData) (rest : List ReplyData) → is_of session true r ≡ true → is_open r.verdict ≡ true
    → left_open (take (suc k) (answers_of session true (r ∷ rest))) ≡ suc (left_open (take k (answers_of session true rest)))
one_open session k r rest is opens =
    let others : List ReplyData = filter (λ x. is_open x.verdict) (take k (answers_of session true rest)) in
    first_taken session k r rest is ∙ ap (λ b. length (cond b (r ∷ others) others)) opens

pub one_settled : (session k : ℕ) (r : ReplyData) (rest : List ReplyData) → is_of session true r ≡ true → is_open r.verdict ≡ false
    → left_open (take (suc k) (answers_of session true (r ∷ rest))) ≡ left_open (take k (answers_of session true rest))
one_settled session k r rest is settled =
    let others : List ReplyData = filter (λ x. is_open x.verdict) (take k (answers_of session true rest)) in
    first_taken session k r rest is ∙ ap (λ b. length (cond b (r ∷ others) others)) settled

-- it is none of them
pub one_passed : (session k : ℕ) (r : ReplyData) (rest : List ReplyData) → is_of session true r ≡ false
    → left_open (take k (answers_of session true (r ∷ rest))) ≡ left_open (take k (answers_of session true rest))
one_passed session k r rest is = ap (λ b. left_open (take k (cond b (r ∷ answers_of session true rest) (answers_of session true rest)))) is

-- ---- what holds of all answers holds of the one that is asked for

some_same : {X : Type 0} {x y : X} → Some x ≡ Some y → x ≡ y
some_same e = cc

kept_by : (P : ReplyData → Type 0) (x : ReplyData) (rest : List ReplyData) (r : ReplyData) → P x
    → ((i : ℕ) → slice_get rest i ≡ Some r → P r) → (b : Bool) (i : ℕ) → slice_get (cond b (x ∷ rest) rest) i ≡ Some r → P r
kept_by P x rest r has others true zero is = subst P (some_same is) has
kept_by P x rest r has others true (suc i) is = others i is
kept_by P x rest r has others false i is = others i is

kept : (P : ReplyData → Type 0) (test : ReplyData → Bool) (rs : List ReplyData) (i : ℕ) (r : ReplyData) → AllByRecursion P rs
    → slice_get (filter test rs) i ≡ Some r → P r
kept P test [] i r all is = absurd cc
kept P test (x ∷ rs) i r all is = kept_by P x (filter test rs) r all.0 (λ k there. kept P test rs k r all.1 there) (test x) i is

and_then_some : {X Y : Type 0} (f : X → Option Y) (o : Option X) (y : Y) → option_and_then f o ≡ Some y → (x : X) × (o ≡ Some x) × (f x ≡ Some y)
and_then_some f None y is = absurd cc
and_then_some f (Some x) y is = (x, refl, is)

map_some : {X Y : Type 0} (f : X → Y) (o : Option X) (y : Y) → option_map f o ≡ Some y → (x : X) × (o ≡ Some x) × (f x ≡ y)
map_some f None y is = absurd cc
map_some f (Some x) y is = (x, refl, some_same is)

module _ (P : ReplyData → Type 0) (rs : List ReplyData) (all : AllByRecursion P rs) where
  last_has : (session place : ℕ) (first r : ReplyData) → P first → last_answer session place rs first ≡ Some r → P r
  last_has session place first r has is = by (is_open first.verdict) is
    where
      by : (b : Bool)
          → (if b then slice_get (answers_of session false rs) (left_open (take place (answers_of session true rs))) else Some first) ≡ Some r → P r
      by true is = kept P (is_of session false) rs (left_open (take place (answers_of session true rs))) r all is
      by false is = subst P (some_same is) has

  reply_has : (session number : ℕ) (r : ReplyData) → reply_to session number rs ≡ Some r → P r
  reply_has session zero r is = absurd cc
  reply_has session (suc place) r is =
      let (first, there, last) = and_then_some (last_answer session place rs) (slice_get (answers_of session true rs) place) r is in
      last_has session place first r (kept P (is_of session true) rs place first all there) last

subject_shown : (p : Presented) (d : ReportData) (r : ReplyData) (j : ℕ) (w : List Letter) (steps : List Step) → ShowsSubjects p d.entries r
    → proof_at r j ≡ Some (w, steps) → IsShownBy p d.entries w steps
subject_shown p d r zero w steps shows is = absurd cc
subject_shown p d r (suc j) w steps shows is =
    let (found, there, same) = map_some (λ (ss : List Step). (slice_index_or (subjects r.question) j [], ss)) (slice_get r.proofs j) (w, steps) is in
    subst (λ (x : List Letter × List Step). IsShownBy p d.entries x.0 x.1) same (shows j found there).1

-- the proof that is asked for shows its subject
pub found_shown : (p : Presented) (d : ReportData) (at : ProofNumber) (w : List Letter) (steps : List Step) → IsChecked p d
    → proof_in at d.replies ≡ Some (w, steps) → IsShownBy p d.entries w steps
found_shown p d at w steps checked is =
    let (r, there, has) = and_then_some (λ (r : ReplyData). proof_at r at.subject) (reply_to at.session at.question d.replies) (w, steps) is in
    subject_shown p d r at.subject w steps (reply_has (ShowsSubjects p d.entries) d.replies checked.proofs at.session at.question r there) has
