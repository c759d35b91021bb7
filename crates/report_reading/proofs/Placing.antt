-- The last reply, the first question that is open, and a line that may follow.
use Rattle.std.proofs.Common.{◌≡◌, ◌↔◌, ℕ, Bool, false, List, [], ◌∷◌, ◌++◌, slice_get, IsTrue, refl, sym, ap, subst, ◌∙◌}
use Rattle.std.specs.Prelude.{Option, Some, None, Result, Ok, Err, IfOk}
use Rattle.presentation.specs.Presented.{Presented, IsPresented}
use Rattle.module_vec.specs.declared.steps.Step.{Step}
use Rattle.session_text.specs.declared.question.Question.{Question}
use Rattle.report_lines.proofs.ReadingBack.{one_line}
use Rattle.report_lines.proofs.TrimmedTexts.{one_trimmed_line}
use Rattle.report_reading.specs.declared.replies.ReplyData.{ReplyData}
use Rattle.report_reading.specs.declared.form.Form.{Form}
use Rattle.report_reading.specs.declared.form.Form.TheVariants.{Whole, Trimmed}
use Rattle.report_reading.specs.Telling.{Told, IsNextOpen, with_proof}
use Rattle.report_reading.specs.Forms.{LineIn, IsLineIn, text_in, FollowsIn, tell_in}
use Rattle.report_reading.specs.Reading.{Takes, TakesBytes}

-- the last reply gets one more proof
pub proof_behind : (steps : List Step) (rs : List ReplyData) (r : ReplyData)
    → with_proof steps (rs ++ r ∷ []) ≡ rs ++ record r { proofs = r.proofs ++ steps ∷ [] } ∷ []
proof_behind steps [] r = refl
proof_behind steps (s ∷ []) r = refl
proof_behind steps (s ∷ t ∷ rs) r = ap (λ l. s ∷ l) (proof_behind steps (t ∷ rs) r)

pub proof_put : (steps : List Step) (old rest new : List ReplyData) (r : ReplyData) (proofs : List (List Step)) → old ≡ rest ++ r ∷ []
    → proofs ≡ r.proofs ++ steps ∷ []
    → new ≡ rest ++ record r { proofs = proofs } ∷ [] → new ≡ with_proof steps old
proof_put steps old rest new r proofs popped more pushed =
    pushed ∙ (ap (λ (ps : List (List Step)). rest ++ record r { proofs = ps } ∷ []) more
    ∙ (sym (proof_behind steps rest r) ∙ ap (with_proof steps) (sym popped)))

some_same : {X : Type 0} {x y : X} → Some x ≡ Some y → x ≡ y
some_same e = cc

-- what the first open question is
first_place : (t : Told) (s n place : ℕ) (at : ℕ × ℕ) (q : Question) → slice_get t.left_open 0 ≡ Some (at, place) → (o : IsNextOpen t s n q) → o.place ≡ place
first_place t s n place at q first o = ap (λ x. x.1) (some_same (sym o.first ∙ first))

pub next_open : (t : Told) (s n place : ℕ) (at : ℕ × ℕ) (q : Question) (reply : ReplyData) (b : Bool) → slice_get t.left_open 0 ≡ Some (at, place) → at ≡ (s, n)
    → slice_get t.replies place ≡ Some reply → IsTrue b ↔ (reply.question ≡ q) → IsTrue b ↔ IsNextOpen t s n q
next_open t s n place at q reply b first same is asked = (
  λ truth. record { place = place; reply = reply; first = first ∙ ap (λ x. Some (x, place)) same; is = is; repeats = asked.0 truth },
  λ o. asked.1 (ap (λ r. r.question) (some_same (sym is ∙ (ap (slice_get t.replies) (sym (first_place t s n place at q first o)) ∙ o.is))) ∙ o.repeats),
)

none_some : {X : Type 0} {x : X} → None ≡ Some x → ⊥
none_some e = cc

pub no_reply : (t : Told) (s n place : ℕ) (at : ℕ × ℕ) (q : Question) → slice_get t.left_open 0 ≡ Some (at, place) → slice_get t.replies place ≡ None
    → IsTrue false ↔ IsNextOpen t s n q
no_reply t s n place at q first none = (
  λ wrong. absurd (never_true wrong),
  λ o. absurd (none_some (sym none ∙ (ap (slice_get t.replies) (sym (first_place t s n place at q first o)) ∙ o.is))),
)
  where
    never_true : IsTrue false → ⊥
    never_true wrong = cc

-- the bytes of a line are those of no other
pub one_line_in : (f : Form) (p : Presented) (l m : LineIn f) → IsPresented p → IsLineIn f p l → IsLineIn f p m → text_in f p l ≡ text_in f p m → l ≡ m
one_line_in Whole p l m known h k e = one_line p l m known h k e
one_line_in (Trimmed n) p l m known h k e = one_trimmed_line p l m known h k e

pub line_taken : {E : Type 0} (f : Form) (p : Presented) (t : Told) (bytes : List ℕ) (line : LineIn f) (r : Result (Option Told) E) → IsPresented p
    → IsLineIn f p line
    → bytes ≡ text_in f p line
    → IfOk r (Takes (FollowsIn f) (tell_in f) t line) → IfOk r (TakesBytes f p t bytes)
line_taken f p t bytes line (Ok None) known valid is never =
    λ l v follows spelled. never (subst (FollowsIn f t) (one_line_in f p l line known v valid (sym spelled ∙ is)) follows)
line_taken f p t bytes line (Ok (Some u)) known valid is taken = record { line = line; valid = valid; spelled = is; follows = taken.0; is = taken.1 }
line_taken f p t bytes line (Err e) known valid is h = tt
