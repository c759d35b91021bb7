-- Replies that are kept.
use Rattle.std.proofs.Common.{◌≡◌, ℕ, zero, suc, ◌+◌, ◌-◌, ◌<◌, ◌≤◌, List, [], ◌∷◌, ◌++◌, length, length-append, Option, Some, slice_get, sym, ap, subst, ◌∙◌}
use Rattle.std.proofs.Common.{arith, refl}
use Rattle.std.specs.List.{AllByRecursion}
use Rattle.presentation.specs.Presented.{Presented}
use Rattle.module_vec.specs.declared.places.Term.{Term}
use Rattle.session_text.specs.declared.question.Question.{Question}
use Rattle.basis_entry.specs.Entries.{BasisEntry, vectors_of}
use Rattle.basis_entry.specs.Seals.{Seal, item_count}
use Rattle.outcomes.specs.declared.verdicts.Verdict.{Verdict}
use Rattle.outcomes.specs.declared.verdicts.Verdict.TheVariants as verdicts
use Rattle.session_core.specs.declared.kept.Kept.{Kept}
use Rattle.session_core.specs.declared.kept.Tag.TheVariants as tags
use Rattle.session_core.specs.Verdicts.{IsVerdict}
use Rattle.session_core.specs.Replies.{tag_of, IsReply}
use Rattle.session_core.specs.Sessions.{SessionState, IsSession, AreRising, front_after, last_front}

-- ---- fronts
front_at : (base : ℕ) (ks : List Kept) (k : Kept) (n : ℕ) → length ks ≡ n + 1 → slice_get ks n ≡ Some k → front_after base ks ≡ k.front
front_at base [] k n long last = absurd (cc)
front_at base (a ∷ []) k zero long last = let e : a ≡ k = cc in ap (λ (r : Kept). r.front) e
front_at base (a ∷ []) k (suc n) long last = absurd (omega (arith, long))
front_at base (a ∷ b ∷ ks) k zero long last = absurd (omega (arith, long))
front_at base (a ∷ b ∷ ks) k (suc n) long last = front_at a.front (b ∷ ks) k n (omega (arith, long)) last

-- the front of the last reply
pub front_of_last : (base : ℕ) (ks : List Kept) (k : Kept) → slice_get ks (length ks - 1) ≡ Some k → front_after base ks ≡ k.front
front_of_last base [] k last = absurd (cc)
front_of_last base (a ∷ ks) k last = front_at base (a ∷ ks) k (length (a ∷ ks) - 1) (omega arith) last

rising_more : (base : ℕ) (ks : List Kept) (k : Kept) → AreRising base ks → front_after base ks ≤ k.front → AreRising base (ks ++ k ∷ [])
rising_more base [] k rising le = (le, tt)
rising_more base (a ∷ ks) k rising le = (rising.0, rising_more a.front ks k rising.1 le)

-- one more reply
pub kept_more : (s : SessionState) (k : Kept) (ks : List Kept) → IsSession s → length s.kept < length s.questions → last_front s ≤ k.front
    → ks ≡ s.kept ++ k ∷ []
    → IsSession (record { number = s.number; questions = s.questions; base = s.base; kept = ks })
kept_more s k ks is room le new =
    let long = length-append s.kept (k ∷ []) in
    let grown = ap length new in
    record {
      number = is.number;
      few = is.few;
      within = omega (arith, long, grown, room);
      rising = subst (AreRising s.base) (sym new) (rising_more s.base s.kept k is.rising le);
      sources = is.sources;
    }

-- ---- the question that was asked
pub all_read : (P : Question → Type 0) (qs : List Question) (n : ℕ) (q : Question) → AllByRecursion P qs → slice_get qs n ≡ Some q → P q
all_read P [] n q all read = absurd (cc)
all_read P (a ∷ qs) zero q all read = let e : a ≡ q = cc in subst P e all.0
all_read P (a ∷ qs) (suc n) q all read = all_read P qs n q all.1 read

pub same_question : (qs : List Question) (n : ℕ) (r q : Question) → slice_get qs n ≡ Some r → slice_get qs n ≡ Some q → r ≡ q
same_question qs n r q one other = let e : Some r ≡ Some q = sym one ∙ other in cc

pub tag_trivial : (v : Verdict) → tag_of v ≡ tags.Trivial → v ≡ verdicts.Trivial
tag_trivial verdicts.Trivial e = refl
tag_trivial verdicts.NotTrivial e = absurd (cc)
tag_trivial (verdicts.Normal w) e = absurd (cc)
tag_trivial verdicts.Extends e = absurd (cc)
tag_trivial (verdicts.Fails j) e = absurd (cc)
tag_trivial (verdicts.Unknown j) e = absurd (cc)
tag_trivial (verdicts.Stop j stop) e = absurd (cc)

pub tag_extends : (v : Verdict) → tag_of v ≡ tags.Extends → v ≡ verdicts.Extends
tag_extends verdicts.Trivial e = absurd (cc)
tag_extends verdicts.NotTrivial e = absurd (cc)
tag_extends (verdicts.Normal w) e = absurd (cc)
tag_extends verdicts.Extends e = refl
tag_extends (verdicts.Fails j) e = absurd (cc)
tag_extends (verdicts.Unknown j) e = absurd (cc)
tag_extends (verdicts.Stop j stop) e = absurd (cc)

pub reply_to : (p : Presented) (es : List BasisEntry) (b : List (List Term)) (seal : Option Seal) (q r : Question) (v : Verdict) (k : Kept) (front : ℕ)
    → b ≡ vectors_of es → r ≡ q
    → IsVerdict p b seal r v → k ≡ record { front = front; tag = tag_of v } → front ≡ item_count es seal → IsReply p es seal q k
reply_to p es b seal q r v k front are same is kept items =
    record {
      front = ap (λ (z : Kept). z.front) kept ∙ items;
      verdict = v;
      is = subst (λ (c : List (List Term)). IsVerdict p c seal q v) are (subst (λ (z : Question). IsVerdict p b seal z v) same is);
      tag = ap (λ (z : Kept). z.tag) kept;
    }
