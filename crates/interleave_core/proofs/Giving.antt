-- The tasks in hand are given back.
use Rattle.std.proofs.Common.{ℕ, suc, ◌+◌, ◌<◌, ◌≡◌, arith, refl, sym, ap, ◌∙◌, List, [], ◌∷◌, length, Some, subst}
use Rattle.std.proofs.Common.{slice_get, drop, get_or}
use Rattle.std.proofs.lemmas.List.{drop_more}
use Rattle.pair_book.specs.Books.{Held, IsBook}
use Rattle.session_core.specs.Sessions.{SessionState}
use Rattle.interleave_core.specs.declared.hands.Hand.{Hand}
use Rattle.interleave_core.specs.declared.hands.Hand.TheVariants.{Idle, Holds, Stopped}
use Rattle.interleave_core.specs.Askers.{IsAsker, AreAskers}
use Rattle.interleave_core.specs.Invariants.{IsHand, AreApart}
use Rattle.interleave_core.specs.Machine.{State}
use Rattle.interleave_core.specs.Opening.{IsLeft, given_back, all_given_back}
use Rattle.interleave_core.proofs.Following.{hand_follows, hand_gives}

-- the hands that are left hold what the book has, and no task is in two of them
pub record AreLeft (h : Held) (hands : List Hand) : Type 0 where
  pub each : (n : ℕ) (x : Hand) → slice_get hands n ≡ Some x → IsHand h x
  pub apart : AreApart hands

one_less : (n m : ℕ) → suc n ≡ suc m → n ≡ m
one_less n m e = omega (arith, e)

-- the first hand's task is given back
pub one_given : (h : Held) (x : Hand) (hands : List Hand) → IsBook h → AreLeft h (x ∷ hands) → AreLeft (given_back h x) hands
one_given h x hands b left = record {
  each = λ n z at. hand_follows h (given_back h x) x z (hand_gives h x b (left.each 0 x refl)) (left.each (suc n) z at)
      (λ u of mine. let e = left.apart 0 (suc n) x z u refl at mine of in absurd (omega (arith, e)));
  apart = λ m n a c u p q of also. one_less m n (left.apart (suc m) (suc n) a c u p q of also);
}

one_same : (h : Held) (x : Hand) → given_back h x ≡ record h { tasks = (given_back h x).tasks }
one_same h Idle = refl
one_same h (Holds w) = refl
one_same h (Stopped t stop) = refl

pub all_same : (h : Held) (hands : List Hand) → all_given_back h hands ≡ record h { tasks = (all_given_back h hands).tasks }
all_same h [] = refl
all_same h (x ∷ hands) = all_same (given_back h x) hands ∙ ap (λ (k : Held). record k { tasks = (all_given_back (given_back h x) hands).tasks }) (one_same h x)

-- the sessions ask the same items
pub askers_stay : (h new : Held) (ss : List SessionState) (hands : List Hand) → AreAskers h ss → new ≡ all_given_back h hands → AreAskers new ss
askers_stay h new ss hands all e i s at =
    let a = all i s at in
    subst (λ (k : Held). IsAsker k (i + 1) s) (sym (e ∙ all_same h hands))
    (record { number = a.number; base = a.base; questions = a.questions; replies = a.replies; fronts = a.fronts; rising = a.rising })

-- what is left
pub left : (s : State) (new : Held) (ss : List SessionState) → ss ≡ s.sessions → AreAskers s.book ss → new ≡ all_given_back s.book s.hands
    → IsLeft s new ss
left s new ss same all e = record {
  given = e;
  rest = e ∙ (all_same s.book s.hands ∙ ap (λ (h : Held). record s.book { tasks = h.tasks }) (sym e));
  sessions = same;
  askers = askers_stay s.book new ss s.hands all e;
}

-- ---- one hand after another

pub hand_at : (hands : List Hand) (i : ℕ) (x : Hand) → i < length hands → x ≡ get_or hands i x → drop i hands ≡ x ∷ drop (i + 1) hands
hand_at hands i x lt is = drop_more hands i x lt ∙ ap (λ (z : Hand). z ∷ drop (i + 1) hands) (sym is)
