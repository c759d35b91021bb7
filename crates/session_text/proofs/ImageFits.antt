-- Where no image is too long, all are within the limit.
use Rattle.std.proofs.Common.{◌≡◌, ℕ, ◌+◌, ◌≤◌, Bool, true, false, nat_lt, cond, List, [], ◌∷◌, length, Some, None, refl, arith}
use Rattle.std.proofs.lemmas.Bool.Decides.{nat_tests}
use Rattle.std.specs.List.{AllByRecursion, position_or_len}
use Rattle.free_words.specs.declared.letter.Letter.{Letter}
use Rattle.free_words.specs.declared.TheConstants.{COMPOSED}
use Rattle.free_words.specs.Words.{word_image}
use Rattle.session_text.specs.declared.question.Question.{Question}
use Rattle.session_text.specs.declared.question.Question.TheVariants.{Trivial, Equal, Normal, Hom}
use Rattle.session_text.specs.Questions.{HasImages, first_long}

abbrev pub is_long : List (List Letter) → List Letter → Bool
is_long images r = nat_lt COMPOSED (length (word_image images r))

fits : (images : List (List Letter)) (r : List Letter) → is_long images r ≡ false → length (word_image images r) ≤ COMPOSED
fits images r e = grind (arith, nat_tests)

all_fit : (images rs : List (List Letter)) → length rs ≤ position_or_len (is_long images) rs
    → AllByRecursion (λ (r : List Letter). length (word_image images r) ≤ COMPOSED) rs
all_fit images [] le = tt
all_fit images (r ∷ rs) le = by (is_long images r) refl le (λ less. all_fit images rs less)
  where
    by : (t : Bool) → is_long images r ≡ t → length (r ∷ rs) ≤ position_or_len (is_long images) (r ∷ rs)
        → (length rs ≤ position_or_len (is_long images) rs → AllByRecursion (λ (r : List Letter). length (word_image images r) ≤ COMPOSED) rs)
        → AllByRecursion (λ (r : List Letter). length (word_image images r) ≤ COMPOSED) (r ∷ rs)
    by true e = rw e (λ (le : length (r ∷ rs) ≤ 0) later. absurd (omega arith))
    by false e = rw e (λ (le : length (r ∷ rs) ≤ 1 + position_or_len (is_long images) rs) later. (fits images r e, later (omega arith)))

reached : (m n : ℕ) → cond (nat_lt m n) (Some m) None ≡ None → n ≤ m
reached m n e = by (nat_lt m n) refl e
  where
    by : (t : Bool) → nat_lt m n ≡ t → cond t (Some m) None ≡ None → n ≤ m
    by true so none = absurd (cc)
    by false so none = grind (arith, nat_tests)

pub none_long : (q : Question) → first_long q ≡ None → HasImages q
none_long (Trivial w) e = tt
none_long (Equal u v) e = tt
none_long (Normal w) e = tt
none_long (Hom source images) e = all_fit images source.relators (reached (position_or_len (is_long images) source.relators) (length source.relators) e)
