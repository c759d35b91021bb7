-- Where all images are within their limit, none is too long.
use Rattle.std.proofs.Common.{◌≡◌, ℕ, zero, suc, ◌+◌, ◌<◌, ◌≤◌, Bool, true, false, not, nat_lt, List, [], ◌∷◌, length, get_or, position, Option, Some, None}
use Rattle.std.proofs.Common.{refl, ap, arith, IsTrue}
use Rattle.std.specs.Prelude.{option_map}
use Rattle.std.specs.Option.{is_some}
use Rattle.std.specs.List.{AllByRecursion}
use Rattle.std.proofs.lemmas.Bool.Decides.{nat_tests}
use Rattle.std.proofs.lemmas.List.Quantifiers.{position-Some}
use Rattle.free_words.specs.declared.letter.Letter.{Letter}
use Rattle.free_words.specs.declared.TheConstants.{COMPOSED}
use Rattle.free_words.specs.Words.{word_image}
use Rattle.session_text.specs.declared.question.Question.{Question}
use Rattle.session_text.specs.declared.question.Question.TheVariants.{Trivial, Equal, Normal, Hom}
use Rattle.session_text.specs.Questions.{HasImages, first_long, first_long_image}

all_at : {A : Type 0} (P : A → Type 0) (xs : List A) (i : ℕ) (d : A) → AllByRecursion P xs → i < length xs → P (get_or xs i d)
all_at P [] i d h lt = absurd (omega arith)
all_at P (x ∷ xs) zero d h lt = h.0
all_at P (x ∷ xs) (suc i) d h lt = all_at P xs i d h.1 (omega arith)

none_passes : (images rs : List (List Letter)) → AllByRecursion (λ (r : List Letter). length (word_image images r) ≤ COMPOSED) rs
    → position (λ r. nat_lt COMPOSED (length (word_image images r))) rs ≡ None
none_passes images rs h = by (position (λ r. nat_lt COMPOSED (length (word_image images r))) rs) refl
  where
    by : (o : Option ℕ) → position (λ r. nat_lt COMPOSED (length (word_image images r))) rs ≡ o → o ≡ None
    by None e = refl
    by (Some j) e =
        let found = position-Some (λ r. nat_lt COMPOSED (length (word_image images r))) rs j [] e in
        let fits : length (word_image images (get_or rs j [])) ≤ COMPOSED =
        all_at (λ (r : List Letter). length (word_image images r) ≤ COMPOSED) rs j [] h found.0 in
        absurd (too_long (length (word_image images (get_or rs j []))) fits found.1)
      where
        too_long : (n : ℕ) → n ≤ COMPOSED → nat_lt COMPOSED n ≡ true → ⊥
        too_long n le e = grind (arith, nat_tests)

no_long : (q : Question) → HasImages q → first_long q ≡ None
no_long (Trivial w) h = refl
no_long (Equal u v) h = refl
no_long (Normal w) h = refl
no_long (Hom source images) h = none_passes images source.relators h

pub none_long : (q : Question) → HasImages q → first_long_image q ≡ None
none_long q h = ap (option_map (λ j. j + 1)) (no_long q h)

pub is_none_none : {A : Type 0} (o : Option A) (b : Bool) → not b ≡ is_some o → IsTrue b → o ≡ None
is_none_none None b e t = refl
is_none_none (Some x) true e t = absurd cc
is_none_none (Some x) false e t = absurd cc

pub none_is_none : {A : Type 0} (o : Option A) (b : Bool) → not b ≡ is_some o → o ≡ None → IsTrue b
none_is_none None true e h = refl
none_is_none None false e h = absurd cc
none_is_none (Some x) b e h = absurd cc
