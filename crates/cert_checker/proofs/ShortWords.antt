-- Subjects are short words over the presentation.
use Rattle.std.proofs.Common.{◌≡◌, ℕ, ◌≤◌, List, [], ◌∷◌, length, map, reverse, arith}
use Rattle.std.proofs.lemmas.List.{length-append, length-map, length-reverse}
use Rattle.std.specs.List.{AllByRecursion}
use Rattle.free_words.specs.declared.TheConstants.{COMPOSED}
use Rattle.free_words.specs.declared.letter.Letter.{Letter}
use Rattle.free_words.specs.Words.{IsOver, inverse, flipped, word_image}
use Rattle.free_words.proofs.OverLemmas.{IsOver-append, IsOver-inverse, IsOver-word_image}
use Rattle.presentation.specs.Presented.{Presented, IsWritten}
use Rattle.outcomes.specs.declared.verdicts.Verdict.{Verdict}
use Rattle.outcomes.specs.declared.verdicts.Verdict.TheVariants as verdicts
use Rattle.session_text.specs.declared.question.Question.{Question}
use Rattle.session_text.specs.declared.question.Question.TheVariants.{Trivial, Equal, Normal, Hom}
use Rattle.session_text.specs.Questions.{HasImages, IsWritable, subjects}
use Rattle.cert_checker.specs.States.{asked, AreWords}

length_inverse : (w : List Letter) → length (inverse w) ≡ length w
length_inverse w = omega (arith, length-map (reverse w) flipped, length-reverse w)

pub all_over : (n : ℕ) (ws : List (List Letter)) → AllByRecursion (IsWritten n) ws → AllByRecursion (IsOver n) ws
all_over n [] h = tt
all_over n (w ∷ ws) h = (h.0.0, all_over n ws h.1)

image_words : (p : Presented) (images rs : List (List Letter)) → AllByRecursion (IsOver (length p.names)) images
    → AllByRecursion (λ (r : List Letter). length (word_image images r) ≤ COMPOSED) rs → AreWords p (map (word_image images) rs)
image_words p images [] over h = tt
image_words p images (r ∷ rs) over h = ((IsOver-word_image (length p.names) images r over, h.0), image_words p images rs over h.1)

subject_words : (p : Presented) (q : Question) → IsWritable p q → HasImages q → AreWords p (subjects q)
subject_words p (Trivial w) h images = ((h.0.1.0, omega (arith, h.0.1.1)), tt)
subject_words p (Equal u v) h images = (
  (
    IsOver-append (length p.names) u (inverse v) h.0.1.0.0 (IsOver-inverse (length p.names) v h.0.1.1.0),
    omega (arith, length-append u (inverse v), length_inverse v, h.0.1.0.1, h.0.1.1.1),
  ),
  tt,
)
subject_words p (Normal w) h images = ((h.0.1.0, omega (arith, h.0.1.1)), tt)
subject_words p (Hom source images) h short = image_words p images source.relators (all_over (length p.names) images h.0.1) short

pub asked_words : (p : Presented) (q : Question) (v : Verdict) → IsWritable p q → HasImages q → AreWords p (asked q v)
asked_words p q verdicts.Trivial h images = subject_words p q h images
asked_words p q verdicts.NotTrivial h images = tt
asked_words p q (verdicts.Normal v) h images = tt
asked_words p q verdicts.Extends h images = subject_words p q h images
asked_words p q (verdicts.Fails subject) h images = tt
asked_words p q (verdicts.Unknown subject) h images = tt
asked_words p q (verdicts.Stop subject stop) h images = tt
