-- The subjects of a question within the limits: words over its presentation, within the limit on composed words.
use Rattle.std.proofs.Common.{◌≡◌, ◌≢◌, ℕ, ◌+◌, ◌-◌, ◌<◌, ◌≤◌, List, [], ◌∷◌, ◌++◌, length, map, reverse, slice_index_or, length-append, ap, subst, ◌∙◌, arith}
use Rattle.std.specs.List.{AllByRecursion}
use Rattle.std.proofs.lemmas.List.{length-map, length-reverse, get_or_default}
use Rattle.std.proofs.lemmas.List.Elements.{All-from_recursion, recursion_from_All}
use Rattle.free_words.specs.declared.letter.Letter.{Letter}
use Rattle.free_words.specs.declared.TheConstants.{COMPOSED}
use Rattle.free_words.specs.Words.{IsOver, flipped, inverse, word_image}
use Rattle.free_words.proofs.OverLemmas.{IsOver-append, IsOver-inverse, IsOver-word_image}
use Rattle.presentation.specs.Presented.{Presented, IsWritten}
use Rattle.session_text.specs.declared.question.Question.{Question}
use Rattle.session_text.specs.declared.question.Question.TheVariants.{Trivial, Equal, Normal, Hom}
use Rattle.session_text.specs.Questions.{IsWrittenQuestion, HasImages, subjects}
use Rattle.hom_check.specs.Subjects.{subject_at}

abbrev pub Fits : ℕ → List Letter → Type 0
Fits n w = IsOver n w × (length w ≤ COMPOSED)

written_over : (n : ℕ) (ws : List (List Letter)) → AllByRecursion (IsWritten n) ws → AllByRecursion (IsOver n) ws
written_over n [] h = tt
written_over n (w ∷ ws) h = (h.0.0, written_over n ws h.1)

images_fit : (n : ℕ) (images rs : List (List Letter)) → AllByRecursion (IsOver n) images
    → AllByRecursion (λ (r : List Letter). length (word_image images r) ≤ COMPOSED) rs → AllByRecursion (Fits n) (map (word_image images) rs)
images_fit n images [] over short = tt
images_fit n images (r ∷ rs) over short = ((IsOver-word_image n images r over, short.0), images_fit n images rs over short.1)

one_fits : (n : ℕ) (w : List Letter) → IsWritten n w → Fits n w
one_fits n w h = (h.0, omega (arith, h.1))

quotient_fits : (n : ℕ) (u v : List Letter) → IsWritten n u → IsWritten n v → Fits n (u ++ inverse v)
quotient_fits n u v hu hv =
    let long : length (u ++ inverse v) ≡ length u + length (inverse v) = length-append u (inverse v) in
    let same : length (inverse v) ≡ length v = length-map (reverse v) flipped ∙ length-reverse v in
    (IsOver-append n u (inverse v) hu.0 (IsOver-inverse n v hv.0), omega (arith, long, same, hu.1, hv.1))

pub subjects_fit : (p : Presented) (q : Question) → IsWrittenQuestion p q → HasImages q → AllByRecursion (Fits (length p.names)) (subjects q)
subjects_fit p (Trivial w) h images = (one_fits (length p.names) w h.1, tt)
subjects_fit p (Equal u v) h images = (quotient_fits (length p.names) u v h.1.0 h.1.1, tt)
subjects_fit p (Normal w) h images = (one_fits (length p.names) w h.1, tt)
subjects_fit p (Hom source ws) h images = images_fit (length p.names) ws source.relators (written_over (length p.names) ws h.1) images

-- a property of all subjects, by their numbers
pub all_at : (P : List Letter → Type 0) (q : Question) (j : ℕ) → AllByRecursion P (subjects q) → 1 ≤ j → j ≤ length (subjects q) → P (subject_at q j)
all_at P q j all first last = let lt : j - 1 < length (subjects q) = omega arith in All-from_recursion P (subjects q) all (j - 1) [] lt

pub at_all : (P : List Letter → Type 0) (q : Question) → ((j : ℕ) → 1 ≤ j → j ≤ length (subjects q) → P (subject_at q j)) → AllByRecursion P (subjects q)
at_all P q each = recursion_from_All P (subjects q)
    (λ k d lt. let back : (k + 1) - 1 ≡ k = omega arith in
    subst P (ap (λ (i : ℕ). slice_index_or (subjects q) i []) back ∙ get_or_default (subjects q) k [] d lt) (each (k + 1) (omega arith) (omega (arith, lt))))

pub subject_fits : (p : Presented) (q : Question) (j : ℕ) → IsWrittenQuestion p q → HasImages q → 1 ≤ j → j ≤ length (subjects q)
    → Fits (length p.names) (subject_at q j)
subject_fits p q j h images first last = all_at (Fits (length p.names)) q j (subjects_fit p q h images) first last

-- the last subject of a question that has one
pub last_fits : (p : Presented) (q : Question) (n : ℕ) → IsWrittenQuestion p q → HasImages q → n ≡ length (subjects q) → n ≢ 0
    → length (subject_at q n) ≤ COMPOSED
last_fits p q n h images is some = let fits = subject_fits p q n h images (omega (arith, some)) (omega (arith, is)) in fits.1
