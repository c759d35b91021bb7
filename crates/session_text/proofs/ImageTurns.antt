-- Reading images one after another, as a loop does.
use Rattle.std.proofs.Common.{◌≡◌, ℕ, zero, suc, ◌+◌, ◌-◌, ◌<◌, ◌≤◌, List, [], length, Result, Ok, Err, ◌∙◌, refl, sym, ap, arith}
use Rattle.free_words.specs.declared.letter.Letter.{Letter}
use Rattle.word_text.specs.declared.fault.Fault.{Fault}
use Rattle.word_text.specs.declared.fault.ReadFault.{ReadFault}
use Rattle.word_text.specs.declared.fault.ReadFault.TheVariants as faults
use Rattle.word_text.specs.Machine.{Find}
use Rattle.derivation.specs.Reading.{GoesOn}
use Rattle.session_text.specs.Reading.{image_behind, next_image, later_images, images_at}

-- what is read of the whole is what is read from here on, behind some images
abbrev pub Going : Find → ℕ → Result (List (List Letter) × List ℕ) Fault → List (List Letter) → List ℕ → Type 0
Going find count whole before bs = whole ≡ later_images (count - length before) find before bs

pub begins : (find : Find) (count : ℕ) (bs rest : List ℕ) (none images : List (List Letter)) → none ≡ [] → length images ≡ length none + 1
    → image_behind find none bs ≡ Ok (images, rest)
    → Going find count (images_at count find bs) images rest
unfolding images_at
begins find count bs rest none images e one r =
    let first : image_behind find [] bs ≡ Ok (images, rest) = ap (λ (b : List (List Letter)). image_behind find b bs) (sym e) ∙ r in
    let n : length images ≡ 1 = one ∙ ap (λ (b : List (List Letter)). length b + 1) e in
    rw (first, n) refl

pub more : (find : Find) (count : ℕ) (whole : Result (List (List Letter) × List ℕ) Fault) (before after : List (List Letter)) (bs rest : List ℕ)
    → length before < count → length after ≡ length before + 1 → next_image find before bs ≡ Ok (after, rest) → Going find count whole before bs
    → Going find count whole after rest
more find count whole before after bs rest lt one r so =
    let e : count - length before ≡ suc (count - length after) = omega arith in
    so ∙ rw (e, r) refl

pub done : (find : Find) (count : ℕ) (whole : Result (List (List Letter) × List ℕ) Fault) (before : List (List Letter)) (bs : List ℕ)
    → count ≤ length before → Going find count whole before bs → whole ≡ Ok (before, bs)
done find count whole before bs le so =
    let e : count - length before ≡ zero = omega arith in
    so ∙ rw e refl

pub fails_later : {X : Type 0} (view : X → List (List Letter)) (after : List (List Letter)) (find : Find) (count : ℕ)
    (whole : Result (List (List Letter) × List ℕ) Fault) (before : List (List Letter))
    (bs text : List ℕ) (line now new : ℕ) (e : ReadFault) → length before < count
    → GoesOn (λ (_ : Unit {0}). after) text line now (next_image find before bs) (Err e) → Going find count whole before bs
    → GoesOn view text line new whole (Err e)
fails_later view after find count whole before bs text line now new faults.NoMemory lt g so = tt
fails_later view after find count whole before bs text line now new (faults.Text f) lt (x, r, p) so =
    let e : count - length before ≡ suc (count - length before - 1) = omega arith in
    (x, so ∙ rw (e, r) refl, p)

pub fails_first : {X : Type 0} (view : X → List (List Letter)) (none after : List (List Letter)) (find : Find) (count : ℕ)
    (bs text : List ℕ) (line now new : ℕ) (e : ReadFault) → none ≡ []
    → GoesOn (λ (_ : Unit {0}). after) text line now (image_behind find none bs) (Err e) → GoesOn view text line new (images_at count find bs) (Err e)
unfolding images_at
fails_first view none after find count bs text line now new faults.NoMemory b g = tt
fails_first view none after find count bs text line now new (faults.Text f) b (x, r, p) =
    let first : image_behind find [] bs ≡ Err x = ap (λ (o : List (List Letter)). image_behind find o bs) (sym b) ∙ r in
    (x, rw first refl, p)
