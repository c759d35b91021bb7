-- What is seen of a draft stays where its program grows.
use Rattle.std.proofs.Common.{◌≡◌, ℕ, ◌≤◌, List, [], ◌∷◌, length, map, refl, subst, ◌∙◌, arith}
use Rattle.std.specs.List.{AllByRecursion}
use Rattle.free_words.specs.declared.letter.Letter.{Letter}
use Rattle.word_text.specs.declared.draft.Inner.{Inner}
use Rattle.word_text.specs.declared.draft.Inner.TheVariants as inner
use Rattle.word_text.specs.declared.draft.Bracket.{Bracket}
use Rattle.word_text.specs.Inner.{number_in, first_number}
use Rattle.word_text.specs.Program.{word_of, Keeps}
use Rattle.word_text.specs.Draft.{around, innermost, first_word, drafted, opening_of, frame_of, IsInnerHeld, IsBracketHeld, IsHeld}

opening_kept : (ws more : List (List Letter)) (i : Inner) → Keeps ws more → IsInnerHeld (length ws) i → opening_of more i ≡ opening_of ws i
opening_kept ws more inner.Round k h = refl
opening_kept ws more inner.Square k h = refl
opening_kept ws more (inner.Second u) k h = rw (k.1 u h) refl

frame_kept : (ws more : List (List Letter)) (b : Bracket) → Keeps ws more → IsBracketHeld (length ws) b → frame_of more b ≡ frame_of ws b
frame_kept ws more b k h = rw (k.1 b.outer h.0, opening_kept ws more b.inner k h.1) refl

pub frames_kept : (ws more : List (List Letter)) (bs : List Bracket) → Keeps ws more → AllByRecursion (IsBracketHeld (length ws)) bs
    → map (frame_of more) bs ≡ map (frame_of ws) bs
frames_kept ws more [] k h = refl
frames_kept ws more (b ∷ bs) k h = rw (frame_kept ws more b k h.0, frames_kept ws more bs k h.1) refl

inner_held : (n m : ℕ) (i : Inner) → n ≤ m → IsInnerHeld n i → IsInnerHeld m i
inner_held n m inner.Round le h = tt
inner_held n m inner.Square le h = tt
inner_held n m (inner.Second u) le h = omega arith

pub brackets_held : (n m : ℕ) (bs : List Bracket) → n ≤ m → AllByRecursion (IsBracketHeld n) bs → AllByRecursion (IsBracketHeld m) bs
brackets_held n m [] le h = tt
brackets_held n m (b ∷ bs) le h =
    let outer : b.outer ≤ m = omega (arith, h.0.0) in
    ((outer, inner_held n m b.inner le h.0.1), brackets_held n m bs le h.1)

pub held_more : (n m p q a b : ℕ) (bs : List Bracket) → IsHeld n bs p a → n ≤ m → q ≤ m → b ≤ m → IsHeld m bs q b
held_more n m p q a b bs h le lq lb = record { brackets_held = brackets_held n m bs le h.brackets_held; product_held = lq; atom_held = lb }

pub keeps_more : (ws more most : List (List Letter)) → Keeps ws more → Keeps more most → Keeps ws most
keeps_more ws more most h k = (omega (arith, h.0, k.0), λ i le. k.1 i (omega (arith, h.0)) ∙ h.1 i le)

-- another atom
pub atom_seen : (ws more : List (List Letter)) (bs : List Bracket) (p a b : ℕ) (w : List Letter) → IsHeld (length ws) bs p a → Keeps ws more
    → word_of more b ≡ w → drafted more bs p b ≡ record (drafted ws bs p a) { atom = w }
atom_seen ws more bs p a b w h k e = rw (frames_kept ws more bs k h.brackets_held, k.1 p h.product_held, e) refl

-- another product
pub product_seen : (ws more : List (List Letter)) (bs : List Bracket) (p q a : ℕ) (w : List Letter) → IsHeld (length ws) bs p a → Keeps ws more
    → word_of more q ≡ w → drafted more bs q a ≡ record (drafted ws bs p a) { product = w }
product_seen ws more bs p q a w h k e = rw (frames_kept ws more bs k h.brackets_held, k.1 a h.atom_held, e) refl

-- the innermost bracket closed
pub closed_held : (n m p a b : ℕ) (x : Bracket) (old bs : List Bracket) → IsHeld n old p a → old ≡ x ∷ bs → n ≤ m → b ≤ m → IsHeld m bs x.outer b
closed_held n m p a b x old bs h e le lb =
    let k = subst (λ (l : List Bracket). AllByRecursion (IsBracketHeld n) l) e h.brackets_held in
    let outer : x.outer ≤ m = omega (arith, k.0.0) in
    record { brackets_held = brackets_held n m bs le k.1; product_held = outer; atom_held = lb }

pub closed_seen : (ws more : List (List Letter)) (x : Bracket) (old bs : List Bracket) (p a b : ℕ) (w : List Letter) → IsHeld (length ws) old p a
    → old ≡ x ∷ bs → Keeps ws more → word_of more b ≡ w
    → drafted more bs x.outer b
    ≡ record { frames = around (drafted ws old p a).frames; product = (innermost (drafted ws old p a).frames).outer; atom = w }
closed_seen ws more x old bs p a b w h e k same =
    let held = subst (λ (l : List Bracket). AllByRecursion (IsBracketHeld (length ws)) l) e h.brackets_held in
    rw (e, frames_kept ws more bs k held.1, k.1 x.outer held.0.0, same) refl

-- the first word of a square bracket
word_inside : (ws : List (List Letter)) (i : Inner) → first_word (opening_of ws i) ≡ word_of ws (number_in i)
word_inside ws inner.Round = refl
word_inside ws inner.Square = refl
word_inside ws (inner.Second u) = refl

pub first_seen : (ws : List (List Letter)) (bs : List Bracket) → first_word (innermost (map (frame_of ws) bs)).opening ≡ word_of ws (first_number bs)
first_seen ws [] = refl
first_seen ws (b ∷ bs) = word_inside ws b.inner
