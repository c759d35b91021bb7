-- What stands before a place inside a word can be continued to a word.
use Rattle.std.proofs.Common.{◌≡◌, ◌⊎◌, inl, inr, ℕ, ◌+◌, false, List, [], ◌∷◌, ◌++◌, length, drop, refl, sym, subst, arith}
use Rattle.free_words.specs.declared.letter.Letter.{Letter}
use Rattle.free_words.specs.Words.{commutator}
use Rattle.word_text.specs.declared.scan.Mark.TheVariants as marks
use Rattle.word_text.specs.declared.machine.Spot.{Spot}
use Rattle.word_text.specs.declared.machine.Spot.TheVariants.{Start, After, Starred}
use Rattle.word_text.specs.Scan.{is_blank, is_letter, is_digit, is_name_byte, is_known, mark_byte, first_is, after_blanks}
use Rattle.word_text.specs.Machine.{Opening, Round, Square, Second, Frame, Find}
use Rattle.word_text.specs.Grammar.{Raised, PowersWithin, Product, Factor, Atom, SpelledWithin}
use Rattle.word_text.specs.Fronts.{SoFar}
use Rattle.word_text.specs.Faults.{IsSomeWord, IsFront}
use Rattle.word_text.proofs.Lexing.{skip_false, no_blanks}
use Rattle.word_text.proofs.Inside.{Opened, Inside}
use Rattle.word_text.proofs.Turns.{attach_here}
use Rattle.word_text.proofs.Swaps.{Halts, Fits, Swap, both, weaker}
use Rattle.word_text.proofs.TokensStay.{Skips, skipped}
use Rattle.word_text.proofs.PartsStay.{wider, So_far, so_far_moves, so_far_wider, Opens, opened_moves}

-- parts of words of any length
abbrev pub SomeProduct : Find → List ℕ → List ℕ → Type 0
SomeProduct find bs rest = (limit : ℕ) × (w : List Letter) × (s : Spot) × SpelledWithin limit find (Product s) bs w rest

abbrev pub SomeFactor : Find → List ℕ → List ℕ → Type 0
SomeFactor find bs rest = (limit : ℕ) × (w : List Letter) × SpelledWithin limit find Factor bs w rest

abbrev pub SomeAtom : Find → List ℕ → List ℕ → Type 0
SomeAtom find bs rest = (limit : ℕ) × (w : List Letter) × SpelledWithin limit find Atom bs w rest

-- a product that has come to a place ends there, or with one more factor
abbrev pub GoesOn : Find → Spot → List ℕ → List ℕ → Type 0
GoesOn find Start bs rest = (bs ≡ rest) ⊎ SomeFactor find bs rest
GoesOn find After bs rest = (bs ≡ rest) ⊎ SomeFactor find bs rest
GoesOn find Starred bs rest = SomeFactor find bs rest

pub by_factor : (find : Find) (spot : Spot) (bs rest : List ℕ) → SomeFactor find bs rest → GoesOn find spot bs rest
by_factor find Start bs rest f = inr f
by_factor find After bs rest f = inr f
by_factor find Starred bs rest f = f

joined : (limit : ℕ) (find : Find) (spot : Spot) (begin : List ℕ) (w : List Letter) (bs rest : List ℕ) → SoFar limit find spot begin w bs
    → SomeFactor find bs rest → SomeProduct find begin rest
joined limit find spot begin w bs rest h f =
    let m : ℕ = limit + f.0 + length (w ++ f.1) in (
      m,
      w ++ f.1,
      After,
      attach_here m find spot begin w f.1 bs rest (so_far_wider limit m find spot begin w bs (omega arith) h)
          (wider f.0 m find Factor bs f.1 rest (omega arith) f.2) (omega arith),
    )

goes_on : (limit : ℕ) (find : Find) (spot : Spot) (begin : List ℕ) (w : List Letter) (bs rest : List ℕ) → SoFar limit find spot begin w bs
    → GoesOn find spot bs rest → SomeProduct find begin rest
goes_on limit find Start begin w bs rest h (inl e) = (limit, w, Start, subst (λ (l : List ℕ). SpelledWithin limit find (Product Start) begin w l) e h)
goes_on limit find After begin w bs rest h (inl e) = (limit, w, After, subst (λ (l : List ℕ). SpelledWithin limit find (Product After) begin w l) e h)
goes_on limit find Start begin w bs rest h (inr f) = joined limit find Start begin w bs rest h f
goes_on limit find After begin w bs rest h (inr f) = joined limit find After begin w bs rest h f
goes_on limit find Starred begin w bs rest h f = joined limit find Starred begin w bs rest h f

-- the bytes that close the open brackets
abbrev closing : Opening → List ℕ → List ℕ
closing Round rest = 41 ∷ rest
closing Square rest = 44 ∷ 93 ∷ rest
closing (Second u) rest = 93 ∷ rest

abbrev pub closers : List Frame → List ℕ
closers [] = []
closers (f ∷ fs) = closing f.opening (closers fs)

halts_closing : (opening : Opening) (rest : List ℕ) → Halts (closing opening rest)
unfolding is_name_byte is_letter is_digit is_blank
halts_closing Round rest = (refl, refl, refl, refl)
halts_closing Square rest = (refl, refl, refl, refl)
halts_closing (Second u) rest = (refl, refl, refl, refl)

pub halts_closers : (frames : List Frame) → Halts (closers frames)
halts_closers [] = tt
halts_closers (f ∷ fs) = halts_closing f.opening (closers fs)

pub halts_clear : (bs : List ℕ) → Halts bs → after_blanks bs ≡ bs
halts_clear [] h = no_blanks
halts_clear (b ∷ bs) h = skip_false b bs h.2

pub halts_caret : (bs : List ℕ) → Halts bs → first_is 94 bs ≡ false
halts_caret [] h = refl
halts_caret (b ∷ bs) h = h.3

no_powers : (limit : ℕ) (w : List Letter) (bs : List ℕ) → Halts bs → PowersWithin limit w (after_blanks bs) w bs
no_powers limit w bs h =
    (subst (λ (l : List ℕ). Raised limit w l w bs) (sym (halts_clear bs h)) (Raised.none w bs), halts_caret bs h)

atom_factor : (find : Find) (bs rest : List ℕ) → Halts rest → SomeAtom find bs rest → SomeFactor find bs rest
atom_factor find bs rest h a = (a.0, a.1, SpelledWithin.powers bs rest rest a.1 a.1 a.2 (no_powers a.0 a.1 rest h))

bracket : (rest : List ℕ) → after_blanks (93 ∷ rest) ≡ 93 ∷ rest
unfolding is_blank
bracket rest = skip_false 93 rest refl

-- a bracket closes behind its product
closes : (limit : ℕ) (find : Find) (opening : Opening) (bs begin rest : List ℕ) → Opened limit find opening bs begin
    → SomeProduct find begin (closing opening rest) → SomeAtom find bs rest
closes limit find Round bs begin rest o p =
    (p.0, p.1, SpelledWithin.round p.2 bs (41 ∷ rest) p.1 o.0 (subst (λ (l : List ℕ). SpelledWithin p.0 find (Product p.2) l p.1 (41 ∷ rest)) o.1 p.3) refl)
closes limit find Square bs begin rest o p =
    let m : ℕ = p.0 + length (commutator p.1 []) in
    let none : SpelledWithin m find (Product Start) (after_blanks (93 ∷ rest)) [] (93 ∷ rest) =
    subst (λ (l : List ℕ). SpelledWithin m find (Product Start) l [] (93 ∷ rest)) (sym (bracket rest)) (SpelledWithin.nothing (93 ∷ rest)) in (
      m,
      commutator p.1 [],
      SpelledWithin.square p.2 Start bs (44 ∷ 93 ∷ rest) (93 ∷ rest) p.1 [] o.0
          (subst (λ (l : List ℕ). SpelledWithin m find (Product p.2) l p.1 (44 ∷ 93 ∷ rest)) o.1
          (wider p.0 m find (Product p.2) begin p.1 (44 ∷ 93 ∷ rest) (omega arith) p.3)) refl none refl (omega arith),
    )
closes limit find (Second u) bs begin rest o p =
    let m : ℕ = limit + p.0 + length (commutator u p.1) in (
      m,
      commutator u p.1,
      SpelledWithin.square o.0 p.2 bs o.1 (93 ∷ rest) u p.1 o.2
          (wider limit m find (Product o.0) (after_blanks (drop 1 bs)) u o.1 (omega arith) o.3) o.4
          (subst (λ (l : List ℕ). SpelledWithin m find (Product p.2) l p.1 (93 ∷ rest)) o.5
          (wider p.0 m find (Product p.2) begin p.1 (93 ∷ rest) (omega arith) p.3)) refl (omega arith),
    )

-- what goes on with the innermost product and closes all brackets makes a word of the whole
abbrev pub Completes : Find → List Frame → Spot → List ℕ → List ℕ → Type 0
Completes find frames spot bs here = GoesOn find spot here (closers frames) → SomeProduct find bs []

abbrev Bracketed : ℕ → Find → Opening → Spot → List Letter → List ℕ → List ℕ → Type 0
Bracketed limit find opening spot w place here = (begin : List ℕ) × Opened limit find opening place begin × SoFar limit find spot begin w here

pub inside_completes : (limit : ℕ) (find : Find) (origin : List ℕ) (frames : List Frame) (w : List Letter) (spot : Spot) (bs : List ℕ)
    → Inside limit find origin frames w spot bs → Swap (Completes find frames spot) origin bs
inside_completes limit find origin [] w spot bs h =
    weaker (So_far limit find spot w) (Completes find [] spot) origin bs (so_far_moves limit limit find spot origin w bs (omega arith) h)
    (λ x y s g. goes_on limit find spot x w y [] s g)
inside_completes limit find origin (f ∷ fs) w spot bs h =
    both (Completes find fs h.2) (Bracketed limit find f.opening spot w) (Completes find (f ∷ fs) spot) origin h.0 bs
    (inside_completes limit find origin fs f.outer h.2 h.0 h.3)
    (both (Opens limit find f.opening) (So_far limit find spot w) (Bracketed limit find f.opening spot w) h.0 h.1 bs
    (opened_moves limit limit find f.opening h.0 h.1 (omega arith) h.4) (so_far_moves limit limit find spot h.1 w bs (omega arith) h.5)
    (λ x y z o s. (y, o, s)))
    (λ x y z c b g. c (by_factor find h.2 y (closers fs) (atom_factor find y (closers fs) (halts_closers fs)
    (closes limit find f.opening y b.0 (closers fs) b.1 (goes_on limit find spot b.0 w z (closers (f ∷ fs)) b.2 g)))))

-- the same for a text, from its first byte on
abbrev pub Makes_word : Find → List Frame → Spot → List ℕ → List ℕ → Type 0
Makes_word find frames spot text here = GoesOn find spot here (closers frames) → IsSomeWord find text

pub text_completes : (limit : ℕ) (find : Find) (text : List ℕ) (frames : List Frame) (w : List Letter) (spot : Spot) (bs : List ℕ)
    → Inside limit find (after_blanks text) frames w spot bs → Swap (Makes_word find frames spot) text bs
text_completes limit find text frames w spot bs h =
    both Skips (Completes find frames spot) (Makes_word find frames spot) text (after_blanks text) bs (skipped text)
    (inside_completes limit find (after_blanks text) frames w spot bs h)
    (λ x y z k c g. let p = c g in (p.0, p.1, (p.2, subst (λ (l : List ℕ). SpelledWithin p.0 find (Product p.2) l p.1 []) k p.3)))

-- a pair of brackets is a factor
pair_mark : mark_byte 40 ≡ marks.Round
unfolding mark_byte is_letter is_known is_name_byte is_digit
pair_mark = refl

pair_halts : (rest : List ℕ) → Halts (40 ∷ 41 ∷ rest)
unfolding is_name_byte is_letter is_digit is_blank
pair_halts rest = (refl, refl, refl, refl)

parenthesis : (rest : List ℕ) → after_blanks (41 ∷ rest) ≡ 41 ∷ rest
unfolding is_blank
parenthesis rest = skip_false 41 rest refl

pair : (find : Find) (rest : List ℕ) → Halts rest → SomeFactor find (40 ∷ 41 ∷ rest) rest
pair find rest h =
    atom_factor find (40 ∷ 41 ∷ rest) rest h (
      0,
      [],
      SpelledWithin.round Start (40 ∷ 41 ∷ rest) (41 ∷ rest) [] pair_mark
          (subst (λ (l : List ℕ). SpelledWithin 0 find (Product Start) l [] (41 ∷ rest)) (sym (parenthesis rest)) (SpelledWithin.nothing (41 ∷ rest))) refl,
    )

-- a text, and an end of it before which it is the front of a word
abbrev pub Splits : Find → List ℕ → List ℕ → Type 0
Splits find text place = (q : List ℕ) × (text ≡ q ++ place) × IsFront find q

continued : (find : Find) (text : List ℕ) (frames : List Frame) (spot : Spot) (bs : List ℕ) → Swap (Makes_word find frames spot) text bs → Splits find text bs
continued find text frames Start bs s = (s.0, s.1, (closers frames, s.2 (closers frames) (Fits.halts bs (closers frames) (halts_closers frames)) (inl refl)))
continued find text frames After bs s = (s.0, s.1, (closers frames, s.2 (closers frames) (Fits.halts bs (closers frames) (halts_closers frames)) (inl refl)))
continued find text frames Starred bs s = (
  s.0,
  s.1,
  (
    40 ∷ 41 ∷ closers frames,
    s.2 (40 ∷ 41 ∷ closers frames) (Fits.halts bs (40 ∷ 41 ∷ closers frames) (pair_halts (closers frames)))
        (pair find (closers frames) (halts_closers frames)),
  ),
)

pub inside_splits : (limit : ℕ) (find : Find) (text : List ℕ) (frames : List Frame) (w : List Letter) (spot : Spot) (bs : List ℕ)
    → Inside limit find (after_blanks text) frames w spot bs → Splits find text bs
inside_splits limit find text frames w spot bs h = continued find text frames spot bs (text_completes limit find text frames w spot bs h)
