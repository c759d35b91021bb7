-- Letters before and behind a gap.
use Rattle.std.proofs.Common.{◌≡◌, ℕ, ◌+◌, ◌-◌, ◌<◌, ◌≤◌, List, ◌++◌, length, take, drop, refl, sym, ◌∙◌, ap, arith, length-append, length-drop, append_assoc}
use Rattle.std.proofs.lemmas.List.{take-append-drop, length-take-le, drop-drop, take-append-le, drop_at, take_at, take-take}
use Rattle.std.proofs.Math.Seq.{paste, take-paste, drop-paste, take-add}
use Rattle.free_words.specs.declared.letter.Letter.{Letter}
use Rattle.derivation.specs.Making.{TakesOut}

-- the first letters, and the others from a place on that so many of them reach
front_of : (at to k : ℕ) (w new : List Letter) → at ≤ to → to + k ≤ length w → new ≡ paste w to (drop at w) k → take at new ≡ take at w
front_of at to k w new before within e =
    let first : at ≤ length (take to w) = omega (arith, length-take-le to w (omega arith)) in
    let longer : at ≤ length (take to w ++ take k (drop at w)) = omega (arith, length-append (take to w) (take k (drop at w))) in
    rw (e, take-append-le at (take to w ++ take k (drop at w)) (drop (to + k) w) longer, take-append-le at (take to w) (take k (drop at w)) first)
    (take-take at to w before)

back_of : (at to k : ℕ) (w new : List Letter) → to + k ≤ length w → new ≡ paste w to (drop at w) k
    → drop to new ≡ take k (drop at w) ++ drop (to + k) w
back_of at to k w new within e =
    rw (e, append_assoc (take to w) (take k (drop at w)) (drop (to + k) w))
    (drop_at (take to w) (take k (drop at w) ++ drop (to + k) w) to (length-take-le to w (omega arith)))

-- the gap goes left: the letters that it passes stand behind it then
gap_left : (w new : List Letter) (start end at to k : ℕ) → at ≤ to → end ≤ length w → at + k ≡ start → to + k ≡ end
    → new ≡ paste w to (drop at w) k → take at new ++ drop to new ≡ take start w ++ drop end w
gap_left w new start end at to k before within here there e =
    rw (front_of at to k w new before (omega arith) e, back_of at to k w new (omega arith) e, ← here, ← there, take-add at k w)
    (sym (append_assoc (take at w) (take k (drop at w)) (drop (to + k) w)))

pub gap_goes_left : (w new : List Letter) (start end at : ℕ) → start ≤ end → end ≤ length w → at < start
    → new ≡ paste w (end - (start - at)) (drop at w) (start - at)
    → take at new ++ drop (end - (start - at)) new ≡ take start w ++ drop end w
gap_goes_left w new start end at ordered within left e =
    gap_left w new start end at (end - (start - at)) (start - at) (omega arith) within (omega arith) (omega arith) e

-- the gap goes right: the letters that it passes stand before it then
gap_right : (w new : List Letter) (start end at to k : ℕ) → start ≤ end → to ≤ length w → start + k ≡ at → end + k ≡ to
    → new ≡ paste w start (drop end w) k → take at new ++ drop to new ≡ take start w ++ drop end w
gap_right w new start end at to k ordered within here there e =
    let few : k ≤ length (drop end w) = omega (arith, length-drop end w) in
    let beyond : (start + k) + (end - start) ≡ to = omega arith in
    let back : drop to new ≡ drop to w =
    rw (
      ← beyond,
      ← drop-drop (end - start) (start + k) new,
      ← drop-drop (end - start) (start + k) w,
      e,
      drop-paste w start (drop end w) k (omega arith) few,
    ) refl in
    let front : take at new ≡ take start w ++ take k (drop end w) = rw (← here, e) (take-paste w start (drop end w) k (omega arith) few) in
    rw (front, back, ← there, ← drop-drop k end w) (append_assoc (take start w) (take k (drop end w)) (drop k (drop end w))
    ∙ ap (λ t. take start w ++ t) (take-append-drop k (drop end w)))

pub gap_goes_right : (w new : List Letter) (start end at : ℕ) → start ≤ end → end ≤ length w → start ≤ at → at ≤ start + (length w - end)
    → new ≡ paste w start (drop end w) (end + (at - start) - end)
    → take at new ++ drop (end + (at - start)) new ≡ take start w ++ drop end w
gap_goes_right w new start end at ordered within right most e =
    let count : end + (at - start) - end ≡ at - start = omega arith in
    gap_right w new start end at (end + (at - start)) (at - start) ordered (omega arith) (omega arith) refl (rw count at e)

-- the letters behind the gap are those of the word from its place on
pub behind_gap : (old all : List Letter) (at to : ℕ) → at ≤ length all → take at all ++ drop to all ≡ old → drop at old ≡ drop to all
behind_gap old all at to within e = rw (← e) (drop_at (take at all) (drop to all) at (length-take-le at all within))

-- the letters before the gap are those of the word up to its place
before_gap : (old all : List Letter) (at to : ℕ) → at ≤ length all → take at all ++ drop to all ≡ old → take at old ≡ take at all
before_gap old all at to within e = rw (← e) (take_at (take at all) (drop to all) at (length-take-le at all within))

-- letters are written into the gap
pub put_in_gap : (old all new piece : List Letter) (at to : ℕ) → at + length piece ≤ to → to ≤ length all → take at all ++ drop to all ≡ old
    → new ≡ take at all ++ (piece ++ drop (at + length piece) all)
    → take (at + length piece) new ++ drop to new ≡ take at old ++ (piece ++ drop at old)
put_in_gap old all new piece at to room within word e =
    let written : length (take at all ++ piece) ≡ at + length piece = length-append (take at all) piece
    ∙ ap (λ n. n + length piece) (length-take-le at all (omega arith)) in
    let grouped : new ≡ (take at all ++ piece) ++ drop (at + length piece) all = e ∙ sym (append_assoc (take at all) piece (drop (at + length piece) all)) in
    let front : take (at + length piece) new ≡ take at all ++ piece =
    rw grouped (take_at (take at all ++ piece) (drop (at + length piece) all) (at + length piece) written) in
    let further : (at + length piece) + (to - (at + length piece)) ≡ to = omega arith in
    let back : drop to new ≡ drop to all =
    rw (
      ← further,
      ← drop-drop (to - (at + length piece)) (at + length piece) new,
      ← drop-drop (to - (at + length piece)) (at + length piece) all,
      grouped,
      drop_at (take at all ++ piece) (drop (at + length piece) all) (at + length piece) written,
    ) refl in
    rw (front, back, before_gap old all at to (omega arith) word, behind_gap old all at to (omega arith) word) (append_assoc (take at all) piece (drop to all))

-- a piece behind the gap is taken out
pub taken_from_gap : (old all piece new : List Letter) (at to : ℕ) → at ≤ length all → take at all ++ drop to all ≡ old
    → ((back : List Letter) × (drop to all ≡ piece ++ back)) → new ≡ take at all ++ drop (to + length piece) all → TakesOut at piece old new
taken_from_gap old all piece new at to within word stands e =
    let rest : drop (to + length piece) all ≡ stands.0 =
    sym (drop-drop (length piece) to all) ∙ ap (λ t. drop (length piece) t) stands.1 ∙ drop_at piece stands.0 (length piece) refl in
    (take at all, stands.0, length-take-le at all within, sym word ∙ ap (λ t. take at all ++ t) stands.1, e ∙ ap (λ t. take at all ++ t) rest)

-- the length of a word with a gap
pub gap_length : (old all : List Letter) (start end : ℕ) → start ≤ length all → take start all ++ drop end all ≡ old → length old ≡ start + (length all - end)
gap_length old all start end within word =
    rw (← word) (omega (arith, length-append (take start all) (drop end all), length-take-le start all within, length-drop end all))
