-- Runs of moves, and what they show.
use Rattle.std.proofs.Common.{◌≡◌, ℕ, List, [], ◌∷◌, ◌++◌, Bool, true, false, Option, Some, None, Ok, Err, refl, sym, inl, inr, zero, suc, subst, ◌<◌, ◌==◌}
use Rattle.std.proofs.Common.{◌+◌, length, take, drop, get_or, arith, ◌∙◌, ap}
use Rattle.std.proofs.lemmas.Bool.Decides.{nat_tests}
use Rattle.std.proofs.lemmas.List.{take-append-drop, take_more, drop_more, length-take-le}
use Rattle.std.specs.Prelude.{All, Contains, if◌then◌else◌}
use Rattle.std.specs.List.{AllByRecursion}
use Rattle.std.proofs.lemmas.Option.{slice_get_within, get_or_from_slice_get}
use Rattle.std.proofs.lemmas.List.Elements.{recursion_from_All}
use Rattle.free_words.specs.declared.letter.Letter.{Letter}
use Rattle.free_words.specs.Words.{flipped, inverse, commutator, copies}
use Rattle.presentation.specs.Presented.{Presented}
use Rattle.derivation.specs.declared.moves.Insert.{Insert}
use Rattle.derivation.specs.declared.moves.Insert.TheVariants.{Pair, Rel, Dbl, Pow}
use Rattle.derivation.specs.declared.moves.Move.{Move}
use Rattle.derivation.specs.declared.moves.MoveReason.{MoveReason}
use Rattle.derivation.specs.declared.moves.MoveFault.{MoveFault}
use Rattle.derivation.specs.declared.moves.MoveFault.TheVariants.{Refused, NoMemory}
use Rattle.derivation.specs.declared.moves.StepsFault.{StepsFault}
use Rattle.derivation.specs.Moves.{IsPiece, Moves, Trivial}
use Rattle.derivation.specs.Making.{relator_at, relator_piece, piece_of, IsInsertOver, Moved, MoveGives, Runs, StepsGive, IsAtMove}

-- a run goes on by one move
pub runs_more : (p : Presented) (old : List Letter) (ms : List Move) (mid new : List Letter) (m : Move)
    → Runs p old ms mid → MoveGives p mid m (Ok new) → Runs p old (ms ++ m ∷ []) new
runs_more p old [] mid new m run gives =
    let here : MoveGives p old m (Ok new) = subst (λ w. MoveGives p w m (Ok new)) (sym run) gives in
    (new, here, refl)
runs_more p old (x ∷ ms) mid new m run gives = (run.0, run.1, runs_more p run.0 ms mid new m run.2 gives)

-- after a move that was made the run has come one further
pub run_grows : (p : Presented) (old : List Letter) (moves : List Move) (i : ℕ) (mid new : List Letter) (m : Move) → i < length moves
    → m ≡ get_or moves i m → Runs p old (take i moves) mid → MoveGives p mid m (Ok new) → Runs p old (take (i + 1) moves) new
run_grows p old moves i mid new m within is run gives =
    let next : take (i + 1) moves ≡ take i moves ++ m ∷ [] = take_more moves i m within ∙ ap (λ x. take i moves ++ x ∷ []) (sym is) in
    rw next (runs_more p old (take i moves) mid new m run gives)

-- the list is those before a place, the one there, and those behind it
parted : (moves : List Move) (i : ℕ) (m : Move) → i < length moves → m ≡ get_or moves i m → moves ≡ take i moves ++ m ∷ drop (i + 1) moves
parted moves i m within is =
    sym (take-append-drop i moves) ∙ ap (λ t. take i moves ++ t) (drop_more moves i m within ∙ ap (λ x. x ∷ drop (i + 1) moves) (sym is))

-- a move that can't be made ends the run
pub run_stops : (p : Presented) (old : List Letter) (moves : List Move) (i : ℕ) (mid : List Letter) (m : Move) (why : MoveFault) (fault : StepsFault)
    → i < length moves → m ≡ get_or moves i m → Runs p old (take i moves) mid → MoveGives p mid m (Err why) → IsAtMove i why fault
    → StepsGive p old moves (Err fault)
run_stops p old moves i mid m (Refused reason) fault within is run gives at =
    let made : length (take i moves) ≡ i = length-take-le i moves (omega arith) in
    rw at (take i moves, m, drop (i + 1) moves, mid, parted moves i m within is, run, gives, rw made refl)
run_stops p old moves i mid m NoMemory fault within is run gives at = rw at tt

-- a relator that is found is a relator
relator_is : (rs : List (List Letter)) (j : ℕ) (r : List Letter) → relator_at rs j ≡ Some r → Contains rs r
relator_is rs zero r e = cc
relator_is rs (suc j) r e = (j, slice_get_within rs j r e, get_or_from_slice_get rs j r r e)

-- a relator, or its inverse, as it is asked for
signed_relator : (p : Presented) (inverted : Bool) (r piece : List Letter) → Contains p.relators r
    → (if inverted then inverse r else r) ≡ piece → IsPiece p piece
signed_relator p true r piece listed e = subst (λ w. IsPiece p w) e (IsPiece.inverse_relator r listed)
signed_relator p false r piece listed e = subst (λ w. IsPiece p w) e (IsPiece.relator r listed)

-- the piece made of what was found under a number
found_piece : (p : Presented) (inverted : Bool) (found : Option (List Letter)) (piece : List Letter)
    → ((r : List Letter) → found ≡ Some r → Contains p.relators r) → relator_piece inverted found ≡ Ok piece → IsPiece p piece
found_piece p inverted None piece has e = absurd cc
found_piece p inverted (Some r) piece has e = signed_relator p inverted r piece (has r refl) cc

-- the power of a commutator, where there is a modulus
power_piece : (p : Presented) (none : Bool) (a b piece : List Letter) → (p.modulus == 0) ≡ none → IsInsertOver p (Pow a b)
    → (if none then Err MoveReason.NoModulus else Ok (copies p.modulus (commutator a b))) ≡ Ok piece → IsPiece p piece
power_piece p true a b piece test over e = absurd cc
power_piece p false a b piece test over e =
    let same : copies p.modulus (commutator a b) ≡ piece = cc in
    subst (λ w. IsPiece p w) same (IsPiece.power a b (positive p.modulus test) over.0.0 over.1.0)
  where
    positive : (m : ℕ) → (m == 0) ≡ false → 0 < m
    positive m e = grind (arith, nat_tests)

-- what is put in or taken out is a piece
piece_is : (p : Presented) (what : Insert) (piece : List Letter) → IsInsertOver p what → piece_of p what ≡ Ok piece → IsPiece p piece
piece_is p (Pair x) piece over e =
    let same : x ∷ flipped x ∷ [] ≡ piece = cc in subst (λ w. IsPiece p w) same (IsPiece.pair x over)
piece_is p (Rel j inverted) piece over e = found_piece p inverted (relator_at p.relators j) piece (relator_is p.relators j) e
piece_is p (Dbl a b c d) piece over e =
    let same : commutator (commutator a b) (commutator c d) ≡ piece = cc in
    subst (λ w. IsPiece p w) same (IsPiece.double a b c d over.0.0 over.1.0 over.2.0 over.3.0)
piece_is p (Pow a b) piece over e = power_piece p (p.modulus == 0) a b piece refl over e

-- a move with a piece, whichever way it goes
moved_moves : (p : Presented) (del : Bool) (at : ℕ) (piece old new : List Letter) → IsPiece p piece → Moved del at piece old new → Moves p old new
moved_moves p true at piece old new is moved =
    inr (record { front = moved.0; piece = piece; back = moved.1; is_piece = is; without = moved.4; with = moved.3 })
moved_moves p false at piece old new is moved =
    inl (record { front = moved.0.0; piece = piece; back = moved.0.1; is_piece = is; without = moved.0.4; with = moved.0.3 })

-- a move that was made is a move
pub move_made : (p : Presented) (old new : List Letter) (m : Move) → IsInsertOver p m.what → MoveGives p old m (Ok new) → Moves p old new
move_made p old new m over gives =
    moved_moves p m.del m.at gives.1.0 old new (piece_is p m.what gives.1.0 over gives.1.1) gives.1.2

-- a run to the empty word shows that the word is trivial
runs_trivial : (p : Presented) (w : List Letter) (moves : List Move) → AllByRecursion (λ (m : Move). IsInsertOver p m.what) moves
    → Runs p w moves [] → Trivial p w
runs_trivial p w [] over run = ([], run)
runs_trivial p w (m ∷ ms) over run =
    let rest : Trivial p run.0 = runs_trivial p run.0 ms over.1 run.2 in
    (run.0 ∷ rest.0, (move_made p w run.0 m over.0 run.1, rest.1))

-- the same, by the fact that each move is over the presentation
runs_show_trivial : (p : Presented) (w : List Letter) (moves : List Move) → All (λ (m : Move). IsInsertOver p m.what) moves
    → Runs p w moves [] → Trivial p w
runs_show_trivial p w moves over run = runs_trivial p w moves (recursion_from_All _ moves over) run

-- a run to a word without letters
pub runs_end_trivial : (p : Presented) (w : List Letter) (moves : List Move) (end : List Letter) → All (λ (m : Move). IsInsertOver p m.what) moves
    → Runs p w moves end → length end ≡ 0 → Trivial p w
runs_end_trivial p w moves [] over run none = runs_show_trivial p w moves over run
runs_end_trivial p w moves (x ∷ end) over run none = absurd (omega arith)
