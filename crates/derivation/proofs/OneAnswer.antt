-- A move has one answer, and so has a list of moves, want of memory aside.
use Rattle.std.proofs.Common.{◌≡◌, ◌≢◌, ℕ, ◌+◌, ◌<◌, ◌≤◌, Bool, true, false, List, ◌++◌, length, take, drop, Result, Ok, Err, refl, sym, ◌∙◌, ap, arith}
use Rattle.std.proofs.Common.{length-append, append_assoc}
use Rattle.std.specs.Prelude.{nat_lt}
use Rattle.std.specs.List.{starts_with}
use Rattle.std.proofs.lemmas.Bool.Decides.{nat_tests}
use Rattle.std.proofs.lemmas.List.{take_at, drop_at}
use Rattle.std.proofs.lemmas.Slice.Eq.{starts_is}
use Rattle.free_words.specs.declared.letter.Letter.{Letter}
use Rattle.free_words.specs.contracts.letter.LetterPartialEq.TheImpl.{eq-value}
use Rattle.free_words.specs.declared.TheConstants.{COMPOSED}
use Rattle.presentation.specs.Presented.{Presented}
use Rattle.derivation.specs.declared.moves.Move.{Move}
use Rattle.derivation.specs.declared.moves.MoveReason.{MoveReason}
use Rattle.derivation.specs.declared.moves.MoveReason.TheVariants.{Place, NoRelator, NoModulus, NotThere, TooLong}
use Rattle.derivation.specs.declared.moves.MoveFault.{MoveFault}
use Rattle.derivation.specs.declared.moves.MoveFault.TheVariants.{Refused, NoMemory}
use Rattle.derivation.proofs.Deciding.{letter_decides}
use Rattle.derivation.specs.Making.{piece_of, TakesOut, Moved, MoveGives}

-- what is left when a piece is taken out is the front and what follows the piece
shorter_is : (at : ℕ) (piece longer shorter : List Letter) → TakesOut at piece longer shorter
    → shorter ≡ take at longer ++ drop (at + length piece) longer
shorter_is at piece longer shorter takes =
    let front : take at longer ≡ takes.0 = rw takes.3 (take_at takes.0 (piece ++ takes.1) at takes.2) in
    let size : length (takes.0 ++ piece) ≡ at + length piece = omega (arith, length-append takes.0 piece, takes.2) in
    let back : drop (at + length piece) longer ≡ takes.1 =
    rw (takes.3, ← append_assoc takes.0 piece takes.1) (drop_at (takes.0 ++ piece) takes.1 (at + length piece) size) in
    rw (front, back) takes.4

-- and a word with a piece put in is its front, the piece and the rest
longer_is : (at : ℕ) (piece longer shorter : List Letter) → TakesOut at piece longer shorter
    → longer ≡ take at shorter ++ (piece ++ drop at shorter)
longer_is at piece longer shorter takes =
    let front : take at shorter ≡ takes.0 = rw takes.4 (take_at takes.0 takes.1 at takes.2) in
    let back : drop at shorter ≡ takes.1 = rw takes.4 (drop_at takes.0 takes.1 at takes.2) in
    rw (front, back) takes.3

-- the answer, worked out
worked_without : Bool → ℕ → List Letter → List Letter → Result (List Letter) MoveFault
worked_without true at piece old = Ok (take at old ++ drop (at + length piece) old)
worked_without false at piece old = Err (Refused NotThere)

worked_with : Bool → ℕ → List Letter → List Letter → Result (List Letter) MoveFault
worked_with true at piece old = Err (Refused TooLong)
worked_with false at piece old = Ok (take at old ++ (piece ++ drop at old))

worked_piece : Bool → ℕ → Result (List Letter) MoveReason → List Letter → Result (List Letter) MoveFault
worked_piece del at (Err reason) old = Err (Refused reason)
worked_piece true at (Ok piece) old = worked_without (starts_with eq-value.it (drop at old) piece) at piece old
worked_piece false at (Ok piece) old = worked_with (nat_lt COMPOSED (length old + length piece)) at piece old

worked : Bool → Presented → List Letter → Move → Result (List Letter) MoveFault
worked true p old m = Err (Refused Place)
worked false p old m = worked_piece m.del m.at (piece_of p m.what) old

answer : Presented → List Letter → Move → Result (List Letter) MoveFault
answer p old m = worked (nat_lt (length old) m.at) p old m

stands : (test : Bool) (at : ℕ) (piece old new : List Letter) → test ≡ starts_with eq-value.it (drop at old) piece → TakesOut at piece old new
    → test ≡ true
stands test at piece old new e takes =
    let back : drop at old ≡ piece ++ takes.1 = rw takes.3 (drop_at takes.0 (piece ++ takes.1) at takes.2) in
    (starts_is letter_decides (drop at old) piece test e).1 takes.1 back

stands_not : (test : Bool) (at : ℕ) (piece old : List Letter) → test ≡ starts_with eq-value.it (drop at old) piece
    → ((back : List Letter) → drop at old ≡ piece ++ back → ⊥) → test ≡ false
stands_not true at piece old e not = absurd (not (drop (length piece) (drop at old)) ((starts_is letter_decides (drop at old) piece true e).0 refl))
stands_not false at piece old e not = refl

within : (n k : ℕ) → k ≤ n → nat_lt n k ≡ false
within n k le = grind (arith, nat_tests)

past : (n k : ℕ) → n < k → nat_lt n k ≡ true
past n k lt = grind (arith, nat_tests)

made_is : (del : Bool) (at : ℕ) (piece old new : List Letter) → Moved del at piece old new → worked_piece del at (Ok piece) old ≡ Ok new
unfolding worked_piece worked_without worked_with
made_is true at piece old new moved =
    rw (stands (starts_with eq-value.it (drop at old) piece) at piece old new refl moved) (ap Ok (sym (shorter_is at piece old new moved)))
made_is false at piece old new moved =
    rw (within COMPOSED (length old + length piece) moved.1) (ap Ok (sym (longer_is at piece new old moved.0)))

-- the answer is the one that is worked out
answer_is : (p : Presented) (old : List Letter) (m : Move) (r : Result (List Letter) MoveFault) → r ≢ Err NoMemory → MoveGives p old m r → answer p old m ≡ r
unfolding answer worked worked_piece worked_without worked_with
answer_is p old m (Ok new) some gives =
    rw (within (length old) m.at gives.0, gives.1.1) (made_is m.del m.at gives.1.0 old new gives.1.2)
answer_is p old m (Err (Refused Place)) some gives = rw (past (length old) m.at gives) refl
answer_is p old m (Err (Refused NoRelator)) some gives = rw (within (length old) m.at gives.0, gives.1) refl
answer_is p old m (Err (Refused NoModulus)) some gives = rw (within (length old) m.at gives.0, gives.1) refl
answer_is p old m (Err (Refused NotThere)) some gives =
    let piece = gives.2.0 in
    rw (within (length old) m.at gives.0, gives.2.1, gives.1, stands_not (starts_with eq-value.it (drop m.at old) piece) m.at piece old refl gives.2.2) refl
answer_is p old m (Err (Refused TooLong)) some gives =
    rw (within (length old) m.at gives.0, gives.2.1, gives.1, past COMPOSED (length old + length gives.2.0) gives.2.2) refl
answer_is p old m (Err NoMemory) some gives = absurd (some refl)

pub one_answer : (p : Presented) (old : List Letter) (m : Move) (r s : Result (List Letter) MoveFault) → r ≢ Err NoMemory → s ≢ Err NoMemory
    → MoveGives p old m r → MoveGives p old m s → r ≡ s
one_answer p old m r s r_some s_some r_gives s_gives = sym (answer_is p old m r r_some r_gives) ∙ answer_is p old m s s_some s_gives
