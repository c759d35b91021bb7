-- A text is read exactly where the grammar has it, and as the same moves.
use Rattle.std.proofs.Common.{◌≡◌, ℕ, ◌+◌, Bool, true, false, List, [], ◌∷◌, ◌++◌, Result, Ok, Err, IfOk, Vec, refl, sym, ◌∙◌, subst, if◌then◌else◌}
use Rattle.std.specs.List.{AllByRecursion}
use Rattle.std.specs.declared.alloc.Global.{Global}
use Rattle.word_text.specs.declared.fault.Fault.{Fault}
use Rattle.word_text.specs.declared.fault.TextFault.{TextFault}
use Rattle.word_text.specs.declared.fault.ReadFault.{ReadFault}
use Rattle.word_text.specs.declared.fault.ReadFault.TheVariants as faults
use Rattle.word_text.specs.Place.{capped}
use Rattle.word_text.specs.Machine.{Find, finding}
use Rattle.word_text.proofs.Lexing.{no_blanks}
use Rattle.presentation.specs.Presented.{Presented}
use Rattle.presentation.specs.Line.{is_end}
use Rattle.presentation.specs.Writing.{joined}
use Rattle.derivation.specs.declared.moves.Move.{Move}
use Rattle.derivation.specs.Reading.{lines_of, fronted, followed, only_move, line_moves, moves_of, move_at, derivation_text, ReadsMoves}
use Rattle.derivation.specs.Grammar.{HaveMoves, IsLine, IsDerivation}
use Rattle.derivation.proofs.LineLists.{lines_joined, are_lines, lines_again}
use Rattle.derivation.proofs.Spelled.{end_spelled, move_spelled}
use Rattle.derivation.proofs.ReadAgain.{end_again, move_again}

are : (ms ns : List Move) → ◌≡◌ {A = Result (List Move) TextFault} (Ok ms) (Ok ns) → ms ≡ ns
are ms ns e = cc

-- what is read of a line and of those behind it
fronted_ok : (xs : List Move) (r : Result (List Move) TextFault) (ms : List Move) → fronted xs r ≡ Ok ms → (ys : List Move) × (r ≡ Ok ys) × (xs ++ ys ≡ ms)
fronted_ok xs (Ok ys) ms e = (ys, refl, are (xs ++ ys) ms e)
fronted_ok xs (Err f) ms e = cc

followed_ok : (r later : Result (List Move) TextFault) (ms : List Move) → followed r later ≡ Ok ms
    → (xs : List Move) × (r ≡ Ok xs) × (ys : List Move) × (later ≡ Ok ys) × (xs ++ ys ≡ ms)
followed_ok (Ok xs) later ms e = let x = fronted_ok xs later ms e in (xs, refl, x.0, x.1, x.2)
followed_ok (Err f) later ms e = cc

one_ok : (line : List ℕ) (n : ℕ) (r : Result (Move × List ℕ) Fault) (xs : List Move) → only_move line n r ≡ Ok xs
    → (x : Move × List ℕ) × (r ≡ Ok x) × (x.0 ∷ [] ≡ xs)
one_ok line n (Ok x) xs e = (x, refl, are (x.0 ∷ []) xs e)
one_ok line n (Err f) xs e = cc

more_moves : (find : Find) (n : ℕ) (line : List ℕ) (ls : List (List ℕ)) (xs ys : List Move) (b : Bool) → is_end line ≡ b
    → (if b then Ok [] else only_move line n (move_at find line)) ≡ Ok xs → HaveMoves find ls ys → HaveMoves find (line ∷ ls) (xs ++ ys)
more_moves find n line ls xs ys true t e h =
    subst (λ (l : List Move). HaveMoves find (line ∷ ls) (l ++ ys)) (are [] xs e) (HaveMoves.blank line ls ys (end_spelled line t) h)
more_moves find n line ls xs ys false t e h =
    let x = one_ok line n (move_at find line) xs e in
    subst (λ (l : List Move). HaveMoves find (line ∷ ls) (l ++ ys)) x.2 (HaveMoves.move line (x.0).0 ls ys (move_spelled find line x.0 x.1) h)

moves_spelled : (find : Find) (n : ℕ) (ls : List (List ℕ)) (ms : List Move) → moves_of find n ls ≡ Ok ms → HaveMoves find ls ms
moves_spelled find n [] ms e = subst (λ (l : List Move). HaveMoves find [] l) (are [] ms e) HaveMoves.none
moves_spelled find n (l ∷ ls) ms e =
    let x = followed_ok (line_moves find n l) (moves_of find (capped (n + 1)) ls) ms e in
    subst (λ (m : List Move). HaveMoves find (l ∷ ls) m) x.4
    (more_moves find n l ls x.0 x.2 (is_end l) refl x.1 (moves_spelled find (capped (n + 1)) ls x.2 x.3))

-- what is read is a derivation of the grammar
pub text_spelled : (p : Presented) (text : List ℕ) (ms : List Move) → derivation_text p text ≡ Ok ms → IsDerivation p text ms
unfolding derivation_text
text_spelled p text ms e = (lines_of text, lines_joined text, are_lines text, moves_spelled (finding p.names) 1 (lines_of text) ms e)

moves_again : (find : Find) (n : ℕ) (ls : List (List ℕ)) (ms : List Move) → HaveMoves find ls ms → moves_of find n ls ≡ Ok ms
moves_again find n _ _ HaveMoves.none = refl
moves_again find n _ _ (HaveMoves.blank line ls ms e h) = rw (end_again line e, moves_again find (capped (n + 1)) ls ms h) refl
moves_again find n _ _ (HaveMoves.move line m ls ms is h) =
    let r = move_again find line m is in
    rw (r.some, r.read, moves_again find (capped (n + 1)) ls ms h) refl

no_lines : (find : Find) (ms : List Move) → HaveMoves find [] ms → ms ≡ []
no_lines find _ HaveMoves.none = refl

-- the lines of a text, read
lines_read : (p : Presented) (lines : List (List ℕ)) (ms : List Move) → AllByRecursion IsLine lines → HaveMoves (finding p.names) lines ms
    → moves_of (finding p.names) 1 (lines_of (joined (10 ∷ []) lines)) ≡ Ok ms
lines_read p [] ms are h = rw (no_lines (finding p.names) ms h, end_again [] no_blanks) refl
lines_read p (l ∷ ls) ms are h = rw (lines_again l ls are) (moves_again (finding p.names) 1 (l ∷ ls) ms h)

-- a derivation of the grammar is read
pub text_again : (p : Presented) (text : List ℕ) (ms : List Move) → IsDerivation p text ms → derivation_text p text ≡ Ok ms
unfolding derivation_text
text_again p text ms h = rw (h.1) (lines_read p h.0 ms h.2 h.3)

-- a text spells one list of moves at most
pub one_value : (p : Presented) (text : List ℕ) (ms ns : List Move) → IsDerivation p text ms → IsDerivation p text ns → ms ≡ ns
one_value p text ms ns g h = are ms ns (sym (text_again p text ms g) ∙ text_again p text ns h)

-- the same of what a reader answers
pub is_found : (p : Presented) (text : List ℕ) (result : Result (Vec Move Global) ReadFault) → ReadsMoves (derivation_text p text) result
    → IfOk result (λ moves. IsDerivation p text moves.items)
is_found p text (Ok moves) e = text_spelled p text moves.items e
is_found p text (Err faults.NoMemory) e = tt
is_found p text (Err (faults.Text f)) e = tt

pub is_only : (p : Presented) (text : List ℕ) (result : Result (Vec Move Global) ReadFault) (ms : List Move) → IsDerivation p text ms
    → ReadsMoves (derivation_text p text) result → ReadsMoves (Ok ms) result
is_only p text (Ok moves) ms h e = sym (text_again p text ms h) ∙ e
is_only p text (Err faults.NoMemory) ms h e = tt
is_only p text (Err (faults.Text f)) ms h e = sym (text_again p text ms h) ∙ e
