-- Moves lead from words over the presentation to words over it.
use Rattle.std.proofs.Common.{ℕ, zero, suc, List, [], ◌∷◌, ◌++◌, length, sym, subst, inl, inr}
use Rattle.std.specs.Prelude.{Contains}
use Rattle.std.proofs.lemmas.List.Elements.{All-contains, All-from_recursion}
use Rattle.free_words.specs.declared.letter.Letter.{Letter}
use Rattle.free_words.specs.Words.{inverse, commutator, copies}
use Rattle.presentation.specs.Presented.{Presented, IsPresented, IsWritten}
use Rattle.derivation.specs.Moves.{IsWordOver, IsPiece, Moves, Leads, Reaches}
use Rattle.derivation.specs.Moves.IsPiece.{pair, relator, inverse_relator, double, power}
use Rattle.derivation.proofs.Inverses.{over-append, over-inverse}

over-left : (p : Presented) (u v : List Letter) → IsWordOver p (u ++ v) → IsWordOver p u
over-left p [] v over = tt
over-left p (x ∷ u) v over = (over.0, over-left p u v over.1)

over-right : (p : Presented) (u v : List Letter) → IsWordOver p (u ++ v) → IsWordOver p v
over-right p [] v over = over
over-right p (x ∷ u) v over = over-right p u v over.1

over-copies : (p : Presented) (n : ℕ) (w : List Letter) → IsWordOver p w → IsWordOver p (copies n w)
over-copies p zero w over = tt
over-copies p (suc n) w over = over-append p (copies n w) w (over-copies p n w over) over

over-commutator : (p : Presented) (u v : List Letter) → IsWordOver p u → IsWordOver p v → IsWordOver p (commutator u v)
over-commutator p u v ou ov =
    over-append p (u ++ v ++ inverse u) (inverse v) (over-append p (u ++ v) (inverse u) (over-append p u v ou ov) (over-inverse p u ou)) (over-inverse p v ov)

relator-over : (p : Presented) (r : List Letter) → IsPresented p → Contains p.relators r → IsWordOver p r
relator-over p r known listed = (All-contains (IsWritten (length p.names)) p.relators r (All-from_recursion _ p.relators known.relators) listed).0

-- a piece is a word over the presentation
piece-over : (p : Presented) (s : List Letter) → IsPresented p → IsPiece p s → IsWordOver p s
piece-over p _ known (pair x over) = (over, (over, tt))
piece-over p _ known (relator r listed) = relator-over p r known listed
piece-over p _ known (inverse_relator r listed) = over-inverse p r (relator-over p r known listed)
piece-over p _ known (double a b c d oa ob oc od) =
    over-commutator p (commutator a b) (commutator c d) (over-commutator p a b oa ob) (over-commutator p c d oc od)
piece-over p _ known (power a b some oa ob) = over-copies p p.modulus (commutator a b) (over-commutator p a b oa ob)

move-over : (p : Presented) (old new : List Letter) → IsPresented p → Moves p old new → IsWordOver p old → IsWordOver p new
move-over p old new known (inl puts) over =
    let both = subst (λ w. IsWordOver p w) puts.without over in
    subst (λ w. IsWordOver p w) (sym puts.with)
    (over-append p puts.front (puts.piece ++ puts.back) (over-left p puts.front puts.back both)
    (over-append p puts.piece puts.back (piece-over p puts.piece known puts.is_piece) (over-right p puts.front puts.back both)))
move-over p old new known (inr puts) over =
    let all = subst (λ w. IsWordOver p w) puts.with over in
    subst (λ w. IsWordOver p w) (sym puts.without)
    (over-append p puts.front puts.back (over-left p puts.front (puts.piece ++ puts.back) all)
    (over-right p puts.piece puts.back (over-right p puts.front (puts.piece ++ puts.back) all)))

leads-over : (p : Presented) (old : List Letter) (mids : List (List Letter)) (new : List Letter) → IsPresented p → Leads p old mids new
    → IsWordOver p old → IsWordOver p new
leads-over p old [] new known same over = subst (λ w. IsWordOver p w) same over
leads-over p old (mid ∷ mids) new known (move, more) over = leads-over p mid mids new known more (move-over p old mid known move over)

pub reaches_over : (p : Presented) (u v : List Letter) → IsPresented p → Reaches p u v → IsWordOver p u → IsWordOver p v
reaches_over p u v known way over = leads-over p u way.0 v known way.1 over
