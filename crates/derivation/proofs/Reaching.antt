-- Lists of moves: one after another, back again, between other letters, and of inverses.
use Rattle.std.proofs.Common.{List, [], ◌∷◌, ◌++◌, refl, sym, ◌∙◌, ap, subst, inl, inr, append_assoc, append-nil}
use Rattle.free_words.specs.declared.letter.Letter.{Letter}
use Rattle.free_words.specs.Words.{flipped, inverse, commutator, copies}
use Rattle.free_words.proofs.WordLemmas.{flipped-flipped}
use Rattle.presentation.specs.Presented.{Presented}
use Rattle.derivation.specs.Moves.{IsPiece, PutsIn, Moves, Leads, Reaches}
use Rattle.derivation.specs.Moves.IsPiece.{pair, relator, inverse_relator, double, power}
use Rattle.derivation.proofs.Inverses.{inverse-append, inverse-inverse, inverse-commutator, inverse-copies}

-- a piece is put in between other letters too
puts_in_between : (p : Presented) (u v a b : List Letter) → PutsIn p a b → PutsIn p (u ++ (a ++ v)) (u ++ (b ++ v))
puts_in_between p u v a b puts = record {
  front = u ++ puts.front;
  piece = puts.piece;
  back = puts.back ++ v;
  is_piece = puts.is_piece;
  without = rw puts.without (simp append_assoc);
  with = rw puts.with (simp append_assoc);
}

-- a move between other letters is a move
moves_between : (p : Presented) (u v a b : List Letter) → Moves p a b → Moves p (u ++ (a ++ v)) (u ++ (b ++ v))
moves_between p u v a b (inl puts) = inl (puts_in_between p u v a b puts)
moves_between p u v a b (inr puts) = inr (puts_in_between p u v b a puts)

-- a move back is a move
moves_back : (p : Presented) (a b : List Letter) → Moves p a b → Moves p b a
moves_back p a b (inl puts) = inr puts
moves_back p a b (inr puts) = inl puts

leads_on : (p : Presented) (a : List Letter) (ws : List (List Letter)) (b : List Letter) (vs : List (List Letter)) (c : List Letter)
    → Leads p a ws b → Leads p b vs c → Leads p a (ws ++ vs) c
leads_on p a [] b vs c same rest = subst (λ t. Leads p t vs c) (sym same) rest
leads_on p a (w ∷ ws) b vs c (move, more) rest = (move, leads_on p w ws b vs c more rest)

pub reaches_self : (p : Presented) (u : List Letter) → Reaches p u u
reaches_self p u = ([], refl)

pub reaches_on : (p : Presented) (u v w : List Letter) → Reaches p u v → Reaches p v w → Reaches p u w
reaches_on p u v w way rest = (way.0 ++ rest.0, leads_on p u way.0 v rest.0 w way.1 rest.1)

-- one move
reaches_by : (p : Presented) (u v : List Letter) → Moves p u v → Reaches p u v
reaches_by p u v move = (v ∷ [], (move, refl))

leads_back : (p : Presented) (u : List Letter) (ws : List (List Letter)) (v : List Letter) → Leads p u ws v → Reaches p v u
leads_back p u [] v same = ([], sym same)
leads_back p u (w ∷ ws) v (move, more) = reaches_on p v w u (leads_back p w ws v more) (reaches_by p w u (moves_back p u w move))

pub reaches_back : (p : Presented) (u v : List Letter) → Reaches p u v → Reaches p v u
reaches_back p u v way = leads_back p u way.0 v way.1

leads_between : (p : Presented) (u v a : List Letter) (ws : List (List Letter)) (b : List Letter) → Leads p a ws b
    → Reaches p (u ++ (a ++ v)) (u ++ (b ++ v))
leads_between p u v a [] b same = ([], ap (λ t. u ++ (t ++ v)) same)
leads_between p u v a (w ∷ ws) b (move, more) =
    reaches_on p (u ++ (a ++ v)) (u ++ (w ++ v)) (u ++ (b ++ v))
    (reaches_by p (u ++ (a ++ v)) (u ++ (w ++ v)) (moves_between p u v a w move)) (leads_between p u v w ws b more)

pub reaches_between : (p : Presented) (u v a b : List Letter) → Reaches p a b → Reaches p (u ++ (a ++ v)) (u ++ (b ++ v))
reaches_between p u v a b way = leads_between p u v a way.0 b way.1

pub reaches_behind : (p : Presented) (u a b : List Letter) → Reaches p a b → Reaches p (u ++ a) (u ++ b)
reaches_behind p u a b way =
    subst (λ t. Reaches p (u ++ t) (u ++ b)) (append-nil a) (subst (λ t. Reaches p (u ++ (a ++ [])) (u ++ t)) (append-nil b) (reaches_between p u [] a b way))

pub reaches_before : (p : Presented) (v a b : List Letter) → Reaches p a b → Reaches p (a ++ v) (b ++ v)
reaches_before p v a b way = reaches_between p [] v a b way

pub reaches_both : (p : Presented) (u v s t : List Letter) → Reaches p u v → Reaches p s t → Reaches p (u ++ s) (v ++ t)
reaches_both p u v s t first second =
    reaches_on p (u ++ s) (v ++ s) (v ++ t) (reaches_before p s u v first) (reaches_behind p v s t second)

-- the inverse of a piece is a piece
piece_inverse : (p : Presented) (s : List Letter) → IsPiece p s → IsPiece p (inverse s)
piece_inverse p _ (pair x over) = subst (λ (y : Letter). IsPiece p (y ∷ flipped x ∷ [])) (sym (flipped-flipped x)) (pair x over)
piece_inverse p _ (relator r listed) = inverse_relator r listed
piece_inverse p _ (inverse_relator r listed) = subst (λ t. IsPiece p t) (sym (inverse-inverse r)) (relator r listed)
piece_inverse p _ (double a b c d oa ob oc od) =
    subst (λ t. IsPiece p t) (sym (inverse-commutator (commutator a b) (commutator c d))) (double c d a b oc od oa ob)
piece_inverse p _ (power a b some oa ob) =
    subst (λ t. IsPiece p t) (sym (inverse-copies p.modulus (commutator a b) ∙ ap (λ t. copies p.modulus t) (inverse-commutator a b))) (power b a some ob oa)

puts_in_inverse : (p : Presented) (a b : List Letter) → PutsIn p a b → PutsIn p (inverse a) (inverse b)
puts_in_inverse p a b puts = record {
  front = inverse puts.back;
  piece = inverse puts.piece;
  back = inverse puts.front;
  is_piece = piece_inverse p puts.piece puts.is_piece;
  without = ap inverse puts.without ∙ inverse-append puts.front puts.back;
  with =
      ap inverse puts.with ∙ inverse-append puts.front (puts.piece ++ puts.back)
      ∙ ap (λ t. t ++ inverse puts.front) (inverse-append puts.piece puts.back)
      ∙ append_assoc (inverse puts.back) (inverse puts.piece) (inverse puts.front);
}

moves_inverse : (p : Presented) (a b : List Letter) → Moves p a b → Moves p (inverse a) (inverse b)
moves_inverse p a b (inl puts) = inl (puts_in_inverse p a b puts)
moves_inverse p a b (inr puts) = inr (puts_in_inverse p b a puts)

leads_inverse : (p : Presented) (u : List Letter) (ws : List (List Letter)) (v : List Letter) → Leads p u ws v → Reaches p (inverse u) (inverse v)
leads_inverse p u [] v same = ([], ap inverse same)
leads_inverse p u (w ∷ ws) v (move, more) =
    reaches_on p (inverse u) (inverse w) (inverse v) (reaches_by p (inverse u) (inverse w) (moves_inverse p u w move)) (leads_inverse p w ws v more)

pub reaches_inverse : (p : Presented) (u v : List Letter) → Reaches p u v → Reaches p (inverse u) (inverse v)
reaches_inverse p u v way = leads_inverse p u way.0 v way.1
