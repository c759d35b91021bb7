-- Where moves lead from a word to another, the Fox vectors of the two differ by an element of the module.
use Rattle.std.proofs.Common.{◌≡◌, pos, negsuc, ◌+ℤ◌, ◌*ℤ◌, List, [], ◌∷◌, ◌++◌, length, refl, sym, ap, subst, ◌∙◌, arith, inl, inr}
use Rattle.std.specs.Prelude.{Contains}
use borrow.Author.Differences.{ints}
use Rattle.free_words.specs.declared.letter.Letter.{Letter}
use Rattle.free_words.specs.Words.{flipped, inverse, commutator, copies}
use Rattle.free_words.proofs.OverLemmas.{IsOver-commutator, IsOver-parts}
use Rattle.presentation.specs.Presented.{Presented, IsPresented}
use Rattle.derivation.specs.Moves.{IsWordOver, IsPiece, PutsIn, Moves, Leads, Reaches}
use Rattle.derivation.specs.Moves.IsPiece.{pair, relator, inverse_relator, double, power}
use Rattle.derivation.proofs.Staying.{reaches_over}
use Rattle.formal_sums.specs.FormalSum.{FormalSum, scale}
use Rattle.formal_sums.proofs.Spans.{spanned_zero_difference, spanned_difference_back, spanned_difference_on}
use Rattle.magnus_laws.proofs.Lattices.{Lattice, back, plus-none, plus-minus, minus-minus}
use Rattle.magnus_laws.proofs.LatticeFox.{Point, same_point, shifted, shift, step, exponents, fox_in, at, at-append, at-scale, at-shift, step-flipped}
use Rattle.magnus_laws.proofs.LatticeFox.{exponents-inverse, exponents-commutator, exponents-copies, fox_in-append, fox_from-pair, fox_in-inverse}
use Rattle.magnus_laws.proofs.LatticeFox.{fox_in-copies, fox_in-commutator}
use Rattle.magnus_laws.proofs.LatticeModule.{IsLatticeGenerator, relator_vector, Anywhere, InModule, in_same, in_nothing, in_append, in_multiple, in_generator}
use Rattle.magnus_laws.proofs.LatticeModule.{components-fox_from, Passes, passes_none, passes_relator, passes_minus, passes_all, modulus_times}

module _ (L : Lattice) (p : Presented) where
  -- ---- pieces
  passes_piece : (s : List Letter) → IsPiece p s → Passes L p (exponents L s)
  passes_piece _ (pair x over) =
      passes_none L p (exponents L (x ∷ flipped x ∷ [])) (ap (L.plus (step L x)) (plus-none L (step L (flipped x)) ∙ step-flipped L x)
      ∙ plus-minus L (step L x))
  passes_piece _ (relator r listed) = passes_relator L p r listed
  passes_piece _ (inverse_relator r listed) = subst (Passes L p) (sym (exponents-inverse L r)) (passes_minus L p (exponents L r) (passes_relator L p r listed))
  passes_piece _ (double a b c d oa ob oc od) =
      passes_none L p (exponents L (commutator (commutator a b) (commutator c d))) (exponents-commutator L (commutator a b) (commutator c d))
  passes_piece _ (power a b some oa ob) =
      passes_none L p (exponents L (copies p.modulus (commutator a b))) (exponents-copies L p.modulus (commutator a b) (exponents-commutator L a b))

  fox_inverse_relator : (r : List Letter) → Contains p.relators r → InModule L p (fox_in L (inverse r))
  fox_inverse_relator r listed =
      let a : L.Z = exponents L r in
      in_same L p (fox_in L (inverse r)) (scale (negsuc 0) (shift L (L.minus a) (fox_in L r)))
      (λ m.
      let here : Point L = (L.plus a m.0, m.1) in
      let sum : at L (fox_in L r) here +ℤ at L (shift L a (fox_in L (inverse r))) here ≡ pos 0 = fox_in-inverse L r here in
      let second : at L (shift L a (fox_in L (inverse r))) here ≡ at L (fox_in L (inverse r)) m =
      at-shift L a (fox_in L (inverse r)) here ∙ ap (λ z. at L (fox_in L (inverse r)) (z, m.1)) (back L a m.0) in
      let first : at L (shift L (L.minus a) (fox_in L r)) m ≡ at L (fox_in L r) here =
      at-shift L (L.minus a) (fox_in L r) m ∙ ap (λ z. at L (fox_in L r) (L.plus z m.0, m.1)) (minus-minus L a) in
      omega (arith, ints, sum, second, first, at-scale L (negsuc 0) (shift L (L.minus a) (fox_in L r)) m))
      (in_multiple L p (negsuc 0) (L.minus a) (fox_in L r) (in_generator L p (fox_in L r) (relator_vector r listed)))

  fox_piece : (s : List Letter) → IsPiece p s → InModule L p (fox_in L s)
  fox_piece _ (pair x over) = in_same L p (fox_in L (x ∷ flipped x ∷ [])) [] (fox_from-pair L L.none x) (in_nothing L p)
  fox_piece _ (relator r listed) = in_generator L p (fox_in L r) (relator_vector r listed)
  fox_piece _ (inverse_relator r listed) = fox_inverse_relator r listed
  fox_piece _ (double a b c d oa ob oc od) =
      in_same L p (fox_in L (commutator (commutator a b) (commutator c d))) []
      (fox_in-commutator L (commutator a b) (commutator c d) (exponents-commutator L a b) (exponents-commutator L c d)) (in_nothing L p)
  fox_piece _ (power a b some oa ob) =
      in_same L p (fox_in L (copies p.modulus (commutator a b))) (scale (pos p.modulus) (fox_in L (commutator a b)))
      (λ m. fox_in-copies L p.modulus (commutator a b) (exponents-commutator L a b) m ∙ sym (at-scale L (pos p.modulus) (fox_in L (commutator a b)) m))
      (modulus_times L p some (fox_in L (commutator a b)) (components-fox_from L p L.none (commutator a b) (IsOver-commutator (length p.names) a b oa ob)))

  -- ---- moves
  abbrev pub Congruent : FormalSum (Point L) → FormalSum (Point L) → Type 0
  Congruent v w = InModule L p (v ++ scale (negsuc 0) w)

  -- what a piece s between u and v adds: [u]·fox s, and [u]·([s] - 1)·fox v
  put_in : (u s v : List Letter) → IsPiece p s → IsWordOver p v → Congruent (fox_in L (u ++ (s ++ v))) (fox_in L (u ++ v))
  put_in u s v is over =
      let a : L.Z = exponents L u in
      let e : L.Z = exponents L s in
      let d : FormalSum (Point L) = shift L e (fox_in L v) ++ scale (negsuc 0) (fox_in L v) in
      let own : FormalSum (Point L) = scale (pos 1) (shift L a (fox_in L s)) in
      let moved : FormalSum (Point L) = scale (pos 1) (shift L a d) in
      let longer : FormalSum (Point L) = fox_in L (u ++ (s ++ v)) in
      let shorter : FormalSum (Point L) = fox_in L (u ++ v) in
      in_same L p (longer ++ scale (negsuc 0) shorter) (own ++ moved)
      (λ m.
      let back : Point L = (L.plus (L.minus a) m.0, m.1) in
      let long : at L longer m ≡ at L (fox_in L u) m +ℤ at L (shift L a (fox_in L (s ++ v))) m =
      ap (λ z. at L z m) (fox_in-append L u (s ++ v)) ∙ at-append L (fox_in L u) (shift L a (fox_in L (s ++ v))) m in
      let tail : at L (shift L a (fox_in L (s ++ v))) m ≡ at L (fox_in L s) back +ℤ at L (shift L e (fox_in L v)) back =
      at-shift L a (fox_in L (s ++ v)) m ∙ ap (λ z. at L z back) (fox_in-append L s v) ∙ at-append L (fox_in L s) (shift L e (fox_in L v)) back in
      let short : at L shorter m ≡ at L (fox_in L u) m +ℤ at L (shift L a (fox_in L v)) m =
      ap (λ z. at L z m) (fox_in-append L u v) ∙ at-append L (fox_in L u) (shift L a (fox_in L v)) m in
      let rest : at L (shift L a (fox_in L v)) m ≡ at L (fox_in L v) back = at-shift L a (fox_in L v) m in
      let one : at L own m ≡ pos 1 *ℤ at L (shift L a (fox_in L s)) m = at-scale L (pos 1) (shift L a (fox_in L s)) m in
      let two : at L (shift L a (fox_in L s)) m ≡ at L (fox_in L s) back = at-shift L a (fox_in L s) m in
      let three : at L moved m ≡ pos 1 *ℤ at L (shift L a d) m = at-scale L (pos 1) (shift L a d) m in
      let four : at L (shift L a d) m ≡ at L (shift L e (fox_in L v)) back +ℤ at L (scale (negsuc 0) (fox_in L v)) back =
      at-shift L a d m ∙ at-append L (shift L e (fox_in L v)) (scale (negsuc 0) (fox_in L v)) back in
      let five : at L (scale (negsuc 0) (fox_in L v)) back ≡ negsuc 0 *ℤ at L (fox_in L v) back = at-scale L (negsuc 0) (fox_in L v) back in
      let left : at L (longer ++ scale (negsuc 0) shorter) m ≡ at L longer m +ℤ at L (scale (negsuc 0) shorter) m =
      at-append L longer (scale (negsuc 0) shorter) m in
      let less : at L (scale (negsuc 0) shorter) m ≡ negsuc 0 *ℤ at L shorter m = at-scale L (negsuc 0) shorter m in
      let right : at L (own ++ moved) m ≡ at L own m +ℤ at L moved m = at-append L own moved m in
      omega (arith, ints, long, tail, short, rest, one, two, three, four, five, left, less, right))
      (in_append L p own moved (in_multiple L p (pos 1) a (fox_in L s) (fox_piece s is))
      (in_multiple L p (pos 1) a d (passes_all L p e (passes_piece s is) (fox_in L v) (components-fox_from L p L.none v over))))

  turn : (v w : FormalSum (Point L)) → Congruent v w → Congruent w v
  turn v w h = spanned_difference_back (same_point L) (shifted L) (Anywhere L p) (IsLatticeGenerator L p) v w h

  puts_in : (a b : List Letter) → (puts : PutsIn p a b) → IsWordOver p puts.back → Congruent (fox_in L b) (fox_in L a)
  puts_in a b puts over =
      subst (λ z. Congruent (fox_in L z) (fox_in L a)) (sym puts.with)
      (subst (λ z. Congruent (fox_in L (puts.front ++ (puts.piece ++ puts.back))) (fox_in L z)) (sym puts.without)
      (put_in puts.front puts.piece puts.back puts.is_piece over))

  one_move : (a b : List Letter) → Moves p a b → IsWordOver p a → Congruent (fox_in L a) (fox_in L b)
  one_move a b (inl puts) over =
      turn (fox_in L b) (fox_in L a) (puts_in a b puts (IsOver-parts (length p.names) puts.front puts.back (subst (IsWordOver p) puts.without over)).1)
  one_move a b (inr puts) over =
      let rest = (IsOver-parts (length p.names) puts.front (puts.piece ++ puts.back) (subst (IsWordOver p) puts.with over)).1 in
      puts_in b a puts (IsOver-parts (length p.names) puts.piece puts.back rest).1

  leads_congruent : IsPresented p → (u : List Letter) (ws : List (List Letter)) (v : List Letter) → Leads p u ws v → IsWordOver p u
      → Congruent (fox_in L u) (fox_in L v)
  leads_congruent known u [] v same over =
      subst (λ z. Congruent (fox_in L u) (fox_in L z)) same
      (spanned_zero_difference (same_point L) (shifted L) (Anywhere L p) (IsLatticeGenerator L p) (fox_in L u) (fox_in L u) (λ m. refl))
  leads_congruent known u (w ∷ ws) v (move, more) over =
      spanned_difference_on (same_point L) (shifted L) (Anywhere L p) (IsLatticeGenerator L p) (fox_in L u) (fox_in L w) (fox_in L v)
      (one_move u w move over) (leads_congruent known w ws v more (reaches_over p u w known (w ∷ [], (move, refl)) over))

  pub reaches_congruent : IsPresented p → (u v : List Letter) → Reaches p u v → IsWordOver p u → Congruent (fox_in L u) (fox_in L v)
  reaches_congruent known u v way over = leads_congruent known u way.0 v way.1 over
