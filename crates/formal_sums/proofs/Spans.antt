-- What a set of formal sums spans is closed under sums, multiples and equality.
use Rattle.std.proofs.Common.{◌≡◌, Bool, ℤ, pos, negsuc, ◌*ℤ◌, [], ◌∷◌, ◌++◌, refl, sym, ap, subst, ◌∙◌, arith, append_assoc, append-nil}
use borrow.Author.Differences.{ints}
use Rattle.formal_sums.specs.FormalSum.{FormalSum, Same, scale, rename}
use Rattle.formal_sums.specs.Keys.{IsEqualityTest}
use Rattle.formal_sums.specs.Span.{multiple, SumOfMultiples, IsSpanned}
use Rattle.formal_sums.specs.Span.SumOfMultiples.{nothing, more}
use Rattle.formal_sums.proofs.Coefficients.{coefficient-append, coefficient-scale, Same-append, Same-scale, scale-append, rename-append, scale-scale}
use Rattle.formal_sums.proofs.Coefficients.{rename-scale, rename-rename}
use Rattle.formal_sums.proofs.Evaluation.{Same-rename}
use Rattle.formal_sums.proofs.Integers.{one-*ℤ}

pub scale-one : {K : Type 0} (v : FormalSum K) → scale (pos 1) v ≡ v
scale-one [] = refl
scale-one (t ∷ v) = λ i. (one-*ℤ t.0 i, t.1) ∷ scale-one v i

module _ {K T : Type 0} (eq : K → K → Bool) (move : T → K → K) (Moves : T → Type 0) (IsGenerator : FormalSum K → Type 0) where
  abbrev Spanned : FormalSum K → Type 0
  Spanned v = IsSpanned eq move Moves IsGenerator v

  -- an equal sum
  pub spanned_same : (v w : FormalSum K) → Same eq v w → IsSpanned eq move Moves IsGenerator w → IsSpanned eq move Moves IsGenerator v
  spanned_same v w e (s, is, f) = (s, is, λ k. e k ∙ f k)

  pub spanned_nothing : IsSpanned eq move Moves IsGenerator []
  spanned_nothing = ([], nothing, λ k. refl)

  sums-append : (v w : FormalSum K) → SumOfMultiples move Moves IsGenerator v → SumOfMultiples move Moves IsGenerator w
      → SumOfMultiples move Moves IsGenerator (v ++ w)
  sums-append v w (nothing) second = second
  sums-append v w (more q t g rest moves is sum) second =
      subst (SumOfMultiples move Moves IsGenerator) (sym (append_assoc (multiple move q t g) rest w))
      (more q t g (rest ++ w) moves is (sums-append rest w sum second))

  pub spanned-append : (v w : FormalSum K) → IsSpanned eq move Moves IsGenerator v → IsSpanned eq move Moves IsGenerator w
      → IsSpanned eq move Moves IsGenerator (v ++ w)
  spanned-append v w (s, is, e) (r, are, f) = (s ++ r, sums-append s r is are, Same-append eq v s w r e f)

  -- a multiple q·t·g of a generator
  pub spanned_multiple : (q : ℤ) (t : T) (g : FormalSum K) → Moves t → IsGenerator g → IsSpanned eq move Moves IsGenerator (multiple move q t g)
  spanned_multiple q t g moves is =
      subst Spanned (append-nil (multiple move q t g)) (multiple move q t g ++ [], more q t g [] moves is nothing, λ k. refl)

  sum-scale : (q : ℤ) (v : FormalSum K) → SumOfMultiples move Moves IsGenerator v → IsSpanned eq move Moves IsGenerator (scale q v)
  sum-scale q v (nothing) = spanned_nothing
  sum-scale q v (more p t g rest moves is sum) =
      subst Spanned (sym (scale-append q (multiple move p t g) rest ∙ ap (λ z. z ++ scale q rest) (scale-scale q p (rename (move t) g))))
      (spanned-append (multiple move (q *ℤ p) t g) (scale q rest) (spanned_multiple (q *ℤ p) t g moves is) (sum-scale q rest sum))

  pub spanned-scale : (q : ℤ) (v : FormalSum K) → IsSpanned eq move Moves IsGenerator v → IsSpanned eq move Moves IsGenerator (scale q v)
  spanned-scale q v (s, is, e) = spanned_same (scale q v) (scale q s) (Same-scale eq q v s e) (sum-scale q s is)

  -- ---- differences
  pub spanned_zero_difference : (v w : FormalSum K) → Same eq v w → IsSpanned eq move Moves IsGenerator (v ++ scale (negsuc 0) w)
  spanned_zero_difference v w e =
      spanned_same (v ++ scale (negsuc 0) w) [] (λ k. omega (
        arith,
        ints,
        e k,
        coefficient-append eq v (scale (negsuc 0) w) k,
        coefficient-scale eq (negsuc 0) w k,
      )) spanned_nothing

  pub spanned_difference_back : (v w : FormalSum K) → IsSpanned eq move Moves IsGenerator (v ++ scale (negsuc 0) w)
      → IsSpanned eq move Moves IsGenerator (w ++ scale (negsuc 0) v)
  spanned_difference_back v w d =
      spanned_same (w ++ scale (negsuc 0) v) (scale (negsuc 0) (v ++ scale (negsuc 0) w))
      (λ k. omega (
        arith,
        ints,
        coefficient-append eq w (scale (negsuc 0) v) k,
        coefficient-scale eq (negsuc 0) v k,
        coefficient-scale eq (negsuc 0) (v ++ scale (negsuc 0) w) k,
        coefficient-append eq v (scale (negsuc 0) w) k,
        coefficient-scale eq (negsuc 0) w k,
      ))
      (spanned-scale (negsuc 0) (v ++ scale (negsuc 0) w) d)

  pub spanned_difference_on : (u v w : FormalSum K) → IsSpanned eq move Moves IsGenerator (u ++ scale (negsuc 0) v)
      → IsSpanned eq move Moves IsGenerator (v ++ scale (negsuc 0) w) → IsSpanned eq move Moves IsGenerator (u ++ scale (negsuc 0) w)
  spanned_difference_on u v w d e =
      spanned_same (u ++ scale (negsuc 0) w) ((u ++ scale (negsuc 0) v) ++ (v ++ scale (negsuc 0) w))
      (λ k. omega (
        arith,
        ints,
        coefficient-append eq (u ++ scale (negsuc 0) v) (v ++ scale (negsuc 0) w) k,
        coefficient-append eq u (scale (negsuc 0) v) k,
        coefficient-append eq v (scale (negsuc 0) w) k,
        coefficient-append eq u (scale (negsuc 0) w) k,
        coefficient-scale eq (negsuc 0) v k,
      ))
      (spanned-append (u ++ scale (negsuc 0) v) (v ++ scale (negsuc 0) w) d e)

  pub spanned_difference-append : (v v' w w' : FormalSum K) → IsSpanned eq move Moves IsGenerator (v ++ scale (negsuc 0) v')
      → IsSpanned eq move Moves IsGenerator (w ++ scale (negsuc 0) w') → IsSpanned eq move Moves IsGenerator ((v ++ w) ++ scale (negsuc 0) (v' ++ w'))
  spanned_difference-append v v' w w' d e =
      spanned_same ((v ++ w) ++ scale (negsuc 0) (v' ++ w')) ((v ++ scale (negsuc 0) v') ++ (w ++ scale (negsuc 0) w'))
      (λ k. omega (
        arith,
        ints,
        coefficient-append eq (v ++ w) (scale (negsuc 0) (v' ++ w')) k,
        coefficient-append eq v w k,
        coefficient-scale eq (negsuc 0) (v' ++ w') k,
        coefficient-append eq v' w' k,
        coefficient-append eq (v ++ scale (negsuc 0) v') (w ++ scale (negsuc 0) w')
            k,
        coefficient-append eq v (scale (negsuc 0) v') k,
        coefficient-append eq w (scale (negsuc 0) w') k,
        coefficient-scale eq (negsuc 0) v' k,
        coefficient-scale eq (negsuc 0) w' k,
      ))
      (spanned-append (v ++ scale (negsuc 0) v') (w ++ scale (negsuc 0) w') d e)

  -- what differs from a spanned sum by a spanned one is spanned
  pub spanned_by_difference : (v w : FormalSum K) → IsSpanned eq move Moves IsGenerator (v ++ scale (negsuc 0) w) → IsSpanned eq move Moves IsGenerator w
      → IsSpanned eq move Moves IsGenerator v
  spanned_by_difference v w d is =
      spanned_same v ((v ++ scale (negsuc 0) w) ++ w)
      (λ k. omega (
        arith,
        ints,
        coefficient-append eq (v ++ scale (negsuc 0) w) w k,
        coefficient-append eq v (scale (negsuc 0) w) k,
        coefficient-scale eq (negsuc 0) w k,
      ))
      (spanned-append (v ++ scale (negsuc 0) w) w d is)

  -- ---- multiples by moves, where moves can be put together
  module _ (test : IsEqualityTest eq) (together : T → T → T) (closed : (s t : T) → Moves s → Moves t → Moves (together s t)) (composed : (s t : T) (k : K)
      → move s (move t k) ≡ move (together s t) k) where
    moved-multiple : (s : T) (q : ℤ) (t : T) (g : FormalSum K) → rename (move s) (multiple move q t g) ≡ multiple move q (together s t) g
    moved-multiple s q t g =
        rename-scale (move s) q (rename (move t) g) ∙ ap (scale q) (rename-rename (move s) (move t) g ∙ ap (λ f. rename f g) (λ i k. composed s t k i))

    sum-move : (s : T) → Moves s → (v : FormalSum K) → SumOfMultiples move Moves IsGenerator v → SumOfMultiples move Moves IsGenerator (rename (move s) v)
    sum-move s moving v (nothing) = nothing
    sum-move s moving v (more q t g rest moves is sum) =
        subst (SumOfMultiples move Moves IsGenerator) (sym (rename-append (move s) (multiple move q t g) rest
        ∙ ap (λ z. z ++ rename (move s) rest) (moved-multiple s q t g)))
        (more q (together s t) g (rename (move s) rest) (closed s t moving moves) is (sum-move s moving rest sum))

    pub spanned-move : (s : T) → Moves s → (v : FormalSum K) → IsSpanned eq move Moves IsGenerator v → IsSpanned eq move Moves IsGenerator (rename (move s) v)
    spanned-move s moving v (r, is, e) = (rename (move s) r, sum-move s moving r is, Same-rename test eq (move s) v r e)

    -- the multiple q·s·v of a spanned sum
    pub spanned-multiple : (q : ℤ) (s : T) (v : FormalSum K) → Moves s → IsSpanned eq move Moves IsGenerator v
        → IsSpanned eq move Moves IsGenerator (multiple move q s v)
    spanned-multiple q s v moving is = spanned-scale q (rename (move s) v) (spanned-move s moving v is)
