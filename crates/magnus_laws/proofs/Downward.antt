-- From Fox vectors over monomials to those over tuples: what lies in the module here lies in the module there.
use Rattle.std.proofs.Common.{◌≡◌, ℕ, ◌-◌, ◌*◌, ◌<◌, ◌≤◌, pos, negsuc, List, [], ◌∷◌, ◌++◌, length, replicate, refl, sym, ap, subst, ◌∙◌, arith}
use Rattle.std.specs.List.{AllByRecursion}
use Rattle.std.proofs.lemmas.List.{length-append, length-replicate}
use Rattle.free_words.specs.declared.letter.Letter.{Letter}
use Rattle.free_words.specs.declared.TheConstants.{GENERATORS}
use Rattle.presentation.specs.Presented.{Presented, IsPresented}
use Rattle.derivation.specs.Moves.{IsWordOver}
use Rattle.formal_sums.specs.FormalSum.{FormalSum, scale, rename}
use Rattle.formal_sums.specs.Span.{multiple, SumOfMultiples}
use Rattle.formal_sums.specs.Span.SumOfMultiples.{nothing, more}
use Rattle.formal_sums.specs.IntegerTuple.{IntegerTuple, none}
use Rattle.formal_sums.proofs.Coefficients.{rename-append, rename-scale}
use Rattle.formal_sums.proofs.Evaluation.{Same-rename}
use Rattle.laurent_terms.specs.declared.TheConstants.{VARIABLES}
use Rattle.laurent_terms.specs.Monomials.{one}
use Rattle.module_vec.specs.declared.places.Place.{Place}
use Rattle.module_vec.specs.Places.{moved}
use Rattle.module_vec.proofs.Order.{test}
use Rattle.fox_calculus.specs.Fox.{image, fox}
use Rattle.fox_calculus.specs.Generators.{binomial, unit_monomial}
use Rattle.fox_calculus.specs.Module.{IsGenerator, HasVariables, IsMember}
use Rattle.fox_calculus.specs.Module.IsGenerator.{relator_vector, relator_binomial, unit_binomial, modulus_vector}
use Rattle.magnus_laws.proofs.LatticeFox.{Point, same_point, shift, exponents, fox_in}
use Rattle.magnus_laws.proofs.LatticeModule.{IsLatticeGenerator, InModule, in_same, in_nothing, in_append, in_multiple, in_generator, passes_none}
use Rattle.magnus_laws.proofs.LatticeModule as M
use Rattle.magnus_laws.proofs.Tuples.{tuples}
use Rattle.magnus_laws.proofs.Monomials.{length-written, image-written, read, read-written, read-product, read-zeros, unit_monomial-is, read-unit_monomial}
use Rattle.magnus_laws.proofs.Upward.{relator_over, up, fox-up}

-- a place as a point
abbrev pub down : (n : ℕ) → Place → Point (tuples n)
down n x = (read n x.m, x.c)

pub down_of_up : (n : ℕ) (v : FormalSum (Point (tuples n))) → rename (down n) (rename (up n) v) ≡ v
down_of_up n [] = refl
down_of_up n (t ∷ v) = λ i. (t.0, (read-written n t.1.0 i, t.1.1)) ∷ down_of_up n v i

-- each place has all variables
abbrev pub AreLong : FormalSum Place → Type 0
AreLong v = AllByRecursion (λ t. HasVariables t.1.m) v

long_up : (n : ℕ) → n ≤ GENERATORS → (v : FormalSum (Point (tuples n))) → AreLong (rename (up n) v)
long_up n few [] = tt
long_up n few (t ∷ v) = (length-written n t.1.0 few, long_up n few v)

moved-down : (n : ℕ) (t : List ℕ) (v : FormalSum Place) → HasVariables t → AreLong v
    → rename (down n) (rename (moved t) v) ≡ shift (tuples n) (read n t) (rename (down n) v)
moved-down n t [] long are = refl
moved-down n t (c ∷ v) long are = λ i. (c.0, (read-product n t c.1.m (long ∙ sym are.0) i, c.1.c)) ∷ moved-down n t v long are.1 i

long_one : HasVariables one
long_one = length-replicate {A = ℕ} VARIABLES 0

long_unit : (g : ℕ) → g < GENERATORS → HasVariables (unit_monomial g)
long_unit g below =
    let m : ℕ = VARIABLES - 2 * g - 2 in
    ap length (unit_monomial-is g m (omega (arith, below)))
    ∙ omega (
      arith,
      below,
      length-append {A = ℕ} (replicate (2 * g) 0) (1 ∷ 1 ∷ replicate m 0),
      length-replicate {A =
          ℕ} (2 * g) 0,
      length-replicate {A = ℕ} m 0,
    )

module _ (p : Presented) (known : IsPresented p) where
  abbrev pub n : ℕ
  n = length p.names

  abbrev few : n ≤ GENERATORS
  few = known.few_names

  -- the Fox vector of a word
  pub fox-down : (w : List Letter) → IsWordOver p w → rename (down n) (fox w) ≡ fox_in (tuples n) w
  fox-down w over = ap (rename (down n)) (sym (fox-up p few w over)) ∙ down_of_up n (fox_in (tuples n) w)

  -- ---- generators
  long_generator : (g : FormalSum Place) → IsGenerator p g → AreLong g
  long_generator _ (relator_vector r listed) = subst AreLong (fox-up p few r (relator_over p known r listed)) (long_up n few (fox_in (tuples n) r))
  long_generator _ (relator_binomial r c listed below) =
      (ap length (image-written n r few (relator_over p known r listed)) ∙ length-written n (exponents (tuples n) r) few, (long_one, tt))
  long_generator _ (unit_binomial g c small below) = (long_unit g (omega (arith, small, few)), (long_one, tt))
  long_generator _ (modulus_vector c some below) = (long_one, tt)

  binomial-down : (m : List ℕ) (c : ℕ) (e : IntegerTuple n) → read n m ≡ e → rename (down n) (binomial m c) ≡ M.binomial (tuples n) e c
  binomial-down m c e h = λ i. (pos 1, (h i, c)) ∷ (negsuc 0, (read-zeros n VARIABLES i, c)) ∷ []

  generator-down : (g : FormalSum Place) → IsGenerator p g → InModule (tuples n) p (rename (down n) g)
  generator-down _ (relator_vector r listed) =
      subst (InModule (tuples n) p) (sym (fox-down r (relator_over p known r listed)))
      (in_generator (tuples n) p (fox_in (tuples n) r) (IsLatticeGenerator.relator_vector r listed))
  generator-down _ (relator_binomial r c listed below) =
      let e : IntegerTuple n = exponents (tuples n) r in
      subst (InModule (tuples n) p) (sym (binomial-down (image r) c e (ap (read n) (image-written n r few (relator_over p known r listed)) ∙ read-written n e)))
      (in_generator (tuples n) p (M.binomial (tuples n) e c) (IsLatticeGenerator.relator_binomial r c listed below))
  generator-down _ (unit_binomial g c small below) =
      subst (InModule (tuples n) p) (sym (binomial-down (unit_monomial g) c (none n) (read-unit_monomial n g (omega (arith, small, few)))))
      (passes_none (tuples n) p (none n) refl c below)
  generator-down _ (modulus_vector c some below) =
      subst (InModule (tuples n) p) (λ i. (pos p.modulus, (sym (read-zeros n VARIABLES) i, c)) ∷ [])
      (in_generator (tuples n) p (M.constant (tuples n) p.modulus c) (IsLatticeGenerator.modulus_vector c some below))

  -- ---- the module
  sum-down : (v : FormalSum Place) → SumOfMultiples moved HasVariables (IsGenerator p) v → InModule (tuples n) p (rename (down n) v)
  sum-down _ (nothing) = in_nothing (tuples n) p
  sum-down _ (more q t g rest long is sum) =
      let this : FormalSum (Point (tuples n)) = scale q (shift (tuples n) (read n t) (rename (down n) g)) in
      subst (InModule (tuples n) p)
      (sym (rename-append (down n) (multiple moved q t g) rest
      ∙ ap (λ z. z ++ rename (down n) rest) (rename-scale (down n) q (rename (moved t) g) ∙ ap (scale q) (moved-down n t g long (long_generator g is)))))
      (in_append (tuples n) p this (rename (down n) rest) (in_multiple (tuples n) p q (read n t) (rename (down n) g) (generator-down g is)) (sum-down rest sum))

  pub module-down : (v : FormalSum Place) → IsMember p v → InModule (tuples n) p (rename (down n) v)
  module-down v (w, sum, same) =
      in_same (tuples n) p (rename (down n) v) (rename (down n) w) (Same-rename test (same_point (tuples n)) (down n) v w same) (sum-down w sum)
