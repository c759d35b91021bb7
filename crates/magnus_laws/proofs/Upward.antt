-- From Fox vectors over tuples to those over monomials: what lies in the module there lies in the module here.
use Rattle.std.proofs.Common.{◌≡◌, ℕ, ◌<◌, ◌≤◌, Bool, true, false, cond, ℤ, pos, negsuc, ◌+ℤ◌, ◌*ℤ◌, List, [], ◌∷◌, ◌++◌, length, refl, sym, ap, subst, ◌∙◌}
use Rattle.std.proofs.Common.{arith}
use borrow.Author.Differences.{ints}
use Rattle.free_words.specs.declared.letter.Letter.{Letter}
use Rattle.free_words.specs.declared.TheConstants.{GENERATORS}
use Rattle.free_words.proofs.OverLemmas.{IsOver-append}
use Rattle.presentation.specs.Presented.{Presented, IsPresented, IsWritten}
use Rattle.std.specs.Prelude.{Contains}
use Rattle.std.proofs.lemmas.List.Elements.{All-contains, All-from_recursion}
use Rattle.derivation.specs.Moves.{IsWordOver}
use Rattle.formal_sums.specs.FormalSum.{FormalSum, coefficient, scale, rename}
use Rattle.formal_sums.specs.Span.{SumOfMultiples}
use Rattle.formal_sums.specs.Span.SumOfMultiples.{nothing, more}
use Rattle.formal_sums.specs.IntegerTuple.{IntegerTuple, plus}
use Rattle.formal_sums.proofs.Coefficients.{coefficient-append, rename-append, rename-scale}
use Rattle.formal_sums.proofs.Evaluation.{Same-rename}
use Rattle.formal_sums.proofs.Spans.{scale-one}
use Rattle.laurent_terms.specs.Monomials.{product}
use Rattle.module_vec.specs.declared.places.Place.{Place}
use Rattle.module_vec.specs.Places.{same_place, moved}
use Rattle.fox_calculus.specs.Fox.{image, letter_term, fox_after, fox}
use Rattle.fox_calculus.specs.Module.{IsGenerator, IsMember}
use Rattle.magnus_laws.specs.Congruence.{AreCongruent}
use Rattle.magnus_laws.proofs.Lattices.{plus-none}
use Rattle.magnus_laws.proofs.LatticeFox.{Point, shifted, shift, step, exponents, term_by, fox_from, fox_in, point_test, exponents-append}
use Rattle.magnus_laws.proofs.LatticeModule.{IsLatticeGenerator, relator_vector, relator_binomial, modulus_vector, Anywhere, InModule, HasComponents}
use Rattle.magnus_laws.proofs.LatticeModule.{components-fox_from}
use Rattle.magnus_laws.proofs.Tuples.{tuples}
use Rattle.magnus_laws.proofs.Monomials.{written, written-none, length-written, image-written}
use Rattle.magnus_laws.proofs.Members.{member_same, member_nothing, member_sum, member_scale, member_of_generator, congruent_member}
use Rattle.magnus_laws.proofs.UnitBinomials.{difference, alike_product}

-- relators are words over the presentation
pub relator_over : (p : Presented) → IsPresented p → (r : List Letter) → Contains p.relators r → IsWordOver p r
relator_over p known r listed = (All-contains (IsWritten (length p.names)) p.relators r (All-from_recursion _ p.relators known.relators) listed).0

-- a point as a place, and a term of one as a term of the other
abbrev pub up : (n : ℕ) → Point (tuples n) → Place
up n a = record { m = written n a.0; c = a.1 }

abbrev up_term : (n : ℕ) → ℤ × Point (tuples n) → ℤ × Place
up_term n t = (t.0, up n t.1)

module _ (p : Presented) (few : length p.names ≤ GENERATORS) where
  abbrev pub n : ℕ
  n = length p.names

  exponents_next : (u : List Letter) (l : Letter) → exponents (tuples n) (u ++ l ∷ []) ≡ plus n (exponents (tuples n) u) (step (tuples n) l)
  exponents_next u l = exponents-append (tuples n) u (l ∷ []) ∙ ap (plus n (exponents (tuples n) u)) (plus-none (tuples n) (step (tuples n) l))

  term-up : (u : List Letter) (g : ℕ) (b : Bool) → IsWordOver p u → g < n
      → up_term n (term_by (tuples n) b (exponents (tuples n) u) g) ≡ letter_term u (record { g = g; inv = b })
  term-up u g true over below =
      let l : Letter = record { g = g; inv = true } in
      let e : written n (plus n (exponents (tuples n) u) (step (tuples n) l)) ≡ image (u ++ l ∷ []) =
      ap (written n) (sym (exponents_next u l)) ∙ sym (image-written n (u ++ l ∷ []) few (IsOver-append n u (l ∷ []) over (below, tt))) in
      λ i. (negsuc 0, record { m = e i; c = g })
  term-up u g false over below = λ i. (pos 1, record { m = sym (image-written n u few over) i; c = g })

  -- the Fox vector of a word
  pub fox_after-up : (u w : List Letter) → IsWordOver p u → IsWordOver p w → rename (up n) (fox_from (tuples n) (exponents (tuples n) u) w) ≡ fox_after u w
  fox_after-up u [] ou ow = refl
  fox_after-up u (l ∷ w) ou ow =
      let next : List Letter = u ++ l ∷ [] in
      λ i. term-up u l.g l.inv ou ow.0 i
      ∷ (ap (λ z. rename (up n) (fox_from (tuples n) z w)) (sym (exponents_next u l)) ∙ fox_after-up next w (IsOver-append n u (l ∷ []) ou (ow.0, tt)) ow.1) i

  pub fox-up : (w : List Letter) → IsWordOver p w → rename (up n) (fox_in (tuples n) w) ≡ fox w
  fox-up w over = fox_after-up [] w tt over

  -- ---- multiples
  pub congruent_next : (q : ℤ) (s t : List ℕ) (c : ℕ) (v w : FormalSum Place) → IsMember p (difference s t c) → AreCongruent p v w
      → AreCongruent p ((q, record { m = s; c = c }) ∷ v) ((q, record { m = t; c = c }) ∷ w)
  congruent_next q s t c v w d h =
      let first : FormalSum Place = (q, record { m = s; c = c }) ∷ v in
      let second : FormalSum Place = (q, record { m = t; c = c }) ∷ w in
      let this : FormalSum Place = scale q (difference s t c) in
      let rest : FormalSum Place = v ++ scale (negsuc 0) w in
      member_same p (first ++ scale (negsuc 0) second) (this ++ rest)
      (λ x. next q (same_place (record { m = s; c = c }) x) (same_place (record { m = t; c = c }) x)
      (coefficient same_place v x) (coefficient same_place (scale (negsuc 0) w) x)
      (coefficient same_place (v ++ scale (negsuc 0) second) x) (coefficient same_place rest x)
      (coefficient-append same_place v (scale (negsuc 0) second) x) (coefficient-append same_place v (scale (negsuc 0) w) x))
      (member_sum p this rest (member_scale p q (difference s t c) d) h)
    where
      next : (q : ℤ) (a b : Bool) (x y s r : ℤ) → s ≡ x +ℤ (cond b (negsuc 0 *ℤ q) (pos 0) +ℤ y) → r ≡ x +ℤ y
          → cond a q (pos 0) +ℤ s ≡ cond a (q *ℤ pos 1) (pos 0) +ℤ (cond b (q *ℤ negsuc 0) (pos 0) +ℤ r)
      next q true true x y s r e f = omega (arith, ints)
      next q true false x y s r e f = omega (arith, ints)
      next q false true x y s r e f = omega (arith, ints)
      next q false false x y s r e f = omega (arith, ints)

  -- t·v over tuples is congruent to t·v over monomials
  pub shift-up : (t : IntegerTuple n) (v : FormalSum (Point (tuples n))) → HasComponents (tuples n) p v
      → AreCongruent p (rename (up n) (shift (tuples n) t v)) (rename (moved (written n t)) (rename (up n) v))
  shift-up t [] over = member_nothing p
  shift-up t ((q, (a, c)) ∷ v) over =
      congruent_next q (written n (plus n t a)) (product (written n t) (written n a)) c (rename (up n) (shift (tuples n) t v))
      (rename (moved (written n t)) (rename (up n) v))
      (alike_product p few t a c over.0) (shift-up t v over.1)

  -- ---- the module
  module _ (known : IsPresented p) where
    components_of : (g : FormalSum (Point (tuples n))) → IsLatticeGenerator (tuples n) p g → HasComponents (tuples n) p g
    components_of _ (relator_vector r listed) = components-fox_from (tuples n) p (tuples n).none r (relator_over p known r listed)
    components_of _ (relator_binomial r c listed below) = (below, (below, tt))
    components_of _ (modulus_vector c some below) = (below, tt)

    generator-up : (g : FormalSum (Point (tuples n))) → IsLatticeGenerator (tuples n) p g → IsGenerator p (rename (up n) g)
    generator-up _ (relator_vector r listed) = subst (IsGenerator p) (sym (fox-up r (relator_over p known r listed))) (IsGenerator.relator_vector r listed)
    generator-up _ (relator_binomial r c listed below) =
        subst (IsGenerator p)
        (λ i. (pos 1, record { m = image-written n r few (relator_over p known r listed) i; c = c }) ∷ (
          negsuc 0,
          record {
            m = sym (written-none n few) i;
            c = c;
          },
        ) ∷ [])
        (IsGenerator.relator_binomial r c listed below)
    generator-up _ (modulus_vector c some below) =
        subst (IsGenerator p) (λ i. (pos p.modulus, record { m = sym (written-none n few) i; c = c }) ∷ []) (IsGenerator.modulus_vector c some below)

    -- t·g for a generator g
    shifted_generator : (t : IntegerTuple n) (g : FormalSum (Point (tuples n))) → IsLatticeGenerator (tuples n) p g
        → IsMember p (rename (up n) (shift (tuples n) t g))
    shifted_generator t g is =
        let there : FormalSum Place = rename (moved (written n t)) (rename (up n) g) in
        congruent_member p (rename (up n) (shift (tuples n) t g)) there (shift-up t g (components_of g is))
        (subst (IsMember p) (scale-one there) (member_of_generator p (pos 1) (written n t) (rename (up n) g) (length-written n t few) (generator-up g is)))

    sum-up : (v : FormalSum (Point (tuples n))) → SumOfMultiples (shifted (tuples n)) (Anywhere (tuples n) p) (IsLatticeGenerator (tuples n) p) v
        → IsMember p (rename (up n) v)
    sum-up v (nothing) = member_nothing p
    sum-up v (more q t g rest moves is sum) =
        let this : FormalSum (Point (tuples n)) = shift (tuples n) t g in
        subst (IsMember p) (sym (rename-append (up n) (scale q this) rest ∙ ap (λ z. z ++ rename (up n) rest) (rename-scale (up n) q this)))
        (member_sum p (scale q (rename (up n) this)) (rename (up n) rest) (member_scale p q (rename (up n) this) (shifted_generator t g is)) (sum-up rest sum))

    pub module-up : (v : FormalSum (Point (tuples n))) → InModule (tuples n) p v → IsMember p (rename (up n) v)
    module-up v (w, sum, same) = member_same p (rename (up n) v) (rename (up n) w) (Same-rename (point_test (tuples n)) same_place (up n) v w same)
        (sum-up w sum)
