-- Taking the values of lines away.
use Rattle.std.proofs.Common.{◌≡◌, ℕ, zero, suc, ◌+◌, ◌<◌, ℤ, ◌+ℤ◌, ◌*ℤ◌, neg_ℤ, List, [], ◌∷◌, ◌++◌, length, get_or, refl, sym, ap, subst, ◌∙◌, arith}
use Rattle.std.specs.Prelude.{Ok, Err, IfOk}
use Rattle.std.proofs.lemmas.List.Concat.{flat_map-cons}
use borrow.Author.Differences.{ints}
use Rattle.free_words.specs.declared.letter.Letter.{Letter}
use Rattle.presentation.specs.Presented.{Presented}
use Rattle.formal_sums.specs.FormalSum.{FormalSum, Same, coefficient, rename}
use Rattle.formal_sums.specs.Span.{multiple}
use Rattle.formal_sums.proofs.Coefficients.{coefficient-append, coefficient-scale, rename-append, rename-scale}
use Rattle.formal_sums.proofs.Evaluation.{Same-rename}
use Rattle.formal_sums.proofs.Integers.{neg_ℤ-*ℤ}
use Rattle.module_vec.specs.declared.places.Place.{Place}
use Rattle.module_vec.specs.declared.places.Term.{Term}
use Rattle.module_vec.specs.Places.{same_place, moved}
use Rattle.module_vec.specs.Vectors.{sum_of}
use Rattle.module_vec.proofs.Determined.{same_vector}
use Rattle.module_vec.proofs.Order.{test}
use Rattle.fox_calculus.specs.Fox.{fox, image}
use Rattle.fox_calculus.specs.Generators.{IsWritten}
use Rattle.flat_cert.specs.declared.faults.FlatFault.{FlatFault}
use Rattle.flat_cert.specs.declared.faults.FlatFault.TheVariants.{Beyond, NoMemory}
use Rattle.flat_cert.specs.declared.lines.Flat.{Flat}
use Rattle.flat_cert.specs.declared.relators.RelatorVector.{RelatorVector}
use Rattle.flat_cert.specs.Images.{flat_place, flat_image}
use Rattle.flat_cert.specs.Certificates.{IsFlat, generator_of, value_of, certificate_sum}
use Rattle.flat_cert.specs.Weights.{weight}
use Rattle.flat_cert.specs.Checking.{Vectors, lines_weight}
use Rattle.flat_cert.specs.Adding.{weight_at, Adds, Weighs, Loses, TakesAway, TakesLines, AreRelators}
use Rattle.flat_cert.proofs.Weights.{beyond_more, weight_turned}
use Rattle.flat_cert.proofs.Entries.{Entries}
use Rattle.flat_cert.proofs.Adding.{Answer}

-- a sum is written as one vector
pub written_same : (f : FormalSum Place) (v g : List Term) → IsWritten f v → IsWritten f g → v ≡ g
written_same f v g a b = same_vector v g a.sparse b.sparse (λ x. a.same x ∙ sym (b.same x))

-- the flat image of a multiple of what is moved
flat_multiple_at : (q : ℤ) (t : List ℕ) (v : FormalSum Place) (x : Place)
    → coefficient same_place (flat_image (multiple moved q t v)) x ≡ q *ℤ coefficient same_place (flat_image (rename (moved t) v)) x
flat_multiple_at q t v x =
    ap (λ s. coefficient same_place s x) (rename-scale flat_place q (rename (moved t) v)) ∙ coefficient-scale same_place q (flat_image (rename (moved t) v)) x

pub flat_same : (v w : FormalSum Place) → Same same_place v w → Same same_place (flat_image v) (flat_image w)
flat_same v w e = Same-rename test same_place flat_place v w e

turned_at : (k : ℤ) (t : List ℕ) (f : FormalSum Place) (v : List Term) (x : Place) → Same same_place (sum_of v) f
    → coefficient same_place (flat_image (multiple moved (neg_ℤ k) t (sum_of v))) x ≡ neg_ℤ (coefficient same_place (flat_image (multiple moved k t f)) x)
turned_at k t f v x e =
    let same : coefficient same_place (flat_image (rename (moved t) (sum_of v))) x ≡ coefficient same_place (flat_image (rename (moved t) f)) x =
    flat_same (rename (moved t) (sum_of v)) (rename (moved t) f) (Same-rename test same_place (moved t) (sum_of v) f e) x in
    flat_multiple_at (neg_ℤ k) t (sum_of v) x
    ∙ ap (λ z. neg_ℤ k *ℤ z) same
    ∙ neg_ℤ-*ℤ k (coefficient same_place (flat_image (rename (moved t) f)) x)
    ∙ ap neg_ℤ (sym (flat_multiple_at k t f x))

pub takes_away : (old new : Entries) (k : ℤ) (t : List ℕ) (f : FormalSum Place) (v : List Term) (r : Answer) → IsWritten f v
    → Adds old (flat_image (multiple moved (neg_ℤ k) t (sum_of v))) new r → TakesAway old k t f new r
takes_away old new k t f v r is adds = record { sums = sums r adds; weights = λ g own. weights g (written_same f v g is own) r adds }
  where
    sums : (r : Answer) → Adds old (flat_image (multiple moved (neg_ℤ k) t (sum_of v))) new r → IfOk r (λ _. Loses old (flat_image (multiple moved k t f)) new)
    sums (Ok u) h = λ x. omega (arith, ints, h.0 x, turned_at k t f v x is.same)
    sums (Err e) h = tt

    same : (g : List Term) → v ≡ g → (x : Place)
        → weight (flat_image (multiple moved (neg_ℤ k) t (sum_of v))) x ≡ weight (flat_image (multiple moved k t (sum_of g))) x
    same g e x = weight_turned k t (sum_of v) x ∙ ap (λ z. weight (flat_image (multiple moved k t (sum_of z))) x) e

    weights : (g : List Term) → v ≡ g → (r : Answer) → Adds old (flat_image (multiple moved (neg_ℤ k) t (sum_of v))) new r
        → Weighs old (weight (flat_image (multiple moved k t (sum_of g)))) new r
    weights g e (Ok u) h = λ x. omega (arith, h.1 x, same g e x)
    weights g e (Err Beyond) h =
        beyond_more (λ x. weight_at old x + weight (flat_image (multiple moved (neg_ℤ k) t (sum_of v))) x)
        (λ x. weight_at old x + weight (flat_image (multiple moved k t (sum_of g))) x) (λ x. omega (arith, same g e x)) h
    weights g e (Err NoMemory) h = tt

-- ---- the lines

module _ (p : Presented) where
  pub takes_nothing : (old : Entries) → TakesLines p old [] old (Ok tt)
  takes_nothing old = record { sums = λ x. omega (arith, ints); weights = λ vs are x. omega arith }

  sum_first : (l : Flat) (ls : List Flat) (x : Place)
      → coefficient same_place (flat_image (certificate_sum p (l ∷ ls))) x
      ≡ coefficient same_place (flat_image (value_of p l)) x +ℤ coefficient same_place (flat_image (certificate_sum p ls)) x
  sum_first l ls x =
      ap (λ s. coefficient same_place (flat_image s) x) (flat_map-cons (value_of p) l ls)
      ∙ ap (λ s. coefficient same_place s x) (rename-append flat_place (value_of p l) (certificate_sum p ls))
      ∙ coefficient-append same_place (flat_image (value_of p l)) (flat_image (certificate_sum p ls)) x

  pub takes_on : (old mid new : Entries) (l : Flat) (ls : List Flat) (r : Answer) → IsFlat p l → TakesAway old l.k l.t (generator_of p l.what) mid (Ok tt)
      → TakesLines p mid ls new r → TakesLines p old (l ∷ ls) new r
  takes_on old mid new l ls r is one more = record {
    sums = sums r more.sums;
    weights =
        λ vs are. weights vs (one.weights (vs.of l.what) (are l.what is.kind)) r (more.weights vs are);
  }
    where
      sums : (r : Answer) → IfOk r (λ _. Loses mid (flat_image (certificate_sum p ls)) new)
          → IfOk r (λ _. Loses old (flat_image (certificate_sum p (l ∷ ls))) new)
      sums (Ok u) h = λ x. omega (arith, ints, h x, one.sums x, sum_first l ls x)
      sums (Err e) h = tt

      weights : (vs : Vectors) → ((x : Place) → weight_at mid x ≡ weight_at old x + weight (flat_image (multiple moved l.k l.t (sum_of (vs.of l.what)))) x)
          → (r : Answer) → Weighs mid (lines_weight vs ls) new r → Weighs old (lines_weight vs (l ∷ ls)) new r
      weights vs first (Ok u) h = λ x. omega (arith, h x, first x)
      weights vs first (Err Beyond) h =
          beyond_more (λ x. weight_at mid x + lines_weight vs ls x) (λ x. weight_at old x + lines_weight vs (l ∷ ls) x) (λ x. omega (arith, first x)) h
      weights vs first (Err NoMemory) h = tt

  pub takes_fails : (old new : Entries) (l : Flat) (ls : List Flat) (e : FlatFault) → IsFlat p l
      → TakesAway old l.k l.t (generator_of p l.what) new (Err e) → TakesLines p old (l ∷ ls) new (Err e)
  takes_fails old new l ls e is one = record { sums = tt; weights = λ vs are. weights vs e (one.weights (vs.of l.what) (are l.what is.kind)) }
    where
      weights : (vs : Vectors) (e : FlatFault) → Weighs old (weight (flat_image (multiple moved l.k l.t (sum_of (vs.of l.what))))) new (Err e)
          → Weighs old (lines_weight vs (l ∷ ls)) new (Err e)
      weights vs Beyond h =
          beyond_more (λ x. weight_at old x + weight (flat_image (multiple moved l.k l.t (sum_of (vs.of l.what)))) x)
          (λ x. weight_at old x + lines_weight vs (l ∷ ls) x) (λ x. omega arith) h
      weights vs NoMemory h = tt

-- ---- the vectors of the relators

pub relators_length : (rs : List (List Letter)) (vs : List RelatorVector) → AreRelators rs vs → length vs ≡ length rs
relators_length [] [] are = refl
relators_length [] (v ∷ vs) are = absurd are
relators_length (r ∷ rs) [] are = absurd are
relators_length (r ∷ rs) (v ∷ vs) are = omega (arith, relators_length rs vs are.2)

pub relator_at : (rs : List (List Letter)) (vs : List RelatorVector) (i : ℕ) (v : RelatorVector) → AreRelators rs vs → i < length vs → v ≡ get_or vs i v
    → IsWritten (fox (get_or rs i [])) v.vector × (v.image ≡ image (get_or rs i []))
relator_at [] [] i v are lt e = absurd (omega (arith, lt))
relator_at [] (u ∷ vs) i v are lt e = absurd are
relator_at (r ∷ rs) [] i v are lt e = absurd are
relator_at (r ∷ rs) (u ∷ vs) zero v are lt e = subst (λ z. IsWritten (fox r) z.vector × (z.image ≡ image r)) (sym e) (are.0, are.1)
relator_at (r ∷ rs) (u ∷ vs) (suc i) v are lt e = relator_at rs vs i v are.2 (omega (arith, lt)) e

pub relators_more : (rs : List (List Letter)) (vs : List RelatorVector) (r : List Letter) (v : RelatorVector) → AreRelators rs vs
    → IsWritten (fox r) v.vector → v.image ≡ image r → AreRelators (rs ++ r ∷ []) (vs ++ v ∷ [])
relators_more [] [] r v are a b = (a, b, tt)
relators_more [] (u ∷ vs) r v are a b = absurd are
relators_more (q ∷ rs) [] r v are a b = absurd are
relators_more (q ∷ rs) (u ∷ vs) r v are a b = (are.0, are.1, relators_more rs vs r v are.2 a b)
