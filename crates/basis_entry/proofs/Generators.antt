-- The generators of a module: they aren't zero, they lie in it, and there are few of them.
use Rattle.std.proofs.Common.{◌≡◌, ◌≢◌, ℕ, zero, suc, ◌*◌, ◌<◌, ◌≤◌, ◌==◌, Bool, true, false, if◌then◌else◌, ℤ, pos, ◌+ℤ◌, ◌*ℤ◌, List, [], ◌∷◌, ◌++◌, length}
use Rattle.std.proofs.Common.{map, length-append, refl, sym, ap, ◌∙◌, arith}
use borrow.Author.Differences.{ints}
use Rattle.std.proofs.lemmas.List.{length-map}
use Rattle.std.proofs.lemmas.List.FromFn.{length-range_with_len}
use Rattle.std.specs.List.{AllByRecursion, flat_map}
use Rattle.free_words.specs.declared.letter.Letter.{Letter}
use Rattle.presentation.specs.Presented.{Presented, IsPresented}
use Rattle.formal_sums.specs.FormalSum.{FormalSum, coefficient, rename}
use Rattle.formal_sums.proofs.Coefficients.{coefficient-append, coefficient-scale}
use Rattle.laurent_terms.specs.Monomials.{one}
use Rattle.laurent_terms.proofs.Division.{product-one}
use Rattle.module_vec.specs.declared.places.Place.{Place}
use Rattle.module_vec.specs.declared.places.Term.{Term}
use Rattle.module_vec.specs.Modules.{vector_at, InModule}
use Rattle.module_vec.specs.Places.{same_place, moved}
use Rattle.module_vec.specs.Vectors.{sum_of, coefficient_at, multiple, IsTerm}
use Rattle.fox_calculus.specs.Fox.{fox, image}
use Rattle.fox_calculus.specs.Generators.{binomial, unit_monomial, constant, components, relator_vectors, relator_binomials, unit_binomials, modulus_vectors}
use Rattle.fox_calculus.specs.Generators.{candidates, AreWritten, AreGenerators}
use Rattle.fox_calculus.specs.Module.{IsGenerator, IsMember}
use Rattle.fox_calculus.proofs.Listed.{candidates_are, Origin, origin}
use Rattle.fox_calculus.proofs.Members.{listed_member}
use Rattle.basis_entry.specs.declared.TheConstants.{BASE}

-- ---- none is zero
some_written : (fs : List (FormalSum Place)) (gs : List (List Term)) → AreWritten fs gs → (i : ℕ) → i < length gs → vector_at gs i ≢ []
some_written _ _ AreWritten.nothing i lt = absurd (omega (arith, lt))
some_written _ _ (AreWritten.left_out f fs gs z h) i lt = some_written fs gs h i lt
some_written _ _ (AreWritten.written f g fs gs n w h) zero lt = n
some_written _ _ (AreWritten.written f g fs gs n w h) (suc i) lt = some_written fs gs h i (omega (arith, lt))

pub generator_some : (p : Presented) (gens : List (List Term)) → AreGenerators p gens → (i : ℕ) → i < length gens → vector_at gens i ≢ []
generator_some p gens are i lt = some_written (candidates p) gens are i lt

-- ---- each lies in the module
rename_one : (v : List Term) → AllByRecursion IsTerm v → rename (moved one) (sum_of v) ≡ sum_of v
rename_one [] h = refl
rename_one (t ∷ v) h = λ n. (t.k, record { m = product-one t.at.m h.0.place.variables n; c = t.at.c }) ∷ rename_one v h.1 n

pub once : (v : List Term) → AllByRecursion IsTerm v → (x : Place) → coefficient_at v x ≡ coefficient same_place (multiple (pos 1) one v ++ []) x
once v h x =
    let first = coefficient-append same_place (multiple (pos 1) one v) [] x in
    let scaled = coefficient-scale same_place (pos 1) (rename (moved one) (sum_of v)) x in
    let still : coefficient same_place (rename (moved one) (sum_of v)) x ≡ coefficient_at v x = ap (λ w. coefficient same_place w x) (rename_one v h) in
    sym still ∙ just (coefficient same_place (rename (moved one) (sum_of v)) x) ∙ sym scaled
    ∙ alone (coefficient same_place (multiple (pos 1) one v) x) ∙ sym first
  where
    just : (z : ℤ) → z ≡ pos 1 *ℤ z
    just z = omega (arith, ints)

    alone : (z : ℤ) → z ≡ z +ℤ pos 0
    alone z = omega (arith, ints)

pub generator_member : (p : Presented) (gens : List (List Term)) → AreGenerators p gens → (i : ℕ) → i < length gens → IsMember p (sum_of (vector_at gens i))
generator_member p gens are i lt =
    let o : Origin (IsGenerator p) (vector_at gens i) = origin (IsGenerator p) (candidates p) gens are (candidates_are p) i lt in
    let sums : InModule gens (coefficient_at (vector_at gens i)) = record {
      steps = record { q = pos 1; t = one; by = i } ∷ [];
      are = ((refl, lt), tt);
      is = once (vector_at gens i) o.is.sparse.terms;
    } in
    listed_member p gens (sum_of (vector_at gens i)) are sums

-- ---- how many there are
length-written : (fs : List (FormalSum Place)) (gs : List (List Term)) → AreWritten fs gs → length gs ≤ length fs
length-written _ _ AreWritten.nothing = omega arith
length-written _ _ (AreWritten.left_out f fs gs z h) = omega (arith, length-written fs gs h)
length-written _ _ (AreWritten.written f g fs gs n w h) = omega (arith, length-written fs gs h)

-- so many pieces of at most 24 elements each
length-pieces : {X A : Type 0} (f : X → List A) (xs : List X) → ((x : X) → length (f x) ≤ 24) → length (flat_map f xs) ≤ 24 * length xs
length-pieces f [] h = omega arith
length-pieces f (x ∷ xs) h = omega (arith, length-append (f x) (flat_map f xs), h x, length-pieces f xs h)

length-components : (p : Presented) → length (components p) ≡ length p.names
length-components p = length-range_with_len 0 (length p.names)

length-each : (p : Presented) (f : ℕ → FormalSum Place) → IsPresented p → length (map f (components p)) ≤ 24
length-each p f h = omega (arith, length-map (components p) f, length-components p, h.few_names)

length-modulus : (p : Presented) → IsPresented p → (b : Bool) → length (if b then [] else map (constant p.modulus) (components p)) ≤ 24
length-modulus p h true = omega arith
length-modulus p h false = length-each p (constant p.modulus) h

length-candidates : (p : Presented) → IsPresented p → length (candidates p) ≤ BASE
length-candidates p h =
    let a = length-map p.relators fox in
    let b = length-pieces (λ (r : List Letter). map (binomial (image r)) (components p)) p.relators (λ r. length-each p (binomial (image r)) h) in
    let c = length-pieces (λ (g : ℕ). map (binomial (unit_monomial g)) (components p)) (components p) (λ g. length-each p (binomial (unit_monomial g)) h) in
    let d = length-modulus p h (p.modulus == 0) in
    let n = length-components p in
    omega (
      arith,
      a,
      b,
      c,
      d,
      n,
      h.few_names,
      h.few_relators,
      length-append (relator_vectors p) (relator_binomials p ++ (unit_binomials p ++ modulus_vectors p)),
      length-append (relator_binomials p) (unit_binomials p ++ modulus_vectors p),
      length-append (unit_binomials p) (modulus_vectors p),
    )

pub few_generators : (p : Presented) (gens : List (List Term)) → IsPresented p → AreGenerators p gens → length gens ≤ BASE
few_generators p gens h are = omega (arith, length-written (candidates p) gens are, length-candidates p h)
