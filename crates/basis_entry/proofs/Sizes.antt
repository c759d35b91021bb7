-- How many terms the entries of the generators have.
use Rattle.std.proofs.Common.{◌≡◌, ℕ, suc, ◌*◌, ◌≤◌, ◌==◌, Bool, true, false, if◌then◌else◌, MatchBool, negsuc, ℤ, ◌*ℤ◌, ◌≢◌, refl, List, [], ◌∷◌, ◌++◌, length}
use Rattle.std.proofs.Common.{map, sum_by, sym, ap, ◌∙◌, arith}
use Rattle.std.proofs.lemmas.List.{length-map}
use Rattle.std.proofs.lemmas.List.FromFn.{length-range_with_len}
use Rattle.std.proofs.lemmas.List.Sums.{sum_by-cons, sum_by-append}
use Rattle.std.specs.List.{AllByRecursion, flat_map}
use Rattle.std.specs.Prelude.{Some, slice_get}
use Rattle.free_words.specs.declared.letter.Letter.{Letter}
use Rattle.free_words.specs.declared.TheConstants.{WRITTEN}
use Rattle.presentation.specs.Presented.{Presented, IsPresented}
use Rattle.presentation.specs.Presented as presented
use Rattle.formal_sums.specs.FormalSum.{FormalSum, scale}
use Rattle.formal_sums.proofs.Shortest.{falling_shortest}
use Rattle.module_vec.specs.declared.places.Place.{Place}
use Rattle.module_vec.specs.declared.places.Term.{Term}
use Rattle.module_vec.specs.Modules.{vector_at}
use Rattle.module_vec.specs.Vectors.{sum_of}
use Rattle.module_vec.proofs.Order.{test, order}
use Rattle.fox_calculus.specs.Fox.{fox, image}
use Rattle.fox_calculus.specs.Generators.{binomial, unit_monomial, constant, components, relator_vectors, relator_binomials, unit_binomials, modulus_vectors}
use Rattle.fox_calculus.specs.Generators.{candidates, IsZero, IsWritten, AreWritten}
use Rattle.fox_calculus.proofs.Short.{fox_length, nonzero}
use Rattle.basis_entry.specs.declared.TheConstants.{BASE_TERMS}
use Rattle.basis_entry.specs.Base.{has_negative_lead, IsOfGenerator, AreBase}
use Rattle.basis_entry.specs.Entries.{BasisEntry}

abbrev pub terms_in : List BasisEntry → ℕ
terms_in es = sum_by (λ (e : BasisEntry). length e.vector) es

abbrev size : List (List Term) → ℕ
size gs = sum_by (λ (g : List Term). length g) gs

abbrev sums_size : List (FormalSum Place) → ℕ
sums_size fs = sum_by (λ (f : FormalSum Place). length f) fs

sum_length : (v : List Term) → length (sum_of v) ≡ length v
sum_length v = length-map {B = ℤ × Place} v (λ t. (t.k, t.at))

-- ---- a vector has no more terms than a sum that it is
shortest : (f : FormalSum Place) (g : List Term) → IsWritten f g → length g ≤ length f
shortest f g is =
    let le = falling_shortest test order (sum_of g) f is.sparse.falling (nonzero g is.sparse.terms) is.same in
    let l = sum_length g in
    omega (arith, le, l)

written_size : (fs : List (FormalSum Place)) (gs : List (List Term)) → AreWritten fs gs → size gs ≤ sums_size fs
written_size _ _ AreWritten.nothing = omega arith
written_size _ _ (AreWritten.left_out f fs gs z h) =
    let c = sum_by-cons (λ (f : FormalSum Place). length f) f fs in
    omega (arith, written_size fs gs h, c)
written_size _ _ (AreWritten.written f g fs gs n w h) =
    let c = sum_by-cons (λ (f : FormalSum Place). length f) f fs in
    let d = sum_by-cons (λ (g : List Term). length g) g gs in
    omega (arith, written_size fs gs h, c, d, shortest f g w)

-- ---- how many terms the sums have together
size-words : (ws : List (List Letter)) → AllByRecursion (λ w. length w ≤ WRITTEN) ws → sums_size (map fox ws) ≤ 16384 * length ws
size-words [] h = omega arith
size-words (w ∷ ws) h =
    let c = sum_by-cons (λ (f : FormalSum Place). length f) (fox w) (map fox ws) in
    let l = fox_length [] w in
    let r = size-words ws h.1 in
    omega (arith, c, l, r, h.0)

module _ {X : Type 0} where
  -- so many sums with two terms each, or with one
  size-twos : (f : X → FormalSum Place) (xs : List X) → ((x : X) → length (f x) ≤ 2) → sums_size (map f xs) ≤ 2 * length xs
  size-twos f [] h = omega arith
  size-twos f (x ∷ xs) h =
      let c = sum_by-cons (λ (f : FormalSum Place). length f) (f x) (map f xs) in
      let r = size-twos f xs h in
      omega (arith, c, r, h x)

  size-ones : (f : X → FormalSum Place) (xs : List X) → ((x : X) → length (f x) ≤ 1) → sums_size (map f xs) ≤ length xs
  size-ones f [] h = omega arith
  size-ones f (x ∷ xs) h =
      let c = sum_by-cons (λ (f : FormalSum Place). length f) (f x) (map f xs) in
      let r = size-ones f xs h in
      omega (arith, c, r, h x)

  -- so many lists of sums, of 24 pairs of terms each
  size-pieces : (f : X → List (FormalSum Place)) (xs : List X) → ((x : X) → sums_size (f x) ≤ 48) → sums_size (flat_map f xs) ≤ 48 * length xs
  size-pieces f [] h = omega arith
  size-pieces f (x ∷ xs) h =
      let c = sum_by-append (λ (f : FormalSum Place). length f) (f x) (flat_map f xs) in
      let r = size-pieces f xs h in
      omega (arith, c, r, h x)

length-components : (p : Presented) → length (components p) ≡ length p.names
length-components p = length-range_with_len 0 (length p.names)

size-binomials : (p : Presented) (m : List ℕ) → IsPresented p → sums_size (map (binomial m) (components p)) ≤ 48
size-binomials p m h =
    let s = size-twos (binomial m) (components p) (λ c. omega arith) in
    omega (arith, s, length-components p, h.few_names)

size-modulus : (p : Presented) → IsPresented p → (b : Bool) → sums_size (if b then [] else map (constant p.modulus) (components p)) ≤ 24
size-modulus p h true = omega arith
size-modulus p h false =
    let s = size-ones (constant p.modulus) (components p) (λ c. omega arith) in
    omega (arith, s, length-components p, h.few_names)

written_words : (n : ℕ) (ws : List (List Letter)) → AllByRecursion (presented.IsWritten n) ws → AllByRecursion (λ w. length w ≤ WRITTEN) ws
written_words n [] h = tt
written_words n (w ∷ ws) h = (h.0.1, written_words n ws h.1)

size-candidates : (p : Presented) → IsPresented p → sums_size (candidates p) ≤ BASE_TERMS
size-candidates p h =
    let a = size-words p.relators (written_words (length p.names) p.relators h.relators) in
    let b = size-pieces (λ (r : List Letter). map (binomial (image r)) (components p)) p.relators (λ r. size-binomials p (image r) h) in
    let c = size-pieces (λ (g : ℕ). map (binomial (unit_monomial g)) (components p)) (components p) (λ g. size-binomials p (unit_monomial g) h) in
    let d = size-modulus p h (p.modulus == 0) in
    let n = length-components p in
    let long : FormalSum Place → ℕ = λ f. length f in
    omega (
      arith,
      a,
      b,
      c,
      d,
      n,
      h.few_names,
      h.few_relators,
      sum_by-append long (relator_vectors p) (relator_binomials p ++ (unit_binomials p ++ modulus_vectors p)),
      sum_by-append long (relator_binomials p) (unit_binomials p ++ modulus_vectors p),
      sum_by-append long (unit_binomials p) (modulus_vectors p),
    )

-- ---- the entries have as many terms as the generators
scaled_size : (v w : List Term) → sum_of v ≡ scale (negsuc 0) (sum_of w) → length v ≡ length w
scaled_size v w e =
    let s = length-map {B = ℤ × Place} (sum_of w) (λ t. (negsuc 0 *ℤ t.0, t.1)) in
    let l : length (sum_of v) ≡ length (scale (negsuc 0) (sum_of w)) = ap (λ (f : FormalSum Place). length f) e in
    omega (arith, sum_length v, sum_length w, s, l)

entry_size : (b : Bool) (v w : List Term) → MatchBool b (sum_of v ≡ scale (negsuc 0) (sum_of w)) (v ≡ w) → length v ≡ length w
entry_size true v w e = scaled_size v w e
entry_size false v w e = ap (λ (u : List Term). length u) e

same_size : (es : List BasisEntry) (gens : List (List Term)) → length es ≡ length gens
    → ((i : ℕ) (e : BasisEntry) → slice_get es i ≡ Some e → length e.vector ≡ length (vector_at gens i)) → terms_in es ≡ size gens
same_size [] [] long each = refl
same_size [] (g ∷ gens) long each = absurd (omega (arith, long))
same_size (e ∷ es) [] long each = absurd (omega (arith, long))
same_size (e ∷ es) (g ∷ gens) long each =
    let c = sum_by-cons (λ (e : BasisEntry). length e.vector) e es in
    let d = sum_by-cons (λ (g : List Term). length g) g gens in
    let r = same_size es gens (omega (arith, long)) (λ i f read. each (suc i) f read) in
    omega (arith, c, d, r, each 0 e refl)

base_size : (p : Presented) (es : List BasisEntry) (base : AreBase p es) → terms_in es ≡ size base.gens
base_size p es base = same_size es base.gens base.count (λ i e read. let is : IsOfGenerator p i (vector_at base.gens i) e = base.each i e read
    in entry_size (has_negative_lead (vector_at base.gens i)) e.vector (vector_at base.gens i) is.vector)

pub few_terms : (p : Presented) (es : List BasisEntry) → IsPresented p → AreBase p es → sum_by (λ (e : BasisEntry). length e.vector) es ≤ BASE_TERMS
few_terms p es h base = omega (arith, base_size p es base, written_size (candidates p) base.gens base.generators, size-candidates p h)

-- ---- all lists of these entries are alike
not_zero : (f : FormalSum Place) (g : List Term) → g ≢ [] → IsWritten f g → IsZero f → ⊥
not_zero f [] some is none = some refl
not_zero f (t ∷ g) some is none =
    let le = falling_shortest test order (sum_of (t ∷ g)) [] is.sparse.falling (nonzero (t ∷ g) is.sparse.terms) (λ x. is.same x ∙ none x) in
    omega (arith, le)

shorter : (f : FormalSum Place) (g h : List Term) → IsWritten f g → IsWritten f h → length g ≤ length h
shorter f g h one two =
    let le = falling_shortest test order (sum_of g) (sum_of h) one.sparse.falling (nonzero g one.sparse.terms) (λ x. one.same x ∙ sym (two.same x)) in
    omega (arith, le, sum_length g, sum_length h)

abbrev AreAlike : List (List Term) → List (List Term) → Type 0
AreAlike gs hs = (length gs ≡ length hs) × (size gs ≡ size hs)

alike : (fs : List (FormalSum Place)) (gs hs : List (List Term)) → AreWritten fs gs → AreWritten fs hs → AreAlike gs hs
alike _ _ _ AreWritten.nothing AreWritten.nothing = (refl, refl)
alike _ _ _ (AreWritten.left_out f fs gs z r) (AreWritten.left_out _ _ hs y s) = alike fs gs hs r s
alike _ _ _ (AreWritten.left_out f fs gs z r) (AreWritten.written _ h _ hs n w s) = absurd (not_zero f h n w z)
alike _ _ _ (AreWritten.written f g fs gs n w r) (AreWritten.left_out _ _ hs y s) = absurd (not_zero f g n w y)
alike _ _ _ (AreWritten.written f g fs gs n w r) (AreWritten.written _ h _ hs m v s) =
    let rest = alike fs gs hs r s in
    let c = sum_by-cons (λ (g : List Term). length g) g gs in
    let d = sum_by-cons (λ (g : List Term). length g) h hs in
    let le = shorter f g h w v in
    let ge = shorter f h g v w in
    (omega (arith, rest.0), omega (arith, rest.1, c, d, le, ge))

pub bases_alike : (p : Presented) (es fs : List BasisEntry) → AreBase p es → AreBase p fs
    → (length es ≡ length fs) × (sum_by (λ (e : BasisEntry). length e.vector) es ≡ sum_by (λ (e : BasisEntry). length e.vector) fs)
bases_alike p es fs one two =
    let like = alike (candidates p) one.gens two.gens one.generators two.generators in
    (omega (arith, like.0, one.count, two.count), omega (arith, like.1, base_size p es one, base_size p fs two))
