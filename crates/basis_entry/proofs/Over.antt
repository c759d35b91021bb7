-- Entries are over the generators of their presentation.
use Rattle.std.proofs.Common.{◌≡◌, ℕ, zero, suc, ◌+◌, ◌*◌, ◌<◌, true, false, Bool, MatchBool, ℤ, negsuc, ◌*ℤ◌, List, [], ◌∷◌, ◌++◌, length, Contains, sym}
use Rattle.std.proofs.Common.{subst, arith}
use Rattle.std.proofs.lemmas.List.Elements.{All-from_recursion, All-contains}
use Rattle.std.specs.List.{AllByRecursion}
use Rattle.free_words.specs.declared.letter.Letter.{Letter}
use Rattle.free_words.specs.Words.{IsOver}
use Rattle.presentation.specs.Presented.{Presented, IsPresented, IsWritten}
use Rattle.formal_sums.specs.FormalSum.{FormalSum, scale}
use Rattle.laurent_terms.specs.Monomials.{variable}
use Rattle.module_vec.specs.declared.places.Place.{Place}
use Rattle.module_vec.specs.declared.places.Term.{Term}
use Rattle.module_vec.specs.declared.steps.Step.{Step}
use Rattle.module_vec.specs.Modules.{vector_at, sum_of_steps, steps_at}
use Rattle.module_vec.specs.Reducers.{IsEntry}
use Rattle.module_vec.specs.Results.{Has}
use Rattle.module_vec.specs.Vectors.{sum_of, multiple}
use Rattle.vector_text.specs.Over.{MonoIsOver, PlaceIsOver, VectorIsOver}
use Rattle.vector_text.proofs.Over.{one_over, variable_over, product_over, sum_over}
use Rattle.fox_calculus.specs.Fox.{image}
use Rattle.fox_calculus.specs.Generators.{binomial, unit_monomial, candidates, AreGenerators}
use Rattle.fox_calculus.specs.Module.{IsGenerator}
use Rattle.fox_calculus.proofs.Listed.{candidates_are, Origin, origin}
use Rattle.fox_calculus.proofs.Over.{image_over, fox_over}
use Rattle.basis_entry.specs.Entries.{BasisEntry, IsBasisEntry, AreOf, MonosAreOver, vectors_of}

abbrev pub SumIsOver : ℕ → FormalSum Place → Type 0
SumIsOver n f = AllByRecursion (λ t. PlaceIsOver n t.1) f

all_append : {X : Type 0} (P : X → Type 0) (xs ys : List X) → AllByRecursion P xs → AllByRecursion P ys → AllByRecursion P (xs ++ ys)
all_append P [] ys a b = b
all_append P (x ∷ xs) ys a b = (a.0, all_append P xs ys a.1 b)

-- ---- generators
relator_over : (p : Presented) (r : List Letter) → IsPresented p → Contains p.relators r → IsOver (length p.names) r
relator_over p r known listed = (All-contains (IsWritten (length p.names)) p.relators r
    (All-from_recursion (IsWritten (length p.names)) p.relators known.relators) listed).0

binomial_over : (n : ℕ) (m : List ℕ) (c : ℕ) → MonoIsOver n m → c < n → SumIsOver n (binomial m c)
binomial_over n m c over lt = (record { mono = over; component = lt }, (record { mono = one_over n; component = lt }, tt))

unit_over : (n g : ℕ) → g < n → MonoIsOver n (unit_monomial g)
unit_over n g lt = product_over n (variable (2 * g)) (variable (2 * g + 1)) (variable_over n (2 * g) (omega (arith, lt)))
    (variable_over n (2 * g + 1) (omega (arith, lt)))

made_over : (p : Presented) (f : FormalSum Place) → IsPresented p → IsGenerator p f → SumIsOver (length p.names) f
made_over p _ known (IsGenerator.relator_vector r listed) = fox_over (length p.names) [] r tt (relator_over p r known listed)
made_over p _ known (IsGenerator.relator_binomial r c listed lt) =
    binomial_over (length p.names) (image r) c (image_over (length p.names) r (relator_over p r known listed)) lt
made_over p _ known (IsGenerator.unit_binomial g c lg lc) = binomial_over (length p.names) (unit_monomial g) c (unit_over (length p.names) g lg) lc
made_over p _ known (IsGenerator.modulus_vector c some lt) = (record { mono = one_over (length p.names); component = lt }, tt)

pub generator_over : (p : Presented) (gens : List (List Term)) → IsPresented p → AreGenerators p gens → (i : ℕ) → i < length gens
    → VectorIsOver (length p.names) (vector_at gens i)
generator_over p gens known are i lt =
    let o : Origin (IsGenerator p) (vector_at gens i) = origin (IsGenerator p) (candidates p) gens are (candidates_are p) i lt in
    sum_over (length p.names) o.from (vector_at gens i) o.is.sparse o.is.same (made_over p o.from known o.has)

-- ---- signs
abbrev same_pair : ℤ → Place → ℤ → Place → Type 0
same_pair a p b q = Path (ℤ × Place) (a, p) (b, q)

scaled_over : (n : ℕ) (v w : List Term) → sum_of w ≡ scale (negsuc 0) (sum_of v) → VectorIsOver n v → VectorIsOver n w
scaled_over n [] [] e over = tt
scaled_over n [] (t ∷ w) e over = absurd cc
scaled_over n (t ∷ v) [] e over = absurd cc
scaled_over n (t ∷ v) (u ∷ w) e over =
    let whole : (u.k, u.at) ∷ sum_of w ≡ (negsuc 0 *ℤ t.k, t.at) ∷ scale (negsuc 0) (sum_of v) = e in
    let first : same_pair u.k u.at (negsuc 0 *ℤ t.k) t.at = cc in
    let same : u.at ≡ t.at = λ i. (first i).1 in
    let rest : sum_of w ≡ scale (negsuc 0) (sum_of v) = cc in
    (subst (PlaceIsOver n) (sym same) over.0, scaled_over n v w rest over.1)

pub either_over : (n : ℕ) (b : Bool) (v w : List Term) → MatchBool b (sum_of w ≡ scale (negsuc 0) (sum_of v)) (w ≡ v) → VectorIsOver n v → VectorIsOver n w
either_over n true v w e over = scaled_over n v w e over
either_over n false v w e over = subst (VectorIsOver n) (sym e) over

-- ---- sums of steps
pub multiple_over : (n : ℕ) (q : ℤ) (t : List ℕ) (g : List Term) → MonoIsOver n t → VectorIsOver n g → SumIsOver n (multiple q t g)
multiple_over n q t [] h over = tt
multiple_over n q t (u ∷ g) h over = (record { mono = product_over n t u.at.m h over.0.mono; component = over.0.component }, multiple_over n q t g h over.1)

pub vector_over : (n : ℕ) (b : List (List Term)) (i : ℕ) → AllByRecursion (VectorIsOver n) b → VectorIsOver n (vector_at b i)
vector_over n [] i over = tt
vector_over n (v ∷ b) zero over = over.0
vector_over n (v ∷ b) (suc i) over = vector_over n b i over.1

pub steps_sum_over : (n : ℕ) (b : List (List Term)) (ss : List Step) → AllByRecursion (VectorIsOver n) b → MonosAreOver n ss → SumIsOver n (sum_of_steps b ss)
steps_sum_over n b [] over monos = tt
steps_sum_over n b (s ∷ ss) over monos =
    all_append (λ t. PlaceIsOver n t.1) (multiple s.q s.t (vector_at b s.by)) (sum_of_steps b ss)
    (multiple_over n s.q s.t (vector_at b s.by) monos.0 (vector_over n b s.by over)) (steps_sum_over n b ss over monos.1)

pub entries_over : (p : Presented) (es : List BasisEntry) → AllByRecursion IsBasisEntry es → AreOf p es
    → AllByRecursion (VectorIsOver (length p.names)) (vectors_of es)
entries_over p [] all of = tt
entries_over p (e ∷ es) all of = (subst (λ (q : Presented). VectorIsOver (length q.names) e.vector) of.0 all.0.over, entries_over p es all.1 of.1)

-- a vector that is a sum of steps over entries
pub value_over : (p : Presented) (es : List BasisEntry) (b : List (List Term)) (ss : List Step) (v : List Term) → b ≡ vectors_of es
    → AllByRecursion IsBasisEntry es → AreOf p es
    → MonosAreOver (length p.names) ss → IsEntry v → Has v (steps_at b ss) → VectorIsOver (length p.names) v
value_over p es b ss v are all of monos entry is =
    let over : AllByRecursion (VectorIsOver (length p.names)) b = subst (AllByRecursion (VectorIsOver (length p.names))) (sym are) (entries_over p es all of) in
    sum_over (length p.names) (sum_of_steps b ss) v entry.vector.sparse is (steps_sum_over (length p.names) b ss over monos)
