-- Generator entries as the base of a row.
use Rattle.std.proofs.Common.{◌≡◌, ◌≢◌, ℕ, zero, suc, ◌+◌, ◌*◌, ◌<◌, ◌≤◌, ◌^◌, Bool, true, false, MatchBool, negsuc, ℤ, List, [], ◌∷◌, length}
use Rattle.std.proofs.Common.{Some, refl, sym, arith, subst, inl, inr}
use Rattle.std.proofs.lemmas.List.{length-map}
use Rattle.std.proofs.lemmas.List.Elements.{All-from_recursion, All-contains}
use Rattle.std.proofs.lemmas.Option.{slice_get_within}
use Rattle.std.specs.List.{AllByRecursion}
use Rattle.std.specs.Prelude.{slice_get}
use Rattle.presentation.specs.Presented.{Presented, IsPresented}
use Rattle.presentation.specs.Presented as presented
use Rattle.formal_sums.specs.FormalSum.{FormalSum, scale}
use Rattle.formal_sums.proofs.Shortest.{falling_shortest}
use Rattle.module_vec.specs.declared.TheConstants.{TERMS}
use Rattle.module_vec.specs.declared.places.Place.{Place}
use Rattle.module_vec.specs.declared.places.Term.{Term}
use Rattle.module_vec.specs.Modules.{vector_at}
use Rattle.module_vec.specs.Reducers.{IsEntry}
use Rattle.module_vec.specs.Vectors.{sum_of, IsVector}
use Rattle.module_vec.proofs.Order.{test, order}
use Rattle.vector_text.specs.Over.{VectorIsOver}
use Rattle.fox_calculus.specs.Generators.{binomial, unit_monomial, candidates, IsZero, IsWritten}
use Rattle.fox_calculus.specs.Module.{IsGenerator, IsMember}
use Rattle.fox_calculus.proofs.Listed.{is_candidate, written, candidates_are, origin}
use Rattle.fox_calculus.proofs.Short.{fox_length, nonzero}
use Rattle.basis_entry.specs.Base.{has_negative_lead, AreBase, IsOfGenerator}
use Rattle.basis_entry.specs.Entries.{BasisEntry, IsBasisEntry, AreOf, RecipeIsOver, HasMonomials}
use Rattle.basis_entry.proofs.Generators.{generator_some, generator_member}
use Rattle.basis_entry.proofs.Over.{generator_over, either_over}
use Rattle.basis_entry.proofs.Vectors.{positive_entry, turned_entry, either_member}
use Rattle.basis_log.specs.Rows.{source_of, AreBaseOfSome, IsRow}

-- ---- there is one at least
unit_is_not_zero : IsZero (binomial (unit_monomial 0) 0) → ⊥
unit_is_not_zero z = let e = z (record { m = unit_monomial 0; c = 0 }) in absurd cc

base_is_some : (p : Presented) (es : List BasisEntry) → IsPresented p → AreBase p es → 0 < length es
base_is_some p es known base =
    let unit = binomial (unit_monomial 0) 0 in
    let listed = is_candidate p unit (IsGenerator.unit_binomial 0 0 known.some_name known.some_name) in
    elim (written (candidates p) base.gens base.generators unit listed) [
      | inl z ↦ absurd (unit_is_not_zero z)
      | inr w ↦ (let lt = w.below in omega (arith, lt, base.count))
    ]

-- ---- each is an entry
short_generator : (p : Presented) (f : FormalSum Place) → IsPresented p → IsGenerator p f → length f ≤ TERMS
short_generator p _ known (IsGenerator.relator_vector r listed) =
    let all = All-from_recursion (presented.IsWritten (length p.names)) p.relators known.relators in
    let short = (All-contains (presented.IsWritten (length p.names)) p.relators r all listed).1 in
    omega (arith, short, fox_length [] r)
short_generator p _ known (IsGenerator.relator_binomial r c listed lt) = omega arith
short_generator p _ known (IsGenerator.unit_binomial g c gt lt) = omega arith
short_generator p _ known (IsGenerator.modulus_vector c some lt) = omega arith

is_vector : (p : Presented) (f : FormalSum Place) (g : List Term) → IsPresented p → IsGenerator p f → IsWritten f g → IsVector g
is_vector p f g known made is =
    let le = falling_shortest test order (sum_of g) f is.sparse.falling (nonzero g is.sparse.terms) is.same in
    let l : length (sum_of g) ≡ length g = length-map {B = ℤ × Place} g (λ t. (t.k, t.at)) in
    record { sparse = is.sparse; most = omega (arith, le, l, short_generator p f known made) }

entry_by : (b : Bool) (g v : List Term) → IsVector g → g ≢ [] → has_negative_lead g ≡ b
    → MatchBool b (sum_of v ≡ scale (negsuc 0) (sum_of g)) (v ≡ g) → IsEntry v
entry_by true g v is some sign same = turned_entry g v is some sign same
entry_by false g v is some sign same = subst IsEntry (sym same) (positive_entry g is some sign)

entry_of : (p : Presented) (i : ℕ) (g : List Term) (e : BasisEntry) → IsOfGenerator p i g e → IsVector g → g ≢ [] → IsMember p (sum_of g)
    → VectorIsOver (length p.names) g → IsBasisEntry e
entry_of p i g e h is some member over =
    let b = has_negative_lead g in
    let here : Presented → Type 0 = λ q. IsMember q (sum_of e.vector) × VectorIsOver (length q.names) e.vector × RecipeIsOver (length q.names) e.recipe in
    let recipe : RecipeIsOver (length p.names) e.recipe = subst (RecipeIsOver (length p.names)) (sym h.recipe) tt in
    let all = subst here (sym h.source) (either_member p b g e.vector h.vector member, either_over (length p.names) b g e.vector h.vector over, recipe) in
    record {
      entry = entry_by b g e.vector is some refl h.vector;
      member = all.0;
      over = all.1;
      recipe = all.2;
      monomials = subst HasMonomials (sym h.recipe) tt;
    }

all_by : {X : Type 0} (P : X → Type 0) (xs : List X) → ((i : ℕ) (x : X) → slice_get xs i ≡ Some x → P x) → AllByRecursion P xs
all_by P [] h = tt
all_by P (x ∷ xs) h = (h zero x refl, all_by P xs (λ i y at. h (suc i) y at))

base_entries : (p : Presented) (es : List BasisEntry) → IsPresented p → AreBase p es → AllByRecursion IsBasisEntry es
base_entries p es known base = all_by IsBasisEntry es (λ i e at.
    let lt : i < length base.gens = omega (arith, slice_get_within es i e at, base.count) in
    let g = vector_at base.gens i in
    let o = origin (IsGenerator p) (candidates p) base.gens base.generators (candidates_are p) i lt in
    entry_of p i g e (base.each i e at) (is_vector p o.from g known o.has o.is) (generator_some p base.gens base.generators i lt)
    (generator_member p base.gens base.generators i lt) (generator_over p base.gens known base.generators i lt))

-- ---- rows
base_source : (p : Presented) (es : List BasisEntry) → 0 < length es → AreOf p es → p ≡ source_of es
base_source p [] some of = absurd (omega (arith, some))
base_source p (e ∷ es) some of = sym of.0

-- the base of a row, with so many cells and a directory that is long enough
pub row_of : (es : List BasisEntry) (cells : ℕ) (directory : List ℕ) → AreBaseOfSome es → length es + cells < 2 ^ 32
    → cells ≤ 256 * length directory → IsRow (record { base = es; cells = cells; directory = directory })
row_of es cells directory some few enough =
    let p = some.source in
    let of = all_by (λ e. e.source ≡ p) es (λ i e at. (some.base.each i e at).source) in
    let more = base_is_some p es some.presented some.base in
    let is = base_source p es more of in
    record {
      base = subst (λ q. AreBase q es) is some.base;
      some = more;
      source = subst (λ q. AreOf q es) is of;
      entries = base_entries p es some.presented some.base;
      few = few;
      directory = enough;
    }
