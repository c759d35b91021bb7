-- Entries that are what they are made to be.
use Rattle.std.proofs.Common.{◌≡◌, ◌≢◌, ℕ, ◌<◌, ◌≤◌, Bool, true, false, not, if◌then◌else◌, ℤ, pos, negsuc, neg_ℤ}
use Rattle.std.proofs.Common.{◌*ℤ◌, MatchBool, List, [], ◌∷◌, length, map, get_or}
use Rattle.std.proofs.Common.{refl, sym, ap, subst, ◌∙◌, arith}
use borrow.Author.Differences.{ints}
use Rattle.std.specs.Prelude.{◌<ℤ◌, Some}
use Rattle.std.specs.List.{AllByRecursion, slice_get}
use Rattle.std.specs.Option.{option_map}
use Rattle.std.proofs.lemmas.Option.{slice_get-map, slice_get_read}
use Rattle.formal_sums.specs.FormalSum.{scale}
use Rattle.presentation.specs.Presented.{Presented}
use Rattle.module_vec.specs.declared.places.Place.{Place}
use Rattle.module_vec.specs.declared.places.Term.{Term}
use Rattle.module_vec.specs.declared.steps.Step.{Step}
use Rattle.module_vec.specs.Modules.{vector_at, AreSteps, steps_at}
use Rattle.module_vec.specs.Reducers.{IsEntry}
use Rattle.module_vec.specs.Vectors.{coefficient_at, sum_of, InRange, IsVector}
use Rattle.step_lists.specs.declared.way.Way.TheVariants.{Add}
use Rattle.step_lists.specs.Sums.{zero_vector, IsInReach, IsValue}
use Rattle.step_lists.proofs.AddingUp.{values_are_sums}
use Rattle.step_text.specs.Over.{AreStepsOf, StepsAreOver}
use Rattle.fox_calculus.specs.Generators.{AreGenerators}
use Rattle.cert_checker.specs.States.{AreNear}
use Rattle.cert_checker.specs.Checking.{AreThere, StepsLead, signed}
use Rattle.cert_checker.proofs.Signs.{negative}
use Rattle.report_lines.specs.declared.lines.Made.TheVariants as made
use Rattle.report_lines.specs.Lines.{MadeIsOver}
use Rattle.vector_text.specs.Over.{VectorIsOver}
use Rattle.basis_entry.specs.declared.recipes.Recipe.{Recipe}
use Rattle.basis_entry.specs.declared.recipes.Recipe.TheVariants.{Gen, Sum}
use Rattle.basis_entry.specs.Base.{IsOfGenerator, AreBase}
use Rattle.basis_entry.specs.Entries.{BasisEntry, IsBasisEntry, MonosAreOver, vectors_of}
use Rattle.report_text.specs.Histories.{made_by}
use Rattle.report_acceptance.proofs.Generating.{one_generating}
use Rattle.saved_basis.specs.Readers.{ReadSoFar, IsNextEntry}
use Rattle.saved_basis.proofs.Ranges.{generator_over}

-- ---- signs

abbrev pub Turned : Bool → List Term → List Term → Type 0
Turned negated g v = MatchBool negated (sum_of v ≡ scale (negsuc 0) (sum_of g)) (v ≡ g)

twice : (z : ℤ) → neg_ℤ (neg_ℤ z) ≡ z
twice z = omega (arith, ints)

-- the generator with the sign that is wanted, where its entry has the sign m
pub wanted_is : (m n : Bool) (g v w : List Term) → Turned m g v → Turned (if m then not n else n) v w → (x : Place) → coefficient_at w x ≡ signed n g x
wanted_is false false g v w h k x = ap (λ u. coefficient_at u x) (k ∙ h)
wanted_is false true g v w h k x = negative v w k x ∙ ap (λ u. neg_ℤ (coefficient_at u x)) h
wanted_is true true g v w h k x = ap (λ u. coefficient_at u x) k ∙ negative g v h x
wanted_is true false g v w h k x = negative v w k x ∙ ap neg_ℤ (negative g v h x) ∙ twice (coefficient_at g x)

abbrev same_pair : ℤ → Place → ℤ → Place → Type 0
same_pair a p b q = Path (ℤ × Place) (a, p) (b, q)

-- a vector and its negative don't both have positive leads
never_both : (v w : List Term) → IsEntry v → IsEntry w → sum_of w ≡ scale (negsuc 0) (sum_of v) → ⊥
never_both v w one two turned =
    let e : Term = one.lead in
    let f : Term = two.lead in
    let whole : (f.k, f.at) ∷ sum_of two.others ≡ (negsuc 0 *ℤ e.k, e.at) ∷ scale (negsuc 0) (sum_of one.others) =
    sym (ap sum_of two.is) ∙ turned ∙ ap (λ u. scale (negsuc 0) (sum_of u)) one.is in
    let first : same_pair (f.k) (f.at) (negsuc 0 *ℤ e.k) (e.at) = cc in
    let own : f.k ≡ negsuc 0 *ℤ e.k = λ i. (first i).0 in
    let low : pos 0 <ℤ e.k = one.positive in
    let high : pos 0 <ℤ f.k = two.positive in
    omega (arith, ints, own, low, high)

-- the vector that is wanted has a positive lead: then the sign is that of the entry
pub agreed : (m n : Bool) (v w u : List Term) → Turned (if m then not n else n) v w → w ≡ u → IsEntry v → IsEntry u → (u ≡ v) × (m ≡ n)
agreed false false v w u k e one two = (sym e ∙ k, refl)
agreed true true v w u k e one two = (sym e ∙ k, refl)
agreed false true v w u k e one two = absurd (never_both v w one (subst IsEntry (sym e) two) k)
agreed true false v w u k e one two = absurd (never_both v w one (subst IsEntry (sym e) two) k)

-- ---- the entry of a generator

pub next_generator : (r : ReadSoFar) (gens : List (List Term)) (negated : Bool) (v : List Term) (e : BasisEntry)
    → length r.entries < length gens → IsOfGenerator r.source (length r.entries) (vector_at gens (length r.entries)) e → IsBasisEntry e
    → (v ≡ e.vector) × (e.recipe ≡ Gen (length r.entries) negated) → IsNextEntry r gens (made.Gen negated) v e
next_generator r gens negated v e turn of known is = record {
  source = of.source;
  vector = sym is.0;
  recipe = ap made_by is.1;
  entry = known;
  over = generator_over r.source (length r.entries) (vector_at gens (length r.entries)) e known of;
  begins = λ lt. of;
  later = λ le. absurd (omega (arith, turn, le));
}

-- the item of a list that is read by its number
pub read_map : {X Y : Type 0} (f : X → Y) (xs : List X) (i : ℕ) (x : X) → i < length xs → x ≡ get_or xs i x → slice_get (map f xs) i ≡ Some (f x)
read_map f xs i x lt is = slice_get-map f xs i ∙ ap (option_map f) (slice_get_read xs (length xs) i x refl lt is)

-- the entry number k of the generators, by any list of them
pub of_generator : (p : Presented) (base : List BasisEntry) (are : AreBase p base) (gens : List (List Term)) → AreGenerators p gens → (k : ℕ) (e : BasisEntry)
    → slice_get base k ≡ Some e → IsOfGenerator p k (vector_at gens k) e
of_generator p base are gens other k e at =
    subst (λ g. IsOfGenerator p k (vector_at g k) e) (one_generating p are.gens gens are.generators other) (are.each k e at)

pub same_count : (p : Presented) (base : List BasisEntry) (are : AreBase p base) (gens : List (List Term)) → AreGenerators p gens → length base ≡ length gens
same_count p base are gens other = are.count ∙ ap length (one_generating p are.gens gens are.generators other)

-- ---- the sum of steps

pub ranges : (n : ℕ) (ss : List Step) → AreStepsOf n ss → AllByRecursion (λ s. InRange s.q) ss
ranges n [] h = tt
ranges n (s ∷ ss) h = (h.0.range, ranges n ss h.1)

factors : (n : ℕ) (ss : List Step) → AreStepsOf n ss → AllByRecursion (λ s. s.q ≢ pos 0) ss
factors n [] h = tt
factors n (s ∷ ss) h = (h.0.nonzero, factors n ss h.1)

pub monos : (n : ℕ) (ss : List Step) → AreStepsOf n ss → MonosAreOver n ss
monos n [] h = tt
monos n (s ∷ ss) h = (h.0.mono.over, monos n ss h.1)

written : (n : ℕ) (ss : List Step) → AreStepsOf n ss → StepsAreOver n ss
written n [] h = tt
written n (s ∷ ss) h = (record { nonzero = h.0.nonzero; range = h.0.range; mono = h.0.mono.over }, written n ss h.1)

reach : (b : List (List Term)) (ss : List Step) → AreNear b ss → AreThere b ss → AllByRecursion (IsInReach b) ss
reach b [] near there = tt
reach b (s ∷ ss) near there = (record { number = there.0; room = near.0 there.0 }, reach b ss near.1 there.1)

pub steps_are : (n : ℕ) (b : List (List Term)) (ss : List Step) → AreStepsOf n ss → AreThere b ss → AreSteps b ss
steps_are n b [] over there = tt
steps_are n b (s ∷ ss) over there = ((over.0.mono.mono.variables, there.0), steps_are n b ss over.1 there.1)

module _ (n : ℕ) (b : List (List Term)) (ss : List Step) (v : List Term) (over : AreStepsOf n ss) (near : AreNear b ss) (is : IsVector v)
    (leads : StepsLead Add b zero_vector ss (coefficient_at v)) where
  pub value : IsValue b ss v
  value = record { vector = is; nonzero = factors n ss over; reach = reach b ss near leads.0; adds = leads.1 }

  pub adds_up : (x : Place) → coefficient_at v x ≡ steps_at b ss x
  adds_up x = values_are_sums b v ss value x

pub next_sum : (r : ReadSoFar) (gens : List (List Term)) (ss : List Step) (v : List Term) (e : BasisEntry) → length gens ≤ length r.entries
    → AreStepsOf (length r.source.names) ss → IsValue (vectors_of r.entries) ss v → IsBasisEntry e
    → e ≡ record { source = r.source; vector = v; recipe = Sum ss } → IsNextEntry r gens (made.Sum ss) v e
next_sum r gens ss v e turn over value known is =
    let source : e.source ≡ r.source = ap (λ (x : BasisEntry). x.source) is in
    let vector : e.vector ≡ v = ap (λ (x : BasisEntry). x.vector) is in
    let recipe : e.recipe ≡ Sum ss = ap (λ (x : BasisEntry). x.recipe) is in
    record {
      source = source;
      vector = vector;
      recipe = ap made_by recipe;
      entry = known;
      over = record {
        vector = subst (λ (q : Presented). VectorIsOver (length q.names) e.vector) source known.over;
        recipe = subst (λ (x : Recipe). MadeIsOver (length r.source.names) (made_by x)) (sym recipe) (written (length r.source.names) ss over);
      };
      begins = λ lt. absurd (omega (arith, lt, turn));
      later = λ le. record { steps = ss; recipe = recipe; value = subst (IsValue (vectors_of r.entries) ss) (sym vector) value };
    }

pub turned_then : (r m n t : Bool) → r ≡ m → r ≡ true → t ≡ not n → t ≡ (if m then not n else n)
turned_then r true n t e on is = is
turned_then r false n t e on is = absurd cc

pub turned_else : (r m n t : Bool) → r ≡ m → r ≡ false → t ≡ n → t ≡ (if m then not n else n)
turned_else r true n t e off is = absurd cc
turned_else r false n t e off is = is
