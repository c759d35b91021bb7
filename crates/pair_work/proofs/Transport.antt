-- What is said of vectors of one list holds in another list that has these vectors under the same numbers.
use Rattle.std.proofs.Common.{ℕ, zero, suc, ◌<◌, ◌≡◌, arith, refl, sym, ap, ◌∙◌, List, [], ◌∷◌, ◌++◌, length, subst, length-append}
use Rattle.std.specs.List.{AllByRecursion}
use Rattle.std.specs.Prelude.{◌+ℤ◌}
use Rattle.outcomes.specs.declared.kinds.PairKind.{PairKind}
use Rattle.outcomes.specs.declared.kinds.PairKind.TheVariants.{S, G}
use Rattle.laurent_terms.specs.Monomials.{quotient}
use Rattle.formal_sums.specs.FormalSum.{FormalSum, coefficient}
use Rattle.module_vec.specs.declared.places.Place.{Place}
use Rattle.module_vec.specs.declared.places.Term.{Term}
use Rattle.module_vec.specs.declared.steps.Step.{Step}
use Rattle.module_vec.specs.Chains.{taken_at}
use Rattle.module_vec.specs.Modules.{vector_at, steps_at, sum_of_steps}
use Rattle.module_vec.specs.Places.{IsBelow, moved, same_place}
use Rattle.module_vec.specs.Results.{Nowhere, HasTerms}
use Rattle.module_vec.specs.Vectors.{Coefficients, coefficient_at, multiple, multiple_at, HasRoom}
use Rattle.step_lists.specs.Sums.{IsWideAt, passed, Adds, IsInReach, IsValue, zero_vector}
use Rattle.step_lists.specs.declared.way.Way.TheVariants.{Add}
use Rattle.strong_pairs.specs.Covering.{Covers, CoversLeads}
use Rattle.strong_pairs.specs.Pairs.{lead_of, lead_at, IsPair, pair_place, meeting_place, AreFactors, ArePairSteps, both_at}
use Rattle.strong_pairs.specs.Tasks.{step_place, step_places, AreStepsAt, AreStepsBelow, IsClosed}

-- c has under this number what b has
abbrev pub Same : List (List Term) → List (List Term) → ℕ → Type 0
Same b c n = (n < length c) × (vector_at c n ≡ vector_at b n)

abbrev pub AllSame : List (List Term) → List (List Term) → List Step → Type 0
AllSame b c ss = AllByRecursion (λ s. Same b c s.by) ss

lead_same : (b c : List (List Term)) (n : ℕ) → Same b c n → lead_at b n ≡ lead_at c n
lead_same b c n h = ap lead_of (sym h.1)

pub place_same : (b c : List (List Term)) (i j : ℕ) → Same b c i → Same b c j → pair_place b i j ≡ pair_place c i j
place_same b c i j h k = λ x. meeting_place (lead_same b c i h x) (lead_same b c j k x)

pub pair_over : (b c : List (List Term)) (i j : ℕ) → Same b c i → Same b c j → IsPair b i j → IsPair c i j
pair_over b c i j h k p = record {
  order = p.order;
  within = k.0;
  component = sym (ap (λ (t : Term). t.at.c) (lead_same b c i h))
      ∙ (p.component ∙ ap (λ (t : Term). t.at.c) (lead_same b c j k));
}

pub pair_steps_over : (kind : PairKind) (b c : List (List Term)) (i j : ℕ) (first second : Step) → Same b c i → Same b c j
    → ArePairSteps kind b i j first second → ArePairSteps kind c i j first second
pair_steps_over kind b c i j first second h k a =
    let e = lead_same b c i h in
    let f = lead_same b c j k in
    let p = place_same b c i j h k in
    record {
      factors = subst (λ (t : Term). AreFactors kind t.k (lead_at c j).k first.q second.q) e
          (subst (λ (t : Term). AreFactors kind (lead_at b i).k t.k first.q second.q) f a.factors);
      first_monomial = a.first_monomial ∙ (λ x. quotient (p x).m (e x).at.m);
      second_monomial = a.second_monomial ∙ (λ x. quotient (p x).m (f x).at.m);
      first_number = a.first_number;
      second_number = a.second_number;
    }

taken_same : (b c : List (List Term)) (s : Step) → Same b c s.by → taken_at b s ≡ taken_at c s
taken_same b c s h = ap (multiple_at s.q s.t) (sym h.1)

pub both_same : (kind : PairKind) (b c : List (List Term)) (i j : ℕ) (first second : Step) → Same b c i → Same b c j → ArePairSteps kind b i j first second
    → (x : Place) → both_at b first second x ≡ both_at c first second x
both_same kind b c i j first second h k a x =
    let one : Same b c first.by = subst (Same b c) (sym a.first_number) h in
    let two : Same b c second.by = subst (Same b c) (sym a.second_number) k in
    λ y. taken_same b c first one y x +ℤ taken_same b c second two y x

sum_same : (b c : List (List Term)) (ss : List Step) → AllSame b c ss → sum_of_steps b ss ≡ sum_of_steps c ss
sum_same b c [] h = refl
sum_same b c (s ∷ ss) h = λ y. multiple s.q s.t (sym h.0.1 y) ++ sum_same b c ss h.1 y

pub steps_same : (b c : List (List Term)) (ss : List Step) → AllSame b c ss → (x : Place) → steps_at b ss x ≡ steps_at c ss x
steps_same b c ss h x = ap (λ (v : FormalSum Place). coefficient same_place v x) (sum_same b c ss h)

step_place_same : (b c : List (List Term)) (s : Step) → Same b c s.by → step_place b s ≡ step_place c s
step_place_same b c s h = ap (λ (t : Term). moved s.t t.at) (lead_same b c s.by h)

pub stand_over : (P : Place → Type 0) (b c : List (List Term)) (ss : List Step) → AllSame b c ss → AreStepsAt P b ss → AreStepsAt P c ss
stand_over P b c [] h a = tt
stand_over P b c (s ∷ ss) h a = ((a.0.0, h.0.0, subst P (step_place_same b c s h.0) a.0.2), stand_over P b c ss h.1 a.1)

pub places_same : (b c : List (List Term)) (ss : List Step) → AllSame b c ss → step_places b ss ≡ step_places c ss
places_same b c [] h = refl
places_same b c (s ∷ ss) h = λ y. (s.q, step_place_same b c s h.0 y) ∷ places_same b c ss h.1 y

pub adds_over : (b c : List (List Term)) (ss : List Step) (f g : Coefficients) → AllSame b c ss → Adds b f ss g → Adds c f ss g
adds_over b c [] f g h a = a
adds_over b c (s ∷ ss) f g h a =
    let t = taken_same b c s h.0 in
    let p : passed Add b f s ≡ passed Add c f s = λ y x. f x +ℤ t y x in (
      record {
        narrow = subst (λ (z : Coefficients). Nowhere (IsWideAt Add f z)) t a.0.narrow;
        count = a.0.count;
        terms = subst (λ (z : Coefficients). HasTerms z a.0.count) p a.0.terms;
        short = a.0.short;
      },
      adds_over b c ss (passed Add c f s) g h.1 (subst (λ (z : Coefficients). Adds b z ss g) p a.1),
    )

reach_over : (b c : List (List Term)) (ss : List Step) → AllSame b c ss → AllByRecursion (IsInReach b) ss → AllByRecursion (IsInReach c) ss
reach_over b c [] h a = tt
reach_over b c (s ∷ ss) h a = (record { number = h.0.0; room = subst (HasRoom s.t) (sym h.0.1) a.0.room }, reach_over b c ss h.1 a.1)

pub value_over : (b c : List (List Term)) (ss : List Step) (v : List Term) → AllSame b c ss → IsValue b ss v → IsValue c ss v
value_over b c ss v h a = record {
  vector = a.vector;
  nonzero = a.nonzero;
  reach = reach_over b c ss h a.reach;
  adds = adds_over b c ss zero_vector (coefficient_at v) h a.adds;
}

pub covers_over : (b c : List (List Term)) (i j k : ℕ) → Same b c i → Same b c j → Same b c k → Covers b i j k → Covers c i j k
covers_over b c i j k h l m a = (
  m.0,
  subst (λ (t : Term). CoversLeads (lead_at c k) t (lead_at c j)) (lead_same b c i h)
      (subst (λ (t : Term). CoversLeads (lead_at c k) (lead_at b i) t) (lead_same b c j l)
      (subst (λ (t : Term). CoversLeads t (lead_at b i) (lead_at b j)) (lead_same b c k m) a.1)),
)

-- ---- lists that have grown

pub same_left : (b more : List (List Term)) (n : ℕ) → n < length b → Same b (b ++ more) n
same_left [] more n h = absurd (omega (arith, h))
same_left (v ∷ b) more zero h = let l = length-append b more in (omega (arith, l), refl)
same_left (v ∷ b) more (suc n) h = let r = same_left b more n (omega (arith, h)) in let w = r.0 in (omega (arith, w), r.1)

pub all_left : (P : Place → Type 0) (b more : List (List Term)) (ss : List Step) → AreStepsAt P b ss → AllSame b (b ++ more) ss
all_left P b more [] a = tt
all_left P b more (s ∷ ss) a = (same_left b more s.by a.0.1, all_left P b more ss a.1)

-- what is truly closed stays so
pub closed_grows : (b more : List (List Term)) (kind : PairKind) (i j : ℕ) → IsPair b i j → IsClosed b kind i j → IsClosed (b ++ more) kind i j
closed_grows b more G i j p (k, cover) =
    let o = p.order in let w = p.within in
    (k, covers_over b (b ++ more) i j k (same_left b more i (omega (arith, o, w))) (same_left b more j w) (same_left b more k cover.0) cover)
closed_grows b more S i j p (first, second, steps, sum) =
    let o = p.order in let w = p.within in
    let c = b ++ more in
    let hi = same_left b more i (omega (arith, o, w)) in
    let hj = same_left b more j w in
    let place = place_same b c i j hi hj in
    let all = all_left (λ x. IsBelow x (pair_place b i j)) b more sum.steps sum.below in (
      first,
      second,
      pair_steps_over S b c i j first second hi hj steps,
      record {
        steps = sum.steps;
        below = subst (λ (p : Place). AreStepsBelow c p sum.steps) place (stand_over (λ x. IsBelow x (pair_place b i j)) b c sum.steps all sum.below);
        is = λ x. sym (both_same S b c i j first second hi hj steps x) ∙ (sum.is x ∙ steps_same b c sum.steps all x);
      },
    )
