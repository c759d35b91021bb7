-- Steps that are made by merging the whole vector with a multiple.
use Rattle.std.proofs.Common.{◌≡◌, ℕ, ◌+◌, ◌<◌, List, [], ◌∷◌, ◌++◌, length, length-append, take, drop, append-nil, refl, sym, ap, ◌∙◌, subst, arith}
use Rattle.std.specs.Prelude.{Some, Err, slice_get}
use Rattle.std.proofs.lemmas.List.{take-append-drop, length-take-le, drop_all}
use Rattle.std.proofs.lemmas.Option.{slice_get_within, get_or_from_slice_get}
use Rattle.module_vec.specs.declared.TheConstants.{STEPS}
use Rattle.module_vec.specs.declared.places.Term.{Term}
use Rattle.module_vec.specs.declared.steps.Step.{Step}
use Rattle.module_vec.specs.declared.faults.Stop.TheVariants.{Deep}
use Rattle.module_vec.specs.declared.faults.VecFault.{VecFault}
use Rattle.module_vec.specs.declared.faults.VecFault.TheVariants as vector
use Rattle.module_vec.specs.Vectors.{Coefficients, coefficient_at, multiple_at, difference_at, IsTerm, IsSparse, IsVector}
use Rattle.module_vec.specs.Results.{DifferenceIsWide, IsMade, Makes}
use Rattle.module_vec.specs.Reducers.{AreEntries}
use Rattle.module_vec.specs.Chains.{ChainStops}
use Rattle.module_vec.proofs.FallingTerms.{Falls, all_back, all_drop, drop_read, falls_back}
use Rattle.module_vec.proofs.Scans.{take_read}
use Rattle.reduce_cofactor.specs.Steps.{IsStepAt, RestsWith}
use Rattle.reduce_cofactor.specs.Running.{Running, HasPassed, fault_at}
use Rattle.reduce_cofactor.specs.Answers.{IsRest, Fails}
use Rattle.reduce_cofactor.proofs.Stepping.{keeps, starts, ends, stops_deep, goes_merged, stops_merged}

pub sparse_drop : (n : ℕ) (v : List Term) → IsSparse v → IsSparse (drop n v)
sparse_drop n v h = record {
  falling = falls_back (take n v) (drop n v) (subst Falls (sym (take-append-drop n v)) h.falling);
  terms = all_drop IsTerm n v h.terms;
}

-- a row in two parts
pub passed_parts : (b : List (List Term)) (v : Coefficients) (ss ss' : List Step) (row rest dividend : List Term) (n : ℕ) → rest ≡ take n row
    → dividend ≡ drop n row → ss' ≡ ss → HasPassed b v ss row n → Running b v ss' rest dividend
passed_parts b v ss ss' row rest dividend n front back same h =
    subst (λ (u : List Step). Running b v u rest dividend) (sym same)
    (subst (λ (u : List Term). Running b v ss u dividend) (sym front)
    (subst (Running b v ss (take n row)) (sym back) h.1))

pub length_parts : (row rest dividend : List Term) (n : ℕ) → rest ≡ take n row → dividend ≡ drop n row → length rest + length dividend ≡ length row
length_parts row rest dividend n front back =
    let whole : length (take n row ++ drop n row) ≡ length row = ap (λ (u : List Term). length u) (take-append-drop n row) in
    omega (arith, ap (λ (u : List Term). length u) front, ap (λ (u : List Term). length u) back, whole, length-append (take n row) (drop n row))

-- before the first step
pub passed_none : (b : List (List Term)) (v row : List Term) (ss : List Step) (n : ℕ) → AreEntries b → IsVector v → row ≡ v → ss ≡ [] → n ≡ 0
    → HasPassed b (coefficient_at v) ss row n
passed_none b v row ss n h k same none zero =
    subst (HasPassed b (coefficient_at v) ss row) (sym zero) (omega arith, starts b v ss [] row h k none refl same)

-- after the last
pub passed_all : (b : List (List Term)) (v : Coefficients) (ss : List Step) (row : List Term) (n : ℕ) → HasPassed b v ss row n → n ≡ length row
    → IsRest b v row ss
passed_all b v ss row n h all =
    let none : drop n row ≡ [] = drop_all n row (omega (arith, all)) in
    let whole : take n row ≡ row = sym (append-nil (take n row)) ∙ ap (λ (u : List Term). take n row ++ u) (sym none) ∙ take-append-drop n row in
    subst (λ (u : List Term). IsRest b v u ss) whole (ends b v ss (take n row) (drop n row) h.1 none)

-- the first term that isn't final
module _ (b : List (List Term)) (v : Coefficients) (ss : List Step) (row : List Term) (n : ℕ) (t : Term) (read : slice_get row n
    ≡ Some t) (h : HasPassed b v ss row n) where
  within : n < length row
  within = slice_get_within row n t read

  left : drop n row ≡ t ∷ drop (n + 1) row
  left = drop_read row n t within (sym (get_or_from_slice_get row n t t read))

  run : Running b v ss (take n row) (t ∷ drop (n + 1) row)
  run = subst (Running b v ss (take n row)) left h.1

  whole : take n row ++ t ∷ drop (n + 1) row ≡ row
  whole = ap (λ (u : List Term). take n row ++ u) (sym left) ∙ take-append-drop n row

  pub first_term : IsTerm t
  first_term = (all_back IsTerm (take n row) (t ∷ drop (n + 1) row) run.sparse.terms).0

  pub passes_one : RestsWith b t → HasPassed b v ss row (n + 1)
  passes_one quiet = (
    omega (arith, within),
    subst (λ (u : List Term). Running b v ss u (drop (n + 1) row)) (sym (take_read row n t read))
        (keeps b v ss (take n row) t (drop (n + 1) row) run quiet),
  )

  -- a step is due there
  module _ (s : Step) (entry : List Term) (due : IsStepAt b t s) (is : slice_get b s.by ≡ Some entry) where
    entry_is : entry ≡ due.lead ∷ due.others
    entry_is = let both : Some entry ≡ Some (due.lead ∷ due.others) = sym is ∙ due.reducer.entry in cc

    over : (P : List Term → List Term → Type 0) → P row entry → P (take n row ++ t ∷ drop (n + 1) row) (due.lead ∷ due.others)
    over P p = subst (P (take n row ++ t ∷ drop (n + 1) row)) entry_is (subst (λ (u : List Term). P u entry) (sym whole) p)

    pub merged_deep : length ss ≡ STEPS → ChainStops b v Deep
    merged_deep = stops_deep b v ss (take n row) t (drop (n + 1) row) s run due

    pub merged_goes : (w : List Term) → length ss < STEPS → IsMade (DifferenceIsWide (coefficient_at row) (multiple_at s.q s.t entry))
        (difference_at (coefficient_at row) (multiple_at s.q s.t entry)) w → HasPassed b v (ss ++ s ∷ []) w n
    merged_goes w few made =
        let front : length (take n row) ≡ n = length-take-le n row h.0 in
        let goes = goes_merged b v ss (take n row) t (drop (n + 1) row) s run due w few
        (over (λ u e. IsMade (DifferenceIsWide (coefficient_at u) (multiple_at s.q s.t e))
        (difference_at (coefficient_at u) (multiple_at s.q s.t e)) w) made) in
        (omega (arith, front, goes.1), subst (λ (m : ℕ). Running b v (ss ++ s ∷ []) (take m w) (drop m w)) front goes.0)

    pub merged_fails : (fault : VecFault) → length ss < STEPS
        → Makes (DifferenceIsWide (coefficient_at row) (multiple_at s.q s.t entry)) (difference_at (coefficient_at row) (multiple_at s.q s.t entry)) (Err fault)
        → Fails b v (fault_at fault (length ss + 1))
    merged_fails (vector.Stop stop) few fails = stops_merged b v ss (take n row) t (drop (n + 1) row) s run due stop few
        (over (λ u e. Makes (DifferenceIsWide (coefficient_at u) (multiple_at s.q s.t e)) (difference_at (coefficient_at u) (multiple_at s.q s.t e))
        (Err (vector.Stop stop))) fails)
    merged_fails vector.NoMemory few fails = tt
