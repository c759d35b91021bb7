-- The steps of a chain may stand in a proof.
use Rattle.std.proofs.Common.{◌≡◌, ℕ, zero, suc, ◌+◌, ◌<◌, ◌^◌, pos, ◌<ℤ◌, List, [], ◌∷◌, length, sym, ap, subst, ◌∙◌, arith}
use Rattle.std.specs.Prelude.{slice_get, Some}
use Rattle.std.specs.Int.{int_div_euclid}
use Rattle.std.specs.List.{AllByRecursion}
use borrow.Author.Differences.{ints}
use Rattle.formal_sums.proofs.Floors.{zero_floor}
use Rattle.laurent_terms.specs.Monomials.{degree, quotient, IsMonomial}
use Rattle.laurent_terms.proofs.Combining.{sum-quotient, length-combined}
use Rattle.module_vec.specs.declared.places.Term.{Term}
use Rattle.module_vec.specs.declared.steps.Step.{Step}
use Rattle.module_vec.specs.Places.{IsPlace}
use Rattle.module_vec.specs.Vectors.{Coefficients, HasRoom}
use Rattle.module_vec.specs.Modules.{vector_at, AreSteps}
use Rattle.module_vec.specs.Reducers.{IsEntry, AreEntries}
use Rattle.module_vec.specs.Chains.{IsNext, Goes, Runs, after}
use Rattle.step_lists.specs.declared.way.Way.TheVariants.{Take}
use Rattle.step_lists.specs.Sums.{CanPass, Leads}
use Rattle.reduce_cofactor.proofs.Resting.{entry_at, lead_positive}
use Rattle.step_text.specs.Over.{StepsAreOver, AreStepsOf}
use Rattle.cert_checker.specs.States.{IsNear, AreNear}
use Rattle.cert_checker.specs.Checking.{AreThere}
use Rattle.report_acceptance.proofs.Placing.{IsPlaced, written_placed}

-- ---- a chain that meets no limit can be taken step by step

can_pass : (b : List (List Term)) (f : Coefficients) (s : Step) → Goes b f s → CanPass Take b f s
can_pass b f s g = record { narrow = g.narrow; count = g.count; terms = g.terms; short = g.short }

pub runs_lead : (b : List (List Term)) (f g : Coefficients) (ss : List Step) → Runs b f ss g → Leads Take b f ss g
runs_lead b f g [] run = run
runs_lead b f g (s ∷ ss) run = (can_pass b f s run.1, runs_lead b (after b f s) g ss run.2)

pub steps_there : (b : List (List Term)) (ss : List Step) → AreSteps b ss → AreThere b ss
steps_there b [] h = tt
steps_there b (s ∷ ss) h = (h.0.1, steps_there b ss h.1)

-- ---- its steps are in reach

pub entry_there : (b : List (List Term)) (i : ℕ) (v : List Term) → slice_get b i ≡ Some v → vector_at b i ≡ v
entry_there [] i v is = absurd cc
entry_there (u ∷ b) zero v is = cc
entry_there (u ∷ b) (suc i) v is = entry_there b i v is

-- what a step has besides its factor
pub record IsReached (b : List (List Term)) (s : Step) : Type 0 where
  pub near : IsNear b s
  pub mono : IsMonomial s.t

module _ (b : List (List Term)) (entries : AreEntries b) where
  pub next_reached : (f : Coefficients) (s : Step) → IsPlaced f → IsNext b f s → IsReached b s
  next_reached f s placed next =
      let lead : IsEntry (next.lead ∷ next.others) = entry_at b s.by next.lead next.others entries next.due.reducer.entry in
      let positive : pos 0 <ℤ next.lead.k = lead_positive next.lead next.others lead in
      let here : IsPlace next.place = placed next.place (λ z. next.due.moves (ap (λ k. int_div_euclid k next.lead.k) z
      ∙ zero_floor (pos 0) next.lead.k (omega (arith, ints)) positive)) in
      let same : length next.place.m ≡ length next.lead.at.m = here.variables ∙ sym lead.vector.sparse.terms.0.place.variables in
      let sums : degree (quotient next.place.m next.lead.at.m) + degree next.lead.at.m ≡ degree next.place.m =
      sum-quotient next.place.m next.lead.at.m same next.due.reducer.reduces.1 in
      let own : degree s.t ≡ degree (quotient next.place.m next.lead.at.m) = ap degree next.monomial in
      let room : HasRoom s.t (next.lead ∷ next.others) = omega (arith, own, sums, here.most) in
      record {
        near = λ there. subst (HasRoom s.t) (sym (entry_there b s.by (next.lead ∷ next.others) next.due.reducer.entry)) room;
        mono = record {
          variables = ap length next.monomial ∙ length-combined _ next.place.m next.lead.at.m same ∙ here.variables;
          most = omega (arith, own, sums, here.most);
        };
      }

  runs_reached : (f g : Coefficients) (ss : List Step) → IsPlaced f → Runs b f ss g → AllByRecursion (IsReached b) ss
  runs_reached f g [] placed run = tt
  runs_reached f g (s ∷ ss) placed run =
      (next_reached f s placed run.0, runs_reached (after b f s) g ss (written_placed (after b f s) run.1.count run.1.terms) run.2)

near_all : (b : List (List Term)) (ss : List Step) → AllByRecursion (IsReached b) ss → AreNear b ss
near_all b [] h = tt
near_all b (s ∷ ss) h = (h.0.near, near_all b ss h.1)

pub runs_near : (b : List (List Term)) (f g : Coefficients) (ss : List Step) → AreEntries b → IsPlaced f → Runs b f ss g → AreNear b ss
runs_near b f g ss entries placed run = near_all b ss (runs_reached b entries f g ss placed run)

-- ---- and they can be written and read

steps_of : (n : ℕ) (b : List (List Term)) (ss : List Step) → length b < 2 ^ 32 → AllByRecursion (IsReached b) ss → AreThere b ss → StepsAreOver n ss
    → AreStepsOf n ss
steps_of n b [] few h there over = tt
steps_of n b (s ∷ ss) few h there over = (
  record {
    nonzero = over.0.nonzero;
    range = over.0.range;
    mono = record { mono = h.0.mono; over = over.0.mono };
    entry = omega (arith, few, there.0);
  },
  steps_of n b ss few h.1 there.1 over.1,
)

pub runs_read : (n : ℕ) (b : List (List Term)) (f g : Coefficients) (ss : List Step) → AreEntries b → IsPlaced f → length b < 2 ^ 32 → Runs b f ss g
    → AreThere b ss → StepsAreOver n ss → AreStepsOf n ss
runs_read n b f g ss entries placed few run there over = steps_of n b ss few (runs_reached b entries f g ss placed run) there over
