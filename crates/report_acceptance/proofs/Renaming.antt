-- Steps that name the same vectors by other numbers do the same.
use Rattle.std.proofs.Common.{◌≡◌, ◌<◌, List, [], ◌∷◌, length, sym, ap, subst}
use Rattle.module_vec.specs.declared.places.Term.{Term}
use Rattle.module_vec.specs.declared.steps.Step.{Step}
use Rattle.module_vec.specs.Vectors.{Coefficients, HasRoom, multiple_at}
use Rattle.module_vec.specs.Modules.{vector_at}
use Rattle.module_vec.specs.Results.{Nowhere, HasTerms}
use Rattle.module_vec.specs.Chains.{taken_at}
use Rattle.step_lists.specs.declared.way.Way.{Way}
use Rattle.step_lists.specs.Sums.{combined, passed, IsWideAt, CanPass, Leads}
use Rattle.cert_checker.specs.States.{AreNear}
use Rattle.cert_checker.specs.Checking.{AreThere, StepsLead}
use Rattle.report_trimming.specs.Trimming.{Pairwise}

module _ (b c : List (List Term)) where
  -- the new step does by the one list what the old one does by the other
  pub record IsSame (old new : Step) : Type 0 where
    pub q : new.q ≡ old.q
    pub t : new.t ≡ old.t
    pub there : new.by < length c
    pub vector : vector_at c new.by ≡ vector_at b old.by

  same_taken : (old new : Step) → IsSame old new → taken_at b old ≡ taken_at c new
  same_taken old new h i = multiple_at (sym h.q i) (sym h.t i) (sym h.vector i)

  pub same_near : (ss ts : List Step) → Pairwise IsSame ss ts → AreThere b ss → AreNear b ss → AreNear c ts
  same_near [] [] h there near = tt
  same_near [] (t ∷ ts) h there near = absurd h
  same_near (s ∷ ss) [] h there near = absurd h
  same_near (s ∷ ss) (t ∷ ts) h there near = (
    λ own. subst (λ v. HasRoom t.t v) (sym h.0.vector) (subst (λ m. HasRoom m (vector_at b s.by)) (sym h.0.t) (near.0 there.0)),
    same_near ss ts h.1 there.1 near.1,
  )

  pub same_there : (ss ts : List Step) → Pairwise IsSame ss ts → AreThere c ts
  same_there [] [] h = tt
  same_there [] (t ∷ ts) h = absurd h
  same_there (s ∷ ss) [] h = absurd h
  same_there (s ∷ ss) (t ∷ ts) h = (h.0.there, same_there ss ts h.1)

  same_pass : (way : Way) (f : Coefficients) (old new : Step) → IsSame old new → CanPass way b f old → CanPass way c f new
  same_pass way f old new h can = record {
    narrow = subst (λ m. Nowhere (IsWideAt way f m)) (same_taken old new h) can.narrow;
    count = can.count;
    terms = subst (λ m. HasTerms (combined way f m) can.count) (same_taken old new h) can.terms;
    short = can.short;
  }

  same_lead : (way : Way) (f g : Coefficients) (ss ts : List Step) → Pairwise IsSame ss ts → Leads way b f ss g → Leads way c f ts g
  same_lead way f g [] [] h leads = leads
  same_lead way f g [] (t ∷ ts) h leads = absurd h
  same_lead way f g (s ∷ ss) [] h leads = absurd h
  same_lead way f g (s ∷ ss) (t ∷ ts) h leads =
      let next : passed way b f s ≡ passed way c f t = ap (combined way f) (same_taken s t h.0) in (
        same_pass way f s t h.0 leads.0,
        subst (λ k. Leads way c k ts g) next (same_lead way (passed way b f s) g ss ts h.1 leads.1),
      )

  pub same_steps : (way : Way) (f g : Coefficients) (ss ts : List Step) → Pairwise IsSame ss ts → StepsLead way b f ss g → StepsLead way c f ts g
  same_steps way f g ss ts h leads = (same_there ss ts h, same_lead way f g ss ts h leads.1)
