-- Entries and subjects in the module.
use Rattle.std.proofs.Common.{◌≡◌, ℕ, ◌<◌, pos, ◌+ℤ◌, Bool, true, false, neg_ℤ, negsuc, ◌*ℤ◌, List, [], ◌∷◌, length, append-nil, refl, sym, ap, ◌∙◌, arith}
use Rattle.std.specs.List.{AllByRecursion}
use borrow.Author.Differences.{ints}
use Rattle.free_words.specs.declared.letter.Letter.{Letter}
use Rattle.presentation.specs.Presented.{Presented, IsPresented}
use Rattle.derivation.specs.Moves.{IsWordOver, Trivial}
use Rattle.formal_sums.specs.FormalSum.{coefficient, rename, scale}
use Rattle.formal_sums.proofs.Spans.{scale-one}
use Rattle.formal_sums.proofs.Coefficients.{coefficient-scale}
use Rattle.laurent_terms.specs.Monomials.{one}
use Rattle.laurent_terms.proofs.Division.{product-one}
use Rattle.module_vec.specs.declared.places.Place.{Place}
use Rattle.module_vec.specs.declared.places.Term.{Term}
use Rattle.module_vec.specs.declared.steps.Step.{Step}
use Rattle.module_vec.specs.Places.{same_place, moved}
use Rattle.module_vec.specs.Vectors.{sum_of, coefficient_at, multiple, IsTerm}
use Rattle.module_vec.specs.Modules.{vector_at, sum_of_steps, steps_at}
use Rattle.step_lists.specs.declared.way.Way.TheVariants.{Take}
use Rattle.step_lists.specs.Sums.{zero_vector}
use Rattle.step_lists.proofs.AddingUp.{adding_adds_up, proven_vectors_are_sums}
use Rattle.step_text.specs.Over.{AreStepsOf}
use Rattle.fox_calculus.specs.Fox.{fox}
use Rattle.fox_calculus.specs.Generators.{candidates, AreGenerators}
use Rattle.fox_calculus.specs.Module.{IsGenerator, IsMember}
use Rattle.fox_calculus.proofs.Listed.{Origin, origin, candidates_are}
use Rattle.fox_calculus.proofs.Members.{listed_member}
use Rattle.magnus_laws.proofs.Members.{member_same, member_nothing, member_sum, member_scale, member_multiple}
use Rattle.magnus_laws.proofs.Theorem.{member_is_trivial}
use Rattle.report_lines.specs.declared.lines.Made.{Made}
use Rattle.report_lines.specs.declared.lines.Made.TheVariants.{Gen, Sum}
use Rattle.report_lines.specs.Lines.{IsMadeOf as IsMadeOver}
use Rattle.cert_checker.specs.States.{IsInTurnAt}
use Rattle.cert_checker.specs.Checking.{AreThere, StepsLead, IsMadeAt, signed, fox_at}
use Rattle.cert_checker.proofs.Lists.{all_at}

-- a vector in the module
abbrev pub Lies : Presented → List Term → Type 0
Lies p v = IsMember p (sum_of v)

rename_one : (g : List Term) → AllByRecursion IsTerm g → rename (moved one) (sum_of g) ≡ sum_of g
rename_one [] h = refl
rename_one (t ∷ g) h = λ i. (t.k, record { m = product-one t.at.m h.0.place.variables i; c = t.at.c }) ∷ rename_one g h.1 i

module _ (p : Presented) where
  -- the generators lie in the module
  pub generator_lies : (gens : List (List Term)) (i : ℕ) → AreGenerators p gens → i < length gens → Lies p (vector_at gens i)
  generator_lies gens i are lt =
      let from : Origin (IsGenerator p) (vector_at gens i) = origin (IsGenerator p) (candidates p) gens are (candidates_are p) i lt in
      let g : List Term = vector_at gens i in
      let own : multiple (pos 1) one g ≡ sum_of g = scale-one (rename (moved one) (sum_of g)) ∙ rename_one g from.is.sparse.terms in
      let alone : sum_of_steps gens (record { q = pos 1; t = one; by = i } ∷ []) ≡ sum_of g = append-nil (multiple (pos 1) one g) ∙ own in
      listed_member p gens (sum_of g) are (record {
        steps = record { q = pos 1; t = one; by = i } ∷ [];
        are = ((refl, lt), tt);
        is = λ x. ap (λ v. coefficient same_place v x) (sym alone);
      })

  -- sums of multiples of members do
  pub steps_lie : (entries : List (List Term)) (n : ℕ) (steps : List Step) → AllByRecursion (Lies p) entries → AreThere entries steps → AreStepsOf n steps
      → IsMember p (sum_of_steps entries steps)
  steps_lie entries n [] all there are = member_nothing p
  steps_lie entries n (s ∷ ss) all there are =
      member_sum p (multiple s.q s.t (vector_at entries s.by)) (sum_of_steps entries ss)
      (member_multiple p s.q s.t (sum_of (vector_at entries s.by)) are.0.mono.mono.variables (all_at (Lies p) entries s.by [] all there.0))
      (steps_lie entries n ss all there.1 are.1)

  signed_lies : (negated : Bool) (g v : List Term) → Lies p g → ((x : Place) → coefficient_at v x ≡ signed negated g x) → Lies p v
  signed_lies false g v h e = member_same p (sum_of v) (sum_of g) e h
  signed_lies true g v h e = member_same p (sum_of v) (scale (negsuc 0) (sum_of g)) (λ x. e x
      ∙ sym (coefficient-scale same_place (negsuc 0) (sum_of g) x ∙ minus (coefficient_at g x))) (member_scale p (negsuc 0) (sum_of g) h)
    where
      minus : (z : _) → negsuc 0 *ℤ z ≡ neg_ℤ z
      minus z = omega (arith, ints)

  -- an entry that is what it is made to be
  pub entry_lies : (gens entries : List (List Term)) (i : ℕ) (made : Made) (n : ℕ) (v : List Term) → AreGenerators p gens → AllByRecursion (Lies p) entries
      → IsMadeOver n made → IsInTurnAt gens entries i made
      → IsMadeAt gens entries i made (coefficient_at v) → Lies p v
  entry_lies gens entries i (Gen negated) n v are all over turn is =
      signed_lies negated (vector_at gens i) v (generator_lies gens i are turn) is
  entry_lies gens entries i (Sum steps) n v are all over turn is =
      member_same p (sum_of v) (sum_of_steps entries steps) (λ x. sums x (adding_adds_up entries zero_vector (coefficient_at v) steps is.1 x))
      (steps_lie entries n steps all is.0 over)
    where
      sums : (x : Place) → coefficient_at v x ≡ zero_vector x +ℤ steps_at entries steps x → coefficient_at v x ≡ steps_at entries steps x
      sums x e = omega (arith, ints, e)

  -- a word with a proof
  pub proven_trivial : (entries : List (List Term)) (n : ℕ) (w : List Letter) (steps : List Step) → IsPresented p → IsWordOver p w
      → AllByRecursion (Lies p) entries → AreStepsOf n steps
      → StepsLead Take entries (fox_at w) steps zero_vector → Trivial p w
  proven_trivial entries n w steps ok over all are leads =
      member_is_trivial p w ok over (member_same p (fox w) (sum_of_steps entries steps) (proven_vectors_are_sums entries (fox_at w) steps leads.1)
      (steps_lie entries n steps all leads.0 are))
