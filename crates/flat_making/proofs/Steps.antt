-- Steps that are handed on one after another, and rows likewise.
use Rattle.std.proofs.Common.{◌≡◌, ◌≢◌, ◌∙◌, ℕ, ◌<◌, Bool, cond, ℤ, pos, neg_ℤ, ◌*ℤ◌, List, [], ◌∷◌, ◌++◌, map, refl, sym, ap, subst}
use Rattle.std.specs.Prelude.{Some, Err, unsigned_abs}
use Rattle.std.specs.List.{AllByRecursion}
use Rattle.formal_sums.specs.FormalSum.{FormalSum, rename}
use Rattle.formal_sums.specs.Span.{multiple}
use Rattle.formal_sums.proofs.Spans.{scale-one}
use Rattle.laurent_terms.specs.declared.TheConstants.{DEGREE}
use Rattle.laurent_terms.specs.Monomials.{degree, product, one}
use Rattle.laurent_terms.proofs.Division.{product-one}
use Rattle.module_vec.specs.declared.TheConstants.{COEFFICIENT}
use Rattle.module_vec.specs.declared.places.Place.{Place}
use Rattle.module_vec.specs.declared.places.Term.{Term}
use Rattle.module_vec.specs.declared.steps.Step.{Step}
use Rattle.module_vec.specs.Places.{moved}
use Rattle.module_vec.specs.Vectors.{sum_of}
use Rattle.fox_calculus.specs.Module.{HasVariables}
use Rattle.basis_entry.specs.declared.recipes.Recipe.TheVariants.{Sum}
use Rattle.flat_cert.specs.declared.faults.FlatFault.TheVariants.{Beyond}
use Rattle.flat_cert.specs.Images.{cancelled, flat_image}
use Rattle.flat_cert.specs.Adding.{Adds}
use Rattle.flat_cert.proofs.Adding.{terms_of, first_is_far, first_is_heavy}
use Rattle.flat_making.specs.declared.handed.Share.{Share}
use Rattle.flat_making.specs.Handing.{steps_sum, hands_on}
use Rattle.flat_making.specs.Lines.{lines_of}
use Rattle.flat_making.specs.Pairs.{row_of, shares_hand, share_lines}
use Rattle.flat_cert.specs.declared.lines.Flat.{Flat}
use Rattle.flat_cert.specs.declared.lines.FlatKind.{FlatKind}
use Rattle.flat_making.proofs.Handings.{Totals}

-- where something has k at t, what it hands on by the steps
abbrev pub handed_by : ℤ → List ℕ → List Step → FormalSum Place
handed_by k t ss = flat_image (multiple moved k t (steps_sum ss))

term_of : Step → Term
term_of s = record { at = record { m = s.t; c = s.by }; k = s.q }

steps_are : (ss : List Step) → steps_sum ss ≡ sum_of (map term_of ss)
unfolding term_of
steps_are [] = refl
steps_are (s ∷ ss) = ap (λ (v : FormalSum Place). (s.q, record { m = s.t; c = s.by }) ∷ v) (steps_are ss)

handed_is : (k : ℤ) (t : List ℕ) (ss : List Step) → handed_by k t ss ≡ terms_of k t (map term_of ss)
handed_is k t ss = ap (λ v. flat_image (multiple moved k t v)) (steps_are ss)

pub steps_split : (k : ℤ) (t : List ℕ) (s : Step) (ss rest : List Step) (q : ℤ) (m : List ℕ) → ss ≡ s ∷ rest → q ≡ k *ℤ s.q → m ≡ cancelled (product t s.t)
    → handed_by k t ss ≡ ((q, record { m = m; c = s.by }) ∷ []) ++ handed_by k t rest
steps_split k t s ss rest q m e is place = ap (handed_by k t) e ∙ λ i. (sym is i, record { m = sym place i; c = s.by }) ∷ handed_by k t rest

pub step_is_far : (es new : Totals) (k : ℤ) (t : List ℕ) (s : Step) (ss rest : List Step) → ss ≡ s ∷ rest → k ≢ pos 0 → s.q ≢ pos 0
    → DEGREE < degree (cancelled (product t s.t)) → Adds es (handed_by k t ss) new (Err Beyond)
unfolding term_of
step_is_far es new k t s ss rest e a b far =
    subst (λ v. Adds es v new (Err Beyond)) (sym (handed_is k t ss))
    (first_is_far es new k t (term_of s) (map term_of ss) (map term_of rest) (ap (map term_of) e) a b far)

pub step_is_heavy : (es new : Totals) (k : ℤ) (t : List ℕ) (s : Step) (ss rest : List Step) → ss ≡ s ∷ rest
    → COEFFICIENT < unsigned_abs (k *ℤ s.q) → Adds es (handed_by k t ss) new (Err Beyond)
unfolding term_of
step_is_heavy es new k t s ss rest e heavy =
    subst (λ v. Adds es v new (Err Beyond)) (sym (handed_is k t ss))
    (first_is_heavy es new k t (term_of s) (map term_of ss) (map term_of rest) (ap (map term_of) e) heavy)

-- a proof hands its steps as they are
moved_by_one : (ss : List Step) → AllByRecursion (λ s. HasVariables s.t) ss → rename (moved one) (steps_sum ss) ≡ steps_sum ss
moved_by_one [] all = refl
moved_by_one (s ∷ ss) all = λ i. (s.q, record { m = product-one s.t all.0 i; c = s.by }) ∷ moved_by_one ss all.1 i

pub handed_first : (ss : List Step) → AllByRecursion (λ s. HasVariables s.t) ss → handed_by (pos 1) one ss ≡ flat_image (steps_sum ss)
handed_first ss all = ap flat_image (scale-one (rename (moved one) (steps_sum ss)) ∙ moved_by_one ss all)

-- ---- rows

pub shares_are : (number : ℕ) (row : List Share) (steps : List Step) → hands_on (row_of number row) (Sum steps) ≡ shares_hand row steps
shares_are number [] steps = refl
shares_are number (s ∷ row) steps = ap (λ v. handed_by s.k s.t steps ++ v) (shares_are number row steps)

pub lines_are : (negated : Bool) (what : FlatKind) (number : ℕ) (row : List Share)
    → lines_of negated (Some what) (row_of number row) ≡ share_lines negated what row
lines_are negated what number [] = refl
lines_are negated what number (s ∷ row) =
    ap (λ (ls : List Flat). (record { k = cond negated (neg_ℤ s.k) s.k; t = s.t; what = what }) ∷ ls) (lines_are negated what number row)

-- what comes of the first share, and then of the others
pub shares_split : (steps : List Step) (s : Share) (row rest : List Share) → row ≡ s ∷ rest
    → shares_hand row steps ≡ handed_by s.k s.t steps ++ shares_hand rest steps
shares_split steps s row rest e = ap (λ r. shares_hand r steps) e
