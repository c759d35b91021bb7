-- What verdicts say of words.
use Rattle.std.proofs.Common.{◌≡◌, ◌↔◌, ℕ, List, [], ◌∷◌, length, map, Option, Some, Result, Ok, Err, IfOk, slice_index_or, refl, sym, ap, subst, arith}
use Rattle.std.specs.List.{AllByRecursion}
use Rattle.std.specs.declared.alloc.AllocError.{AllocError}
use Rattle.std.proofs.lemmas.List.Elements.{All-from_recursion, recursion_from_All, All-contains, Contains-get_or}
use Rattle.free_words.specs.declared.letter.Letter.{Letter}
use Rattle.free_words.specs.Words.{IsOver, word_image}
use Rattle.presentation.specs.Presented.{Presented, IsPresented, IsWritten}
use Rattle.derivation.specs.Moves as moves
use Rattle.formal_sums.specs.FormalSum.{FormalSum, coefficient}
use Rattle.module_vec.specs.declared.places.Place.{Place}
use Rattle.module_vec.specs.declared.places.Term.{Term}
use Rattle.module_vec.specs.declared.steps.Step.{Step}
use Rattle.module_vec.specs.Reducers.{AreEntries}
use Rattle.module_vec.specs.Modules.{steps_at, InModule}
use Rattle.module_vec.specs.Vectors.{sum_of, coefficient_at}
use Rattle.module_vec.specs.Places.{same_place}
use Rattle.module_vec.proofs.Determined.{runs_are_chains}
use Rattle.fox_calculus.specs.Fox.{fox}
use Rattle.fox_calculus.specs.Module.{IsMember}
use Rattle.fox_calculus.proofs.Members.{member_listed, listed_member}
use Rattle.magnus_laws.specs.Maps.{AreImages, KeepsRelators, Extends}
use Rattle.magnus_laws.proofs.Theorem.{trivial_is_member, member_is_trivial}
use Rattle.magnus_laws.proofs.Homomorphisms.{kept_relators_suffice, homomorphisms_keep_relators}
use Rattle.strong_pairs.proofs.Exactness.{empty_for_members, reduced}
use Rattle.reduce_cofactor.specs.Answers.{IsRest}
use Rattle.session_text.specs.declared.question.Question.{Question}
use Rattle.session_text.specs.declared.question.Question.TheVariants as questions
use Rattle.session_text.specs.Questions.{HasSource, subjects}
use Rattle.hom_check.specs.Subjects.{subject_at}
use Rattle.hom_check.specs.Shown.{fox_at, EndsIn, IsShown, LeavesRest, IsSum, IsFirstUnshown}
use Rattle.hom_check.proofs.Fitting.{Fits, subject_fits, subjects_fit, all_at}
use Rattle.hom_check.proofs.Chaining.{shown_sum}
use Rattle.basis_entry.specs.Entries.{BasisEntry, IsBasisEntry, AreOf, vectors_of}
use Rattle.basis_entry.specs.Seals.{Seal, IsSeal, IsStrongBasis}
use Rattle.basis_entry.proofs.Members.{value_member}
use Rattle.basis_entry.proofs.Vectors.{are_entries}
use Rattle.outcomes.specs.declared.verdicts.Verdict.{Verdict}
use Rattle.outcomes.specs.declared.verdicts.Verdict.TheVariants as verdicts
use Rattle.session_core.specs.Questions.{AsksWhetherExtends, CanBeAsked}
use Rattle.session_core.specs.Verdicts.{AllAreShown, LeavesSome, IsSealedFor, IsVerdict}
use Rattle.session_core.proofs.Judging.{some_rest}
use Rattle.session_core.specs.Meaning.{AllAreTrivial, MapExtends, IsFirstNotTrivial, IsNormalForm, IsExact}

-- ---- sums of multiples of entries

terms_of : FormalSum Place → List Term
terms_of [] = []
terms_of (t ∷ f) = record { at = t.1; k = t.0 } ∷ terms_of f

terms_back : (f : FormalSum Place) → sum_of (terms_of f) ≡ f
unfolding terms_of
terms_back [] = refl
terms_back (t ∷ f) = ap (λ (r : FormalSum Place). t ∷ r) (terms_back f)

-- a word that entries of the presentation show is trivial
shown_trivial : (p : Presented) (es : List BasisEntry) (w : List Letter) → IsPresented p → AllByRecursion IsBasisEntry es → AreOf p es
    → IsOver (length p.names) w
    → IsShown (vectors_of es) w → moves.Trivial p w
shown_trivial p es w known all of over shown =
    let sum : IsSum (vectors_of es) w = shown_sum (vectors_of es) w shown in
    let has : (f : FormalSum Place) → f ≡ fox w → (x : Place) → coefficient same_place f x ≡ steps_at (vectors_of es) sum.steps x =
    λ f e. subst (λ (h : FormalSum Place). (x : Place) → coefficient same_place h x ≡ steps_at (vectors_of es) sum.steps x) (sym e) sum.is in
    let member : IsMember p (sum_of (terms_of (fox w))) = value_member p es (vectors_of es) sum.steps (terms_of (fox w)) refl all of sum.are
    (has (sum_of (terms_of (fox w))) (terms_back (fox w))) in
    member_is_trivial p w known over (subst (IsMember p) (terms_back (fox w)) member)

all_trivial : (p : Presented) (es : List BasisEntry) (ws : List (List Letter)) → IsPresented p → AllByRecursion IsBasisEntry es → AreOf p es
    → AllByRecursion (Fits (length p.names)) ws → AllByRecursion (IsShown (vectors_of es)) ws → AllByRecursion (moves.Trivial p) ws
all_trivial p es [] known all of fits shown = tt
all_trivial p es (w ∷ ws) known all of fits shown = (shown_trivial p es w known all of fits.0.0 shown.0, all_trivial p es ws known all of fits.1 shown.1)

pub shown_are_trivial : (p : Presented) (es : List BasisEntry) (q : Question) → IsPresented p → AllByRecursion IsBasisEntry es → AreOf p es → CanBeAsked p q
    → AllAreShown (vectors_of es) q → AllAreTrivial p q
shown_are_trivial p es q known all of asked shown = all_trivial p es (subjects q) known all of (subjects_fit p q asked.0 asked.1) shown

-- ---- maps

written_over : (n : ℕ) (ws : List (List Letter)) → AllByRecursion (IsWritten n) ws → AllByRecursion (IsOver n) ws
written_over n [] h = tt
written_over n (w ∷ ws) h = (h.0.0, written_over n ws h.1)

images_all : (P : List Letter → Type 0) (f : List Letter → List Letter) (rs : List (List Letter)) → AllByRecursion P (map f rs)
    → AllByRecursion (λ r. P (f r)) rs
images_all P f [] h = tt
images_all P f (r ∷ rs) h = (h.0, images_all P f rs h.1)

all_images : (P : List Letter → Type 0) (f : List Letter → List Letter) (rs : List (List Letter)) → AllByRecursion (λ r. P (f r)) rs
    → AllByRecursion P (map f rs)
all_images P f [] h = tt
all_images P f (r ∷ rs) h = (h.0, all_images P f rs h.1)

-- a map all of whose subjects are trivial extends
pub trivial_map_extends : (p : Presented) (source : Presented) (images : List (List Letter)) → CanBeAsked p (questions.Hom source images)
    → AllAreTrivial p (questions.Hom source images) → Extends source images p
trivial_map_extends p source images asked trivial =
    let formed = asked.0.0 in
    let are : AreImages source images p = record { one_each = formed.0; over = written_over (length p.names) images asked.0.1 } in
    kept_relators_suffice source p images formed.1 are
    (λ r listed. All-contains (λ (s : List Letter). moves.Trivial p (word_image images s)) source.relators r
    (All-from_recursion (λ (s : List Letter). moves.Trivial p (word_image images s)) source.relators
    (images_all (moves.Trivial p) (word_image images) source.relators trivial)) listed)

-- a question about a map whose subjects are all trivial: the map extends
extends_where_trivial : (p : Presented) (q : Question) → CanBeAsked p q → AsksWhetherExtends q → AllAreTrivial p q → MapExtends p q
extends_where_trivial p (questions.Trivial w) asked asks trivial = absurd asks
extends_where_trivial p (questions.Equal u v) asked asks trivial = absurd asks
extends_where_trivial p (questions.Normal w) asked asks trivial = absurd asks
extends_where_trivial p (questions.Hom source images) asked asks trivial = trivial_map_extends p source images asked trivial

-- and where it extends, all subjects are trivial
trivial_where_extends : (p : Presented) (q : Question) → HasSource q → MapExtends p q → AllAreTrivial p q
trivial_where_extends p (questions.Trivial w) known extends = absurd extends
trivial_where_extends p (questions.Equal u v) known extends = absurd extends
trivial_where_extends p (questions.Normal w) known extends = absurd extends
trivial_where_extends p (questions.Hom source images) known extends =
    let keeps : KeepsRelators source images p = homomorphisms_keep_relators source p images known extends in
    all_images (moves.Trivial p) (word_image images) source.relators
    (recursion_from_All (λ (r : List Letter). moves.Trivial p (word_image images r)) source.relators
    (λ k d lt. keeps (slice_index_or source.relators k d) (Contains-get_or source.relators k d lt)))

-- ---- what verdicts say whatever the list is

pub trivial_verdict : (p : Presented) (es : List BasisEntry) (b : List (List Term)) (seal : Option Seal) (q : Question) (v : Verdict) → IsPresented p
    → AllByRecursion IsBasisEntry es → AreOf p es → CanBeAsked p q
    → b ≡ vectors_of es → IsVerdict p b seal q v → v ≡ verdicts.Trivial → AllAreTrivial p q
trivial_verdict p es b seal q v known all of asked are is e =
    let here : IsVerdict p (vectors_of es) seal q verdicts.Trivial =
    subst (λ (c : List (List Term)). IsVerdict p c seal q verdicts.Trivial) are (subst (IsVerdict p b seal q) e is) in
    shown_are_trivial p es q known all of asked here.1

pub extends_verdict : (p : Presented) (es : List BasisEntry) (b : List (List Term)) (seal : Option Seal) (q : Question) (v : Verdict) → IsPresented p
    → AllByRecursion IsBasisEntry es → AreOf p es → CanBeAsked p q
    → b ≡ vectors_of es → IsVerdict p b seal q v → v ≡ verdicts.Extends → MapExtends p q
extends_verdict p es b seal q v known all of asked are is e =
    let here : IsVerdict p (vectors_of es) seal q verdicts.Extends =
    subst (λ (c : List (List Term)). IsVerdict p c seal q verdicts.Extends) are (subst (IsVerdict p b seal q) e is) in
    extends_where_trivial p q asked here.0 (shown_are_trivial p es q known all of asked here.1)

-- ---- strong bases
module _ (p : Presented) (b : List (List Term)) (known : IsPresented p) (entries : AreEntries b) (basis : IsStrongBasis p b) where
  decides : (w : List Letter) (rest : List Term) (steps : List Step) → IsRest b (fox_at w) rest steps → (rest ≡ []) ↔ InModule basis.gens (fox_at w)
  decides w rest steps chain =
      empty_for_members basis.gens b entries basis.strong (fox_at w) rest steps chain.vector.sparse
      (runs_are_chains b steps (fox_at w) (coefficient_at rest) chain.runs) chain.end

  strong_shown : (w : List Letter) → IsOver (length p.names) w → IsShown b w → moves.Trivial p w
  strong_shown w over shown = member_is_trivial p w known over (listed_member p basis.gens (fox w) basis.generators ((decides w [] shown.0 shown.1).0 refl))

  strong_unshown : (w : List Letter) → IsOver (length p.names) w → LeavesSome b w → moves.Trivial p w → ⊥
  strong_unshown w over left trivial =
      left.1.0 ((decides w left.0 left.1.1.0 left.1.1.1).1 (member_listed p basis.gens (fox w) basis.generators (trivial_is_member p w known over trivial)))

  strong_all : (ws : List (List Letter)) → AllByRecursion (Fits (length p.names)) ws → AllByRecursion (IsShown b) ws → AllByRecursion (moves.Trivial p) ws
  strong_all [] fits shown = tt
  strong_all (w ∷ ws) fits shown = (strong_shown w fits.0.0 shown.0, strong_all ws fits.1 shown.1)

  strong_first : (q : Question) (j : ℕ) → CanBeAsked p q → IsFirstUnshown b q j (LeavesSome b) → IsFirstNotTrivial p q j
  strong_first q j asked first =
      let own : Fits (length p.names) (subject_at q j) = subject_fits p q j asked.0 asked.1 first.number first.within in
      let above = first.within in
      record {
        number = first.number;
        within = first.within;
        here = strong_unshown (subject_at q j) own.0 first.goes;
        before = λ i from below.
            let fits : Fits (length p.names) (subject_at q i) = subject_fits p q i asked.0 asked.1 from (omega (arith, below, above)) in
            strong_shown (subject_at q i) fits.0 (first.before i from below);
      }

  strong_form : (w : List Letter) (rest : List Term) → EndsIn b rest w → IsNormalForm p w rest
  strong_form w rest ends =
      let chain : IsRest b (fox_at w) rest ends.0 = ends.1 in
      record {
        gens = basis.gens;
        generators = basis.generators;
        vector = chain.vector;
        reduced = reduced basis.gens b entries basis.strong (fox_at w) (coefficient_at rest) ends.0
            (runs_are_chains b ends.0 (fox_at w) (coefficient_at rest) chain.runs) chain.end;
      }

  by_strong : (q : Question) (seal : Option Seal) (v : Verdict) → CanBeAsked p q → HasSource q → IsSealedFor p seal → IsVerdict p b seal q v → IsExact p q v
  by_strong q seal verdicts.Trivial asked source sealed is = (is.0, strong_all (subjects q) (subjects_fit p q asked.0 asked.1) is.1)
  by_strong q seal verdicts.NotTrivial asked source sealed is = (is.1, strong_first q 1 asked is.2)
  by_strong q seal (verdicts.Normal rest) asked source sealed is =
      let first : IsFirstUnshown b q 1 (LeavesRest b rest) = is.2 in
      (is.1, strong_first q 1 asked (some_rest b q 1 rest first), first.goes.0, strong_form (subject_at q 1) rest first.goes.1)
  by_strong q seal verdicts.Extends asked source sealed is =
      (is.0, extends_where_trivial p q asked is.0 (strong_all (subjects q) (subjects_fit p q asked.0 asked.1) is.1))
  by_strong q seal (verdicts.Fails j) asked source sealed is =
      let first : IsFirstNotTrivial p q j = strong_first q j asked is.2 in
      (is.1, first, λ extends. first.here (all_at (moves.Trivial p) q j (trivial_where_extends p q source extends) first.number first.within))
  by_strong q seal (verdicts.Unknown j) asked source sealed is = absurd (is.0 sealed)
  by_strong q seal (verdicts.Stop j stop) asked source sealed is = tt

pub strong_verdict : (p : Presented) (q : Question) (b : List (List Term)) (seal : Option Seal) (v : Verdict) → IsPresented p → CanBeAsked p q → HasSource q
    → AreEntries b → IsStrongBasis p b → IsSealedFor p seal → IsVerdict p b seal q v → IsExact p q v
strong_verdict p q b seal v known asked source entries basis sealed is = by_strong p b known entries basis q seal v asked source sealed is

pub sealed_verdict : (p : Presented) (q : Question) (es : List BasisEntry) (s : Seal) (v : Verdict) → IsPresented p → CanBeAsked p q → HasSource q
    → IsSeal s → s.source ≡ p → s.entries ≡ es → IsVerdict p (vectors_of es) (Some s) q v → IsExact p q v
sealed_verdict p q es s v known asked source seal of own is =
    let entries : AreEntries (vectors_of es) = subst (λ (l : List BasisEntry). AreEntries (vectors_of l)) own (are_entries s.entries seal.entries) in
    let basis : IsStrongBasis p (vectors_of es) =
    subst (λ (l : List BasisEntry). IsStrongBasis p (vectors_of l)) own (subst (λ (r : Presented). IsStrongBasis r (vectors_of s.entries)) of seal.strong) in
    strong_verdict p q (vectors_of es) (Some s) v known asked source entries basis of is

-- the answer of a seal
pub sealed_answer : (q : Question) (s : Seal) (r : Result Verdict AllocError) → IsPresented s.source → CanBeAsked s.source q → HasSource q → IsSeal s
    → IfOk r (IsVerdict s.source (vectors_of s.entries) (Some s) q) → IfOk r (IsExact s.source q)
sealed_answer q s (Ok v) known asked source seal is = sealed_verdict s.source q s.entries s v known asked source seal refl refl is
sealed_answer q s (Err e) known asked source seal is = tt
