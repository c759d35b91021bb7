-- What was written is read back, or a task stops.
use Rattle.std.proofs.Common.{◌≡◌, ℕ, ◌≤◌, List, [], ◌∷◌, length, refl, sym, subst, ◌∙◌, arith}
use Rattle.std.specs.Prelude.{Result, Ok, Err}
use Rattle.presentation.specs.Presented.{Presented, IsPresented}
use Rattle.module_vec.specs.declared.places.Place.{Place}
use Rattle.module_vec.specs.declared.places.Term.{Term}
use Rattle.module_vec.specs.declared.steps.Step.{Step}
use Rattle.module_vec.specs.Modules.{steps_at, AreSteps, InModule, IsStrong}
use Rattle.module_vec.specs.Places.{IsBelow}
use Rattle.module_vec.specs.Reducers.{AreEntries}
use Rattle.module_vec.specs.Vectors.{coefficient_at}
use Rattle.module_vec.proofs.Determined.{runs_are_chains}
use Rattle.outcomes.specs.declared.kinds.PairKind.{PairKind}
use Rattle.outcomes.specs.declared.kinds.PairKind.TheVariants.{S, G}
use Rattle.outcomes.specs.declared.tasks.Task.{Task}
use Rattle.strong_pairs.specs.Pairs.{IsPair, pair_place, both_at}
use Rattle.strong_pairs.specs.Results.{IsPairVector}
use Rattle.strong_pairs.specs.Tasks.{IsClosed, AreStepsAt}
use Rattle.strong_pairs.proofs.Converse.{strong_closed}
use Rattle.strong_pairs.proofs.Determination.{same_steps}
use Rattle.strong_pairs.proofs.Exactness.{empty_for_members}
use Rattle.strong_pairs.proofs.Members.{sum_in, module_same}
use Rattle.basis_entry.specs.Entries.{BasisEntry, vectors_of}
use Rattle.basis_entry.specs.Seals.{Seal, IsSeal}
use Rattle.basis_entry.proofs.Vectors.{are_entries}
use Rattle.pair_work.specs.Works.{Reduces}
use Rattle.report_text.specs.Reports.{IsRecord}
use Rattle.report_acceptance.proofs.Generating.{one_generating}
use Rattle.report_acceptance.proofs.Items.{get_first, length_take}
use Rattle.saved_basis.specs.declared.faults.LineKind.{LineKind}
use Rattle.saved_basis.specs.declared.faults.BasisFault.{BasisFault}
use Rattle.saved_basis.specs.declared.faults.BasisFault.TheVariants.{Line, Open, Stopped, NoMemory}
use Rattle.saved_basis.specs.Files.{IsBeginning, IsSaved, AreWithin, basis_text}
use Rattle.saved_basis.specs.Lines.{FailsAt, IsFirstFault}
use Rattle.saved_basis.specs.Tasks.{LeavesRest, IsAny, IsOpenTask}
use Rattle.saved_basis.specs.Reading.{IsFileOf, ReadsBasis, IsReadBack}
use Rattle.saved_basis.proofs.Excluding.{no_fault, one_list}
use Rattle.saved_basis.proofs.Ranges.{record_over}

-- ---- a strong list leaves no rest

steps_at_places : (P : Place → Type 0) (b : List (List Term)) (ss : List Step) → AreStepsAt P b ss → AreSteps b ss
steps_at_places P b [] h = tt
steps_at_places P b (s ∷ ss) h = ((h.0.0, h.0.1), steps_at_places P b ss h.1)

module _ (gens b : List (List Term)) (entries : AreEntries b) (strong : IsStrong gens b) (t : Task) (pair : IsPair b t.i t.j) where
  -- the vector of an S task is a member
  s_member : (v : List Term) → IsPairVector S b t.i t.j v → InModule gens (coefficient_at v)
  s_member v is =
      let closed : IsClosed b S t.i t.j = strong_closed gens b entries strong S t.i t.j pair in
      let same = same_steps b entries S t.i t.j pair is.first is.second closed.0 closed.1 is.steps closed.2 in
      let below : Place → Type 0 = λ x. IsBelow x (pair_place b t.i t.j) in
      module_same gens (steps_at b closed.3.steps) (coefficient_at v)
      (λ x. is.made.1.is x ∙ (λ n. both_at b (same.0 n) (same.1 n) x) ∙ closed.3.is x)
      (sum_in gens b strong.members closed.3.steps (steps_at_places below b closed.3.steps closed.3.below))

  pub no_rest : LeavesRest b t → ⊥
  no_rest h = by t.kind refl
    where
      reduces : Reduces b t h.2.0 h.0
      reduces = h.2.1

      member : InModule gens (coefficient_at reduces.vector) → ⊥
      member m = h.1 ((empty_for_members gens b entries strong (coefficient_at reduces.vector) h.0 h.2.0 reduces.rest.vector.sparse
          (runs_are_chains b h.2.0 (coefficient_at reduces.vector) (coefficient_at h.0) reduces.rest.runs) reduces.rest.end).1 m)

      by : (kind : PairKind) → t.kind ≡ kind → ⊥
      by G e = let closed : IsClosed b G t.i t.j = strong_closed gens b entries strong G t.i t.j pair in reduces.uncovered e closed.0 closed.1.0 closed.1
      by S e = member (s_member reduces.vector (subst (λ (k : PairKind). IsPairVector k b t.i t.j reduces.vector) e reduces.pair))

-- ---- saved lists

module _ (p : Presented) (es : List BasisEntry) (s : IsSaved p es) where
  gens_of : List (List Term)
  gens_of = s.log.begins.gens

  pub base_count : s.base ≡ length s.log.begins.gens
  base_count = sym (length_take es s.base s.log.within) ∙ s.log.begins.count

  pub beginning : IsBeginning p s.log.begins.gens es
  beginning = record {
    source = s.log.source;
    entries = s.entries;
    over = s.over;
    begins = λ k e lt at. s.log.begins.each k e (get_first es s.base k e (omega (arith, base_count, lt)) at);
    later = λ k e le at. s.log.later k e (omega (arith, base_count, le)) at;
    within = s.within;
  }

  pub whole : length s.log.begins.gens ≤ length es
  whole = let w = s.log.within in omega (arith, base_count, w)

module _ (s : Seal) (base : ℕ) (known : IsPresented s.source) (seal : IsSeal s) (log : IsRecord s.source base s.entries) (within : AreWithin s.entries) where
  saved : IsSaved s.source s.entries
  saved = record { base = base; log = log; entries = seal.entries; over = record_over s.source base s.entries seal.entries log; within = within }

  same_list : (fs : List BasisEntry) → IsFileOf s.source (basis_text s.source s.entries) fs → fs ≡ s.entries
  unfolding saved
  same_list fs file =
      let same : file.saved.log.begins.gens ≡ log.begins.gens =
      one_generating s.source file.saved.log.begins.gens log.begins.gens file.saved.log.begins.generators log.begins.generators in
      one_list s.source log.begins.gens known s.entries (beginning s.source s.entries saved) (whole s.source s.entries saved) fs
      (subst (λ g. IsBeginning s.source g fs) same (beginning s.source fs file.saved)) (sym file.spelled)

  no_line : (n : ℕ) (k : LineKind) → FailsAt s.source (basis_text s.source s.entries) n k → ⊥
  unfolding saved
  no_line n k f =
      let same : f.generators ≡ log.begins.gens = one_generating s.source f.generators log.begins.gens f.are log.begins.generators in
      no_fault s.source log.begins.gens known s.entries (beginning s.source s.entries saved) (whole s.source s.entries saved)
      (basis_text s.source s.entries) n k refl (subst (λ g. IsFirstFault s.source g (basis_text s.source s.entries) n k) same f.fault)

  no_open : (fs : List BasisEntry) (t : Task) → IsFileOf s.source (basis_text s.source s.entries) fs → IsOpenTask IsAny (vectors_of fs) t → ⊥
  no_open fs t file leaves =
      let o : IsOpenTask IsAny (vectors_of s.entries) t = subst (λ (xs : List BasisEntry). IsOpenTask IsAny (vectors_of xs) t) (same_list fs file) leaves in
      no_rest seal.strong.gens (vectors_of s.entries) (are_entries s.entries seal.entries) seal.strong.strong t o.0.pair o.1

  pub is_read_back : (r : Result Seal BasisFault) → ReadsBasis s.source (basis_text s.source s.entries) r → IsReadBack s r
  is_read_back (Ok t) h = let same : t.entries ≡ s.entries = same_list t.entries h.1.file in λ i. record { source = h.0 i; entries = same i }
  is_read_back (Err (Line n k)) h = no_line n k h
  is_read_back (Err (Open i j kind)) h = no_open h.0 (record { i = i; j = j; kind = kind }) h.1 h.2
  is_read_back (Err (Stopped i j kind stop)) h = tt
  is_read_back (Err NoMemory) h = tt
