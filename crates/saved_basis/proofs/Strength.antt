-- A saved list whose tasks add nothing is a strong basis.
use Rattle.std.proofs.Common.{◌≡◌, Bool, true, false, List, [], take, inl, inr, refl, sym, subst, arith}
use Rattle.std.proofs.lemmas.List.{length-map}
use Rattle.std.proofs.lemmas.Option.{slice_get_within}
use Rattle.std.specs.Prelude.{MatchBool, negsuc}
use Rattle.formal_sums.specs.FormalSum.{scale}
use Rattle.presentation.specs.Presented.{Presented}
use Rattle.module_vec.specs.declared.places.Term.{Term}
use Rattle.module_vec.specs.Modules.{vector_at}
use Rattle.module_vec.specs.Reducers.{AreEntries}
use Rattle.module_vec.specs.Vectors.{sum_of, coefficient_at}
use Rattle.module_vec.proofs.Determined.{runs_are_chains}
use Rattle.outcomes.specs.declared.kinds.PairKind.{PairKind}
use Rattle.outcomes.specs.declared.tasks.Task.{Task}
use Rattle.reduce_cofactor.proofs.Resting.{get_take}
use Rattle.strong_pairs.specs.Generating.{IsUpToSign, IsGenerating}
use Rattle.strong_pairs.specs.Pairs.{IsPair}
use Rattle.strong_pairs.specs.Tasks.{IsClosed, AllClosed}
use Rattle.strong_pairs.proofs.Chaining.{closed_by_chain}
use Rattle.strong_pairs.proofs.Criterion.{criterion}
use Rattle.strong_pairs.proofs.Determination.{closed_from_start}
use Rattle.basis_entry.specs.Base.{has_negative_lead}
use Rattle.basis_entry.specs.Entries.{BasisEntry, vectors_of}
use Rattle.basis_entry.specs.Seals.{IsStrongBasis}
use Rattle.basis_entry.proofs.Members.{entries_listed}
use Rattle.basis_entry.proofs.Vectors.{are_entries}
use Rattle.pair_work.proofs.Reading.{vector_of, some_at}
use Rattle.saved_basis.specs.Files.{IsSaved}
use Rattle.saved_basis.specs.Tasks.{Passes, AllPass}

up_to_sign : (b : Bool) (g v : List Term) → MatchBool b (sum_of v ≡ scale (negsuc 0) (sum_of g)) (v ≡ g) → IsUpToSign g v
up_to_sign true g v h = inr h
up_to_sign false g v h = inl h

module _ (p : Presented) (es : List BasisEntry) (s : IsSaved p es) where
  generating : IsGenerating s.log.begins.gens (vectors_of es)
  generating = record {
    entries = are_entries es s.entries;
    generators = λ i lt.
        let n = s.log.begins.count in
        let x = some_at (take s.base es) i (omega (arith, lt, n)) in
        let of = s.log.begins.each i x.0 x.1 in
        let there = get_take s.base i es x.0 x.1 in
        let same = vector_of es i x.0 there in
        let long = length-map es (λ (e : BasisEntry). e.vector) in
        let within = slice_get_within es i x.0 there in (
          i,
          omega (arith, within, long),
          subst (λ (v : List Term). IsUpToSign (vector_at s.log.begins.gens i) v) (sym same)
              (up_to_sign (has_negative_lead (vector_at s.log.begins.gens i)) (vector_at s.log.begins.gens i) x.0.vector of.vector),
        );
    others = λ j lt. inr (entries_listed p s.log.begins.gens es s.log.begins.generators s.entries s.log.source j lt);
  }

-- a task that passes is truly closed
pub closed : (b : List (List Term)) → AreEntries b → (t : Task) → IsPair b t.i t.j → Passes b t → IsClosed b t.kind t.i t.j
closed b entries t pair (inl start) = closed_from_start b entries t.kind t.i t.j pair start
closed b entries t pair (inr (inl covered)) = subst (λ (k : PairKind). IsClosed b k t.i t.j) (sym covered.0) covered.1
closed b entries t pair (inr (inr zero)) =
    closed_by_chain b entries t.i t.j pair t.kind zero.1.vector zero.1.pair zero.0 (coefficient_at [])
    (runs_are_chains b zero.0 (coefficient_at zero.1.vector) (coefficient_at []) zero.1.rest.runs) (λ x. refl)

all_closed : (b : List (List Term)) → AreEntries b → AllPass b → AllClosed b
all_closed b entries pass kind i j pair = closed b entries (record { i = i; j = j; kind = kind }) pair (pass (record { i = i; j = j; kind = kind }) pair)

pub strong : (p : Presented) (es : List BasisEntry) → IsSaved p es → AllPass (vectors_of es) → IsStrongBasis p (vectors_of es)
strong p es s pass = record {
  gens = s.log.begins.gens;
  generators = s.log.begins.generators;
  strong = criterion s.log.begins.gens (vectors_of es) (generating p es s) (all_closed (vectors_of es) (are_entries es s.entries) pass);
}
