-- A log whose tasks are all closed is a strong basis.
use Rattle.std.proofs.Common.{ℕ, zero, suc, ◌<◌, ◌≡◌, inl, inr, arith, sym, List, [], ◌∷◌, length, Bool, true, false, take, subst}
use Rattle.std.proofs.lemmas.List.{length-map}
use Rattle.std.specs.List.{AllByRecursion}
use Rattle.std.proofs.lemmas.Option.{slice_get_within}
use Rattle.std.specs.Prelude.{MatchBool, negsuc}
use Rattle.formal_sums.specs.FormalSum.{scale}
use Rattle.presentation.specs.Presented.{Presented}
use Rattle.module_vec.specs.declared.places.Term.{Term}
use Rattle.module_vec.specs.Modules.{vector_at}
use Rattle.module_vec.specs.Vectors.{sum_of}
use Rattle.fox_calculus.specs.Module.{IsMember}
use Rattle.fox_calculus.proofs.Members.{member_listed}
use Rattle.reduce_cofactor.proofs.Resting.{get_take}
use Rattle.strong_pairs.specs.Generating.{IsUpToSign, IsGenerating}
use Rattle.strong_pairs.specs.Tasks.{AllClosed}
use Rattle.strong_pairs.proofs.Criterion.{criterion}
use Rattle.task_table.specs.declared.states.Wanted.TheVariants.{Unclosed}
use Rattle.task_table.specs.Tables.{NoneIs}
use Rattle.basis_entry.specs.Base.{has_negative_lead}
use Rattle.basis_entry.specs.Entries.{BasisEntry, IsBasisEntry, AreOf, vectors_of}
use Rattle.basis_entry.specs.Seals.{IsStrongBasis}
use Rattle.basis_entry.proofs.Vectors.{are_entries}
use Rattle.pair_book.specs.Logs.{IsLawful}
use Rattle.pair_book.specs.Books.{Held, IsBook}
use Rattle.pair_work.proofs.Reading.{vector_of, some_at}
use Rattle.pair_book.proofs.Keeping.{task_in}

up_to_sign : (b : Bool) (g v : List Term) → MatchBool b (sum_of v ≡ scale (negsuc 0) (sum_of g)) (v ≡ g) → IsUpToSign g v
up_to_sign true g v h = inr h
up_to_sign false g v h = inl h

member_at : (p : Presented) (es : List BasisEntry) → AllByRecursion IsBasisEntry es → AreOf p es → (j : ℕ) → j < length (vectors_of es)
    → IsMember p (sum_of (vector_at (vectors_of es) j))
member_at p [] all of j h = absurd (omega (arith, h))
member_at p (e ∷ es) all of zero h = subst (λ (q : Presented). IsMember q (sum_of e.vector)) of.0 all.0.member
member_at p (e ∷ es) all of (suc j) h = member_at p es all.1 of.1 j (omega (arith, h))

pub generating : (p : Presented) (base : ℕ) (es : List BasisEntry) (l : IsLawful p base es) → IsGenerating l.begins.gens (vectors_of es)
generating p base es l = record {
  entries = are_entries es l.entries;
  generators = λ i lt.
      let n = l.begins.count in
      let s = some_at (take base es) i (omega (arith, lt, n)) in
      let of = l.begins.each i s.0 s.1 in
      let there = get_take base i es s.0 s.1 in
      let same = vector_of es i s.0 there in
      let long = length-map es (λ (e : BasisEntry). e.vector) in
      let within = slice_get_within es i s.0 there in (
        i,
        omega (arith, within, long),
        subst (λ (v : List Term). IsUpToSign (vector_at l.begins.gens i) v) (sym same)
            (up_to_sign (has_negative_lead (vector_at l.begins.gens i)) (vector_at l.begins.gens i) s.0.vector of.vector),
      );
  others = λ j lt. inr (member_listed p l.begins.gens (sum_of (vector_at (vectors_of es) j)) l.begins.generators (member_at p es l.entries l.source j lt));
}

all_closed : (h : Held) → IsBook h → NoneIs Unclosed h.tasks → AllClosed (vectors_of h.entries)
all_closed h b n kind i j pair =
    let long = length-map h.entries (λ (e : BasisEntry). e.vector) in
    let o = pair.order in let w = pair.within in
    let k : (i < j) × (j < length h.entries) = (o, omega (arith, w, long)) in
    b.truly (record { i = i; j = j; kind = kind }) k (n (record { i = i; j = j; kind = kind }) (task_in h (record { i = i; j = j; kind = kind }) b k)) pair

pub strong : (h : Held) → IsBook h → NoneIs Unclosed h.tasks → IsStrongBasis h.source (vectors_of h.entries)
strong h b n = record {
  gens = b.lawful.begins.gens;
  generators = b.lawful.begins.generators;
  strong = criterion b.lawful.begins.gens (vectors_of h.entries) (generating h.source h.base h.entries b.lawful) (all_closed h b n);
}
