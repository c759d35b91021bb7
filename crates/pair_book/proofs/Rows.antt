-- Rows of settled tasks, read.
use Rattle.std.proofs.Common.{ℕ, zero, suc, ◌<◌, ◌≡◌, arith, refl, List, [], ◌∷◌, length, map, Some}
use Rattle.std.specs.List.{slice_get}
use Rattle.strong_pairs.specs.Pairs.{lead_of, lead_at}
use Rattle.module_vec.specs.declared.places.Term.{Term}
use Rattle.basis_entry.specs.Entries.{BasisEntry, vectors_of}
use Rattle.pair_book.specs.Settled.{settled_by}

-- what a row has for an entry
pub row_read : (es : List BasisEntry) (lead : Term) (i : ℕ) → i < length es → slice_get (map (λ (e : BasisEntry). settled_by (lead_of e.vector) lead) es) i
    ≡ Some (settled_by (lead_at (vectors_of es) i) lead)
row_read [] lead i h = absurd (omega (arith, h))
row_read (e ∷ es) lead zero h = refl
row_read (e ∷ es) lead (suc i) h = row_read es lead i (omega (arith, h))
