-- The leads that an index has are those of the first entries of a log that has grown since.
use Rattle.std.proofs.Common.{◌≡◌, arith, sym, ap, ◌∙◌, List, ◌++◌, length, length-append, map, take}
use Rattle.std.proofs.lemmas.List.{length-map, map-append}
use Rattle.std.proofs.Math.Seq.{take-append_seam}
use Rattle.module_vec.specs.declared.places.Term.{Term}
use Rattle.reducer_index.specs.Leads.{AreLeads, lead_of}
use Rattle.basis_entry.specs.Entries.{BasisEntry, vectors_of}
use Rattle.interleave_core.specs.Inner.{HasLeads}

pub leads_on : (es more fs : List BasisEntry) (leads : List Term) → AreLeads (vectors_of es) leads → fs ≡ es ++ more → HasLeads (vectors_of fs) leads
leads_on es more fs leads are e =
    let n : length leads ≡ length (vectors_of es) = ap length are ∙ length-map (vectors_of es) lead_of in
    let v : vectors_of fs ≡ vectors_of es ++ vectors_of more = ap vectors_of e ∙ map-append (λ (x : BasisEntry). x.vector) es more in
    let l : length (vectors_of fs) ≡ length (vectors_of es ++ vectors_of more) = ap length v in
    let m = length-append (vectors_of es) (vectors_of more) in
    let t : take (length leads) (vectors_of fs) ≡ vectors_of es = (λ i. take (n i) (v i)) ∙ take-append_seam (vectors_of es) (vectors_of more) in
    record { within = omega (arith, n, l, m); are = are ∙ ap (map lead_of) (sym t) }
