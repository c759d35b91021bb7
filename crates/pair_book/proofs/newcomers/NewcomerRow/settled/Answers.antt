use Rattle.std.proofs.Common.{◌≡◌, ◌∙◌, sym, ap, ◌<◌, length, map, Some, subst, List, arith}
use Rattle.std.proofs.lemmas.List.{length-map}
use Rattle.std.specs.List.{slice_get}
use Rattle.module_vec.specs.declared.places.Term.{Term}
use Rattle.strong_pairs.specs.Pairs.{lead_of}
use Rattle.task_table.specs.declared.rows.Settled.{Settled}
use Rattle.basis_entry.specs.Entries.{BasisEntry}
use Rattle.pair_book.specs.Settled.{settled_by}
use Rattle.pair_book.proofs.Rows.{row_read}
use Rattle.pair_book.proofs.newcomers.NewcomerRow.settled.Goals as goal

pub returns : goal.returns
returns c =
    let row : (List BasisEntry × Term) → List Settled = λ v. map (λ (e : BasisEntry). settled_by (lead_of e.vector) v.1) v.0 in
    let entries = c.self.inside.log.now.entries in
    let k : c.args.i < length (row (entries, c.self.inside.lead)) =
    subst (λ (v : List BasisEntry × Term). c.args.i < length (row v)) (sym c.self.view_is) c.requires in
    let l = length-map entries (λ (e : BasisEntry). settled_by (lead_of e.vector) c.self.inside.lead) in
    let read = row_read entries c.self.inside.lead c.args.i (omega (arith, k, l)) in
    subst (λ (v : List BasisEntry × Term). slice_get (row v) c.args.i ≡ Some c.settled.result) c.self.view_is
    (read ∙ ap (λ (s : Settled). Some s) (sym (c.settled.ensures ∙ ap (λ (d : Term). settled_by d c.self.inside.lead) c.lead.ensures.is)))
