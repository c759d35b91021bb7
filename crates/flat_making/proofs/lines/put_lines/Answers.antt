use Rattle.std.proofs.Common.{◌≡◌, ◌∙◌, ◌++◌, ap, sym, List}
use Rattle.std.specs.Prelude.{Some, None, Option, slice_index_or}
use Rattle.formal_sums.specs.FormalSum.{FormalSum}
use Rattle.module_vec.specs.declared.places.Place.{Place}
use Rattle.basis_entry.specs.declared.recipes.Recipe.{Recipe}
use Rattle.flat_cert.specs.Adding.{sum_at}
use Rattle.flat_cert.specs.declared.lines.FlatKind.{FlatKind}
use Rattle.flat_making.specs.declared.handed.Share.{Share}
use Rattle.flat_making.specs.Lines.{lines_of, entry_lines}
use Rattle.flat_making.specs.Pairs.{row_of, share_lines}
use Rattle.flat_making.proofs.Handings.{one_row, on_ok}
use Rattle.flat_making.proofs.Steps.{lines_are}
use Rattle.flat_making.proofs.lines.put_lines.Goals as goal

pub returns-in_ok-row-in-Some : goal.returns-in_ok-row-in-Some
returns-in_ok-row-in-Some c = on_ok c.put_shares.result c.put_shares.ensures (λ put row is.
    let n = c.args.number in
    let items : List Share = c.in_ok-row-in-Some.row.items in
    let same : row_of n items ≡ row = one_row (sum_at c.args.handed.now) n (row_of n items) row c.in_ok-row-in-Some.ensures.is is in
    let negated = c.in-Gen.negated in
    let what : FlatKind = c.in-Some.what in
    let kind : slice_index_or c.args.kinds.now c.in-Gen.generator None ≡ Some what = sym c.kind_at.ensures ∙ c.in-Some.is in
    let lines : share_lines negated what items ≡ entry_lines c.args.kinds.now c.args.recipe.now row =
    sym (lines_are negated what n items)
    ∙ ap (λ (v : FormalSum Place). lines_of negated (Some what) v) same
    ∙ ap (λ (k : Option FlatKind). lines_of negated k row) (sym kind)
    ∙ ap (λ (r : Recipe). entry_lines c.args.kinds.now r row) (sym c.in-Gen.is) in
    put ∙ ap (λ ls. c.args.made.now.items ++ ls) (ap (share_lines negated what) c.deref.ensures.value ∙ lines))
