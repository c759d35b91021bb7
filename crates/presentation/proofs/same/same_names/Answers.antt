use Rattle.std.proofs.Common.{◌∙◌, sym, map, string_bytes}
use Rattle.std.specs.Str.{bytes_eq}
use Rattle.std.specs.Cmp.Derive.Mapped.{pointwise-map}
use Rattle.std.proofs.lemmas.Slice.Eq.{bytes_eq-Decides, slice_eq-Decides}
use Rattle.presentation.proofs.same.same_names.Goals as goal

pub returns : goal.returns
returns c =
    let a = c.args.a.now in
    let b = c.args.b.now in
    slice_eq-Decides bytes_eq-Decides (map string_bytes a) (map string_bytes b) c.eq.result (c.eq.ensures ∙ sym (pointwise-map string_bytes bytes_eq a b))
