use Rattle.std.proofs.Common.{◌≡◌, ◌≤◌, List, length, map, ap, ◌∙◌, arith}
use Rattle.std.proofs.lemmas.Bool.{leb-true, le-leb}
use Rattle.std.proofs.lemmas.List.{length-map}
use Rattle.std.specs.Arc.{arc_value}
use Rattle.presentation.specs.Presented.{Presented}
use Rattle.basis_entry.specs.Base.{AreBase}
use Rattle.basis_entry.specs.Entries.{BasisEntry}
use Rattle.pair_book.specs.LogEntries.{terms_of}
use Rattle.pair_book.proofs.Opened.{each_within}
use Rattle.pair_book.proofs.opening.can_open.Goals as goal

pub returns : goal.returns
returns c =
    let p : Presented = arc_value c.args.p.now in
    let limits = c.args.limits.now in
    let es : List BasisEntry = map arc_value c.in_ok-base.base.items in
    let base : AreBase p es = c.in_ok-base.ensures in
    let long = length-map c.in_ok-base.base.items arc_value in
    let count = c.len.ensures in
    let counted : c.count_terms.result ≡ terms_of es = c.count_terms.ensures ∙ ap (λ xs. terms_of (map arc_value xs)) c.deref.ensures.value in
    let many : length es ≤ limits.entries = omega (arith, long, count, c.if-len-limits.false) in (
      λ h. let le = leb-true c.count_terms.result limits.terms h in each_within p limits es base many (omega (arith, counted, le)),
      λ w. let le = (w es base).1 in le-leb c.count_terms.result limits.terms (omega (arith, counted, le)),
    )
