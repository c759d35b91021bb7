use Rattle.std.proofs.Common.{rules, ◌≡◌, ◌+◌, List, [], ◌∷◌, ◌++◌, length, map, sym, ap, subst, ◌∙◌, arith}
use Rattle.std.specs.Arc.{arc_value}
use Rattle.std.proofs.lemmas.List.{map-append}
use Rattle.std.proofs.lemmas.List.Sums.{sum_by_push}
use Rattle.basis_entry.specs.Entries.{BasisEntry}
use Rattle.pair_work.specs.Outcomes.{recipe_steps}
use Rattle.saved_basis.specs.Files.{terms_of, steps_of}
use Rattle.saved_basis.specs.Readers.{ReadSoFar, IsReading, FitsIn}
use Rattle.saved_basis.proofs.Beginning.{with_reading}
use Rattle.saved_basis.proofs.reader.Reader.with.Goals as goal

pub invariant_of-reader : goal.invariant_of-reader
invariant_of-reader c =
    let old : List BasisEntry = map arc_value c.reader.inside.entries.items in
    let e : BasisEntry = arc_value c.args.entry in
    let items : map arc_value c.push.new.self.items ≡ old ++ e ∷ [] =
    ap (map arc_value) c.in_ok-push.ensures.items ∙ map-append arc_value c.reader.inside.entries.items (c.args.entry ∷ []) in
    let before : ReadSoFar = record {
      source = arc_value c.reader.inside.p.now;
      generators = map arc_value c.reader.inside.generators.items;
      entries = old;
    } in
    let same : c.args.self ≡ before = search rules in
    let long : length c.terms.result.now ≡ length e.vector = search rules in
    let many : c.recipe_steps-steps.result ≡ recipe_steps e.recipe = search rules in
    let t = sum_by_push (λ (x : BasisEntry). length x.vector) old e in
    let s = sum_by_push (λ (x : BasisEntry). recipe_steps x.recipe) old e in (
      subst (λ xs. IsReading (record before { entries = xs })) (sym items)
          (with_reading before e c.reader.invariant.0 (subst (λ (r : ReadSoFar). FitsIn r e) same c.requires)),
      subst (λ xs. c.reader.inside.terms + length c.terms.result.now ≡ terms_of xs) (sym items) (omega (arith, c.reader.invariant.1, t, long)),
      subst (λ xs. c.reader.inside.steps + c.recipe_steps-steps.result ≡ steps_of xs) (sym items) (omega (arith, c.reader.invariant.2, s, many)),
    )
