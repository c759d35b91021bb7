use Rattle.std.proofs.Common.{rules, ◌≡◌, ℕ, ◌<◌, List, length, map, Some, sym, ap, subst, ◌∙◌, arith}
use Rattle.std.proofs.lemmas.List.{length-map}
use Rattle.std.proofs.lemmas.Result.{err_from_is_err_and}
use Rattle.std.specs.Arc.{arc_value}
use Rattle.std.specs.List.{slice_get}
use Rattle.module_vec.specs.Modules.{vector_at}
use Rattle.report_lines.specs.declared.lines.Made.TheVariants as made
use Rattle.basis_entry.specs.Base.{IsOfGenerator}
use Rattle.basis_entry.specs.declared.recipes.Recipe.TheVariants.{Gen}
use Rattle.basis_entry.specs.Entries.{BasisEntry, IsBasisEntry, vectors_of}
use Rattle.saved_basis.specs.Lines.{MadeFails}
use Rattle.saved_basis.specs.Readers.{IsNextEntry}
use Rattle.saved_basis.proofs.Making.{read_map, of_generator, same_count, next_generator}
use Rattle.saved_basis.proofs.NextLines.{fault_goes}
use Rattle.saved_basis.proofs.reader.Reader.generator.Goals as goal

pub returns-in_err-generator_agrees : goal.returns-in_err-generator_agrees
returns-in_err-generator_agrees c = λ gens are.
    let es : List BasisEntry = c.args.self.now.entries in
    let base : c.args.self.now.generators ≡ map arc_value c.self.inside.generators.items = search rules in
    let list : c.args.self.now.entries ≡ map arc_value c.self.inside.entries.items = search rules in
    let number : c.len.result ≡ length es =
    omega (arith, c.len.ensures, c.self.inside.entries.ok, ap length list, length-map c.self.inside.entries.items arc_value) in
    let entry : arc_value c.index-entry.result.now ≡ c.deref-2.result.now = search rules in
    let lt : c.len.result < length c.self.inside.generators.items =
    omega (arith, c.requires.turn, number, ap length base, length-map c.self.inside.generators.items arc_value) in
    let read = read_map arc_value c.self.inside.generators.items c.len.result c.index-entry.result.now lt c.index-entry.ensures in
    let at : slice_get c.args.self.now.generators (length es) ≡ Some c.deref-2.result.now = (λ i. slice_get (base i) (sym number i)) ∙ read ∙ ap Some entry in
    let of : IsOfGenerator c.args.self.now.source (length es) (vector_at gens (length es)) c.deref-2.result.now =
    of_generator c.args.self.now.source c.args.self.now.generators c.known.ensures.base gens are (length es) c.deref-2.result.now at in
    let long : length (vectors_of es) ≡ length es = length-map es (λ (e : BasisEntry). e.vector) in
    let here : IsOfGenerator c.args.self.now.source (length (vectors_of es)) (vector_at gens (length (vectors_of es))) c.deref-2.result.now =
    subst (λ (n : ℕ). IsOfGenerator c.args.self.now.source n (vector_at gens n) c.deref-2.result.now) (sym long) of in
    let p = err_from_is_err_and c.from_residual.result c.from_residual.ensures.1 in
    fault_goes c.from_residual.result (λ e. IsNextEntry c.args.self.now gens (made.Gen c.args.negated) c.args.vector.now (arc_value e))
    (λ (u : Unit {0}). (c.args.vector.now ≡ c.deref-2.result.now.vector) × (c.deref-2.result.now.recipe ≡ Gen (length (vectors_of es)) c.args.negated))
    (MadeFails gens es (made.Gen c.args.negated) c.args.vector.now) p.0 c.in_err-generator_agrees.field-0.0 p.1 p.2
    (c.in_err-generator_agrees.ensures c.args.self.now.source gens (vectors_of es) here)

pub returns : goal.returns
returns c = λ gens are.
    let es : List BasisEntry = c.args.self.now.entries in
    let base : c.args.self.now.generators ≡ map arc_value c.self.inside.generators.items = search rules in
    let list : c.args.self.now.entries ≡ map arc_value c.self.inside.entries.items = search rules in
    let number : c.len.result ≡ length es =
    omega (arith, c.len.ensures, c.self.inside.entries.ok, ap length list, length-map c.self.inside.entries.items arc_value) in
    let entry : arc_value c.index-entry.result.now ≡ c.deref-2.result.now = search rules in
    let lt : c.len.result < length c.self.inside.generators.items =
    omega (arith, c.requires.turn, number, ap length base, length-map c.self.inside.generators.items arc_value) in
    let read = read_map arc_value c.self.inside.generators.items c.len.result c.index-entry.result.now lt c.index-entry.ensures in
    let at : slice_get c.args.self.now.generators (length es) ≡ Some c.deref-2.result.now = (λ i. slice_get (base i) (sym number i)) ∙ read ∙ ap Some entry in
    let of : IsOfGenerator c.args.self.now.source (length es) (vector_at gens (length es)) c.deref-2.result.now =
    of_generator c.args.self.now.source c.args.self.now.generators c.known.ensures.base gens are (length es) c.deref-2.result.now at in
    let long : length (vectors_of es) ≡ length es = length-map es (λ (e : BasisEntry). e.vector) in
    let here : IsOfGenerator c.args.self.now.source (length (vectors_of es)) (vector_at gens (length (vectors_of es))) c.deref-2.result.now =
    subst (λ (n : ℕ). IsOfGenerator c.args.self.now.source n (vector_at gens n) c.deref-2.result.now) (sym long) of in
    let agrees : (c.args.vector.now ≡ c.deref-2.result.now.vector) × (c.deref-2.result.now.recipe ≡ Gen (length (vectors_of es)) c.args.negated) =
    c.in_ok-generator_agrees.ensures c.args.self.now.source gens (vectors_of es) here in
    let turn : length es < length gens =
    omega (arith, c.requires.turn, same_count c.args.self.now.source c.args.self.now.generators c.known.ensures.base gens are) in
    let first : c.deref.result.now ≡ c.deref-2.result.now = search rules in
    let known : IsBasisEntry c.deref-2.result.now = subst IsBasisEntry first c.known-2.ensures in
    subst (IsNextEntry c.args.self.now gens (made.Gen c.args.negated) c.args.vector.now) (sym (c.in_ok-try_clone.ensures ∙ entry))
    (next_generator c.args.self.now gens c.args.negated c.args.vector.now c.deref-2.result.now turn of known
    (agrees.0, agrees.1 ∙ ap (λ n. Gen n c.args.negated) long))
