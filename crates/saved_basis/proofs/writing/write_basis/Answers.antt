use Rattle.std.proofs.Common.{rules, ◌≡◌, ◌++◌, ◌∷◌, [], List, ℕ, length, sym, ap, subst}
use Rattle.std.specs.List.{AllByRecursion}
use Rattle.std.proofs.lemmas.Result.{err_from_is_err_and}
use Rattle.mb_io.specs.Shelf.{TakesPrefix}
use Rattle.presentation.specs.Presented.{Presented}
use Rattle.report_lines.specs.Texts.{lines_text}
use Rattle.basis_entry.specs.Entries.{BasisEntry}
use Rattle.basis_entry.specs.Items.{ItemList}
use Rattle.report_text.specs.Histories.{entry_lines}
use Rattle.report_text.specs.Reports.{EntryIsOver}
use Rattle.report_text.specs.Writing.{Stops}
use Rattle.saved_basis.specs.Files.{last_line}
use Rattle.saved_basis.specs.Writing.{Puts}
use Rattle.saved_basis.proofs.Ranges.{record_over}
use Rattle.saved_basis.proofs.Written.{head_piece, head_stops, entries_stop, last_halts, last_puts}
use Rattle.saved_basis.proofs.writing.write_basis.Goals as goal

pub returns-in_err-put_head-clause-text : goal.returns-in_err-put_head-clause-text
returns-in_err-put_head-clause-text g c =
    let q = err_from_is_err_and c.from_residual.result c.from_residual.ensures.1 in
    let source : c.presentation-p.result.now ≡ c.args.s.now.source = c.presentation-p.ensures in
    rw q.1 (head_stops c.args.s.now.source c.args.s.now.entries (g.K.Sink.taken c.args.out.now) (g.K.Sink.taken c.put_head.new.out)
    (subst (λ (p : Presented). Stops (g.K.Sink.taken c.args.out.now) (head_piece p) (g.K.Sink.taken c.put_head.new.out)) source c.in_err-put_head.ensures.text))

pub put_entries-requires : goal.put_entries-requires
put_entries-requires g c =
    let source : c.presentation-p.result.now ≡ c.args.s.now.source = c.presentation-p.ensures in
    let items : c.of_seal.result.entries ≡ c.args.s.now.entries = ap (λ (x : ItemList). x.entries) c.of_seal.ensures in
    let over = record_over c.args.s.now.source c.requires.0 c.args.s.now.entries c.known.ensures.entries c.requires.1 in
    subst (λ (p : Presented). AllByRecursion (EntryIsOver (length p.names)) c.of_seal.result.entries) (sym source)
    (subst (λ (es : List BasisEntry). AllByRecursion (EntryIsOver (length c.args.s.now.source.names)) es) (sym items) over)

pub returns-in_err-put_entries-clause-text : goal.returns-in_err-put_entries-clause-text
returns-in_err-put_entries-clause-text g c =
    let q = err_from_is_err_and c.from_residual-in_err-put_entries.result c.from_residual-in_err-put_entries.ensures.1 in
    let source : c.presentation-p.result.now ≡ c.args.s.now.source = c.presentation-p.ensures in
    let items : c.of_seal.result.entries ≡ c.args.s.now.entries = ap (λ (x : ItemList). x.entries) c.of_seal.ensures in
    let head : TakesPrefix (g.K.Sink.taken c.args.out.now) (head_piece c.args.s.now.source) (g.K.Sink.taken c.put_head.new.out) =
    subst (λ (p : Presented). TakesPrefix (g.K.Sink.taken c.args.out.now) (head_piece p) (g.K.Sink.taken c.put_head.new.out)) source
    c.in_ok-put_head.ensures.text in
    let body : Stops (g.K.Sink.taken c.put_head.new.out) (lines_text c.args.s.now.source (entry_lines 0 c.args.s.now.entries))
    (g.K.Sink.taken c.put_entries.new.out) =
    subst (λ (p : Presented). Stops (g.K.Sink.taken c.put_head.new.out) (lines_text p (entry_lines 0 c.args.s.now.entries))
    (g.K.Sink.taken c.put_entries.new.out)) source
    (subst (λ (es : List BasisEntry). Stops (g.K.Sink.taken c.put_head.new.out) (lines_text c.presentation-p.result.now (entry_lines 0 es))
    (g.K.Sink.taken c.put_entries.new.out)) items c.in_err-put_entries.ensures.text) in
    rw q.1 (entries_stop c.args.s.now.source c.args.s.now.entries (g.K.Sink.taken c.args.out.now) (g.K.Sink.taken c.put_head.new.out)
    (g.K.Sink.taken c.put_entries.new.out) head body)

pub returns-in_err-last-clause-text : goal.returns-in_err-last-clause-text
returns-in_err-last-clause-text g c =
    let q = err_from_is_err_and c.from_residual-in_err-last.result c.from_residual-in_err-last.ensures.1 in
    let source : c.presentation-p.result.now ≡ c.args.s.now.source = c.presentation-p.ensures in
    let items : c.of_seal.result.entries ≡ c.args.s.now.entries = ap (λ (x : ItemList). x.entries) c.of_seal.ensures in
    let head : TakesPrefix (g.K.Sink.taken c.args.out.now) (head_piece c.args.s.now.source) (g.K.Sink.taken c.put_head.new.out) =
    subst (λ (p : Presented). TakesPrefix (g.K.Sink.taken c.args.out.now) (head_piece p) (g.K.Sink.taken c.put_head.new.out)) source
    c.in_ok-put_head.ensures.text in
    let body : TakesPrefix (g.K.Sink.taken c.put_head.new.out) (lines_text c.args.s.now.source (entry_lines 0 c.args.s.now.entries))
    (g.K.Sink.taken c.put_entries.new.out) =
    subst (λ (p : Presented). TakesPrefix (g.K.Sink.taken c.put_head.new.out) (lines_text p (entry_lines 0 c.args.s.now.entries))
    (g.K.Sink.taken c.put_entries.new.out)) source
    (subst (λ (es : List BasisEntry). TakesPrefix (g.K.Sink.taken c.put_head.new.out) (lines_text c.presentation-p.result.now (entry_lines 0 es))
    (g.K.Sink.taken c.put_entries.new.out)) items c.in_ok-put_entries.ensures.text) in
    rw q.1 (last_halts c.args.s.now.source c.args.s.now.entries (g.K.Sink.taken c.args.out.now) (g.K.Sink.taken c.put_head.new.out)
    (g.K.Sink.taken c.put_entries.new.out) head body)

pub returns-clause-text : goal.returns-clause-text
returns-clause-text g c =
    let source : c.presentation-p.result.now ≡ c.args.s.now.source = c.presentation-p.ensures in
    let items : c.of_seal.result.entries ≡ c.args.s.now.entries = ap (λ (x : ItemList). x.entries) c.of_seal.ensures in
    let head : TakesPrefix (g.K.Sink.taken c.args.out.now) (head_piece c.args.s.now.source) (g.K.Sink.taken c.put_head.new.out) =
    subst (λ (p : Presented). TakesPrefix (g.K.Sink.taken c.args.out.now) (head_piece p) (g.K.Sink.taken c.put_head.new.out)) source
    c.in_ok-put_head.ensures.text in
    let body : TakesPrefix (g.K.Sink.taken c.put_head.new.out) (lines_text c.args.s.now.source (entry_lines 0 c.args.s.now.entries))
    (g.K.Sink.taken c.put_entries.new.out) =
    subst (λ (p : Presented). TakesPrefix (g.K.Sink.taken c.put_head.new.out) (lines_text p (entry_lines 0 c.args.s.now.entries))
    (g.K.Sink.taken c.put_entries.new.out)) source
    (subst (λ (es : List BasisEntry). TakesPrefix (g.K.Sink.taken c.put_head.new.out) (lines_text c.presentation-p.result.now (entry_lines 0 es))
    (g.K.Sink.taken c.put_entries.new.out)) items c.in_ok-put_entries.ensures.text) in
    let last : c.in_ok-last.last.items ≡ last_line = search rules in
    last_puts c.args.s.now.source c.args.s.now.entries (g.K.Sink.taken c.args.out.now) (g.K.Sink.taken c.put_head.new.out)
    (g.K.Sink.taken c.put_entries.new.out) head body (g.K.Sink.taken c.put_with_end.new.out) c.put_with_end.result
    (subst (λ (t : List ℕ). Puts (g.K.Sink.taken c.put_entries.new.out) (t ++ 10 ∷ []) c.put_with_end.result (g.K.Sink.taken c.put_with_end.new.out)) last
    c.put_with_end.ensures.text)
