use Rattle.std.proofs.Common.{◌≡◌, ◌∙◌, ℕ, List, Option, Err, ap, subst, sym}
use Rattle.std.proofs.lemmas.Result.{err_from_is_err_and}
use Rattle.mb_io.specs.Shelf.{CountRose}
use Rattle.mb_io.proofs.Giving.{rose_later}
use Rattle.flat_cert.specs.declared.lines.Flat.{Flat}
use Rattle.flat_cert.specs.Checking.{Answers}
use Rattle.command_floor.specs.Files.{CommandEnd}
use Rattle.check_commands.specs.Sum.{SumAsked, SumLeads, sum_asked}
use Rattle.check_commands.proofs.Loading.{sum_halts, sum_goes}
use Rattle.check_commands.proofs.sum.answer.Goals as goal

pub returns-in_err-list-clause-exact : goal.returns-in_err-list-clause-exact
returns-in_err-list-clause-exact g c =
    let before : ℕ = g.S.Shelf.faults c.args.shelf.now in
    let mid : ℕ = g.S.Shelf.faults c.load_presentation.new.shelf in
    let now : ℕ = g.S.Shelf.faults c.load_certificate.new.shelf in
    let under : List ℕ → Option (List ℕ) = g.S.Shelf.under c.args.shelf.now in
    let q : SumAsked = sum_asked c.args.words.now in
    let failed = err_from_is_err_and c.from_residual-in_err-list.result c.from_residual-in_err-list.ensures.1 in
    let same : c.from_residual-in_err-list.result ≡ Err c.in_err-list.field-0.0 = failed.1 ∙ ap Err failed.2 in
    subst (CommandEnd (SumLeads (CountRose before now) under q)) (sym same)
    (sum_halts (CountRose mid now) (CountRose before now) (rose_later before mid now c.load_presentation.ensures.later) under
    (g.S.Shelf.under c.load_presentation.new.shelf q.certificate) q (c.load_presentation.ensures.same q.certificate) c.in_ok-p.p c.in_ok-p.ensures.gives
    c.in_ok-w.w c.in_ok-w.ensures.gives c.in_err-list.field-0.0 c.in_err-list.ensures.gives)

pub returns-clause-exact : goal.returns-clause-exact
returns-clause-exact g c =
    let before : ℕ = g.S.Shelf.faults c.args.shelf.now in
    let mid : ℕ = g.S.Shelf.faults c.load_presentation.new.shelf in
    let now : ℕ = g.S.Shelf.faults c.load_certificate.new.shelf in
    let under : List ℕ → Option (List ℕ) = g.S.Shelf.under c.args.shelf.now in
    let q : SumAsked = sum_asked c.args.words.now in
    let answers : Answers c.in_ok-p.p c.in_ok-w.w c.in_ok-list.list.items c.check_flat-found.result =
    subst (λ (ls : List Flat). Answers c.in_ok-p.p c.in_ok-w.w ls c.check_flat-found.result) c.deref.ensures.value c.check_flat-found.ensures.exact in
    sum_goes (CountRose mid now) (CountRose before now) (rose_later before mid now c.load_presentation.ensures.later) under
    (g.S.Shelf.under c.load_presentation.new.shelf q.certificate) q (c.load_presentation.ensures.same q.certificate) c.in_ok-p.p c.in_ok-p.ensures.gives
    c.in_ok-w.w c.in_ok-w.ensures.gives c.in_ok-list.list c.in_ok-answer.answer c.in_ok-list.ensures.gives
    (c.check_flat-found.result, answers, c.in_ok-answer.ensures.shows)
