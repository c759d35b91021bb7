use Rattle.std.proofs.Common.{rules, ◌≡◌, ℕ, List, Option, Err, length, sym, ap, subst, ◌∙◌}
use Rattle.std.proofs.lemmas.List.{length-map}
use Rattle.std.proofs.lemmas.Result.{err_from_is_err_and}
use Rattle.std.specs.Arc.{arc_value}
use Rattle.mb_io.specs.Shelf.{CountRose}
use Rattle.mb_io.proofs.Giving.{rose_later}
use Rattle.presentation.specs.Presented.{Presented}
use Rattle.session_core.specs.Sessions.{SessionState}
use Rattle.basis_entry.specs.Entries.{BasisEntry}
use Rattle.pair_book.specs.Books.{Held}
use Rattle.command_floor.specs.Parsing.{shown}
use Rattle.legal_report.specs.Gathering.{questions_of}
use Rattle.legal_report.specs.Solutions.{AreNewSessions}
use Rattle.solve_commands.specs.Found.{Begins}
use Rattle.solve_commands.specs.Presentations.{IsPresentedIn}
use Rattle.solve_commands.specs.SessionFiles.{AreQuestionsUnder}
use Rattle.solve_commands.proofs.Found.{begins_not, halted}
use Rattle.solve_commands.proofs.SessionFiles.{asked_same}
use Rattle.solve_commands.proofs.begun.begin.Goals as goal

pub returns-in_err-p-clause-begins : goal.returns-in_err-p-clause-begins
returns-in_err-p-clause-begins g c = search (rules, begins_not)

pub returns-in_err-sessions-clause-begins : goal.returns-in_err-sessions-clause-begins
returns-in_err-sessions-clause-begins g c =
    let before : ℕ = g.S.Shelf.faults c.args.shelf.now in
    let mid : ℕ = g.S.Shelf.faults c.load_presentation.new.shelf in
    let now : ℕ = g.S.Shelf.faults c.load_sessions.new.shelf in
    let under : List ℕ → Option (List ℕ) = g.S.Shelf.under c.args.shelf.now in
    let names : List (List ℕ) = shown c.args.sessions.now in
    let presented : IsPresentedIn under c.args.presentation.now c.in_ok-p.p = search rules in
    let failed = err_from_is_err_and c.from_residual-in_err-sessions.result c.from_residual-in_err-sessions.ensures.1 in
    let same : c.from_residual-in_err-sessions.result ≡ Err c.in_err-sessions.field-0.0 = failed.1 ∙ ap Err failed.2 in
    subst (Begins (CountRose before now) under c.args.presentation.now names c.args.limits) (sym same)
    (halted (CountRose mid now) (CountRose before now) (rose_later before mid now c.load_presentation.ensures.later)
    (g.S.Shelf.under c.load_presentation.new.shelf) under c.load_presentation.ensures.same c.args.presentation.now names c.args.limits c.in_ok-p.p presented
    c.in_err-sessions.field-0.0 c.in_err-sessions.ensures.cause (search (rules, c.in_err-sessions.ensures.gives)))

pub returns-clause-begins : goal.returns-clause-begins
returns-clause-begins g c =
    let p : Presented = c.in_ok-p.p in
    let under : List ℕ → Option (List ℕ) = g.S.Shelf.under c.args.shelf.now in
    let names : List (List ℕ) = shown c.args.sessions.now in
    let ss : List SessionState = c.in_ok-sessions.sessions.items in
    let book : Held = c.in_ok-book.book in
    let arc : arc_value c.in_ok-p-2.p ≡ p = search rules in
    let presented : IsPresentedIn under c.args.presentation.now p = search rules in
    let asked : AreQuestionsUnder (g.S.Shelf.under c.load_presentation.new.shelf) p names (questions_of ss) = search rules in
    let told : AreQuestionsUnder under p names (questions_of ss) =
    asked_same (g.S.Shelf.under c.load_presentation.new.shelf) under c.load_presentation.ensures.same p names (questions_of ss) asked in
    let least : c.count.result ≡ length book.entries = c.count.ensures.is ∙ length-map book.entries (λ (e : BasisEntry). e.vector) in
    let same : c.deref.result.now ≡ arc_value c.in_ok-p-2.p = search rules in
    record {
      presented = subst (IsPresentedIn under c.args.presentation.now) (sym arc) presented;
      asked = subst (λ (x : Presented). AreQuestionsUnder under x names (questions_of ss)) (sym arc) told;
      opened = c.in_ok-book.ensures;
      new = subst (λ (x : Presented). AreNewSessions x (length book.entries) ss) same
          (subst (λ (n : ℕ). AreNewSessions c.deref.result.now n ss) least c.in_ok-sessions.ensures.new);
    }
