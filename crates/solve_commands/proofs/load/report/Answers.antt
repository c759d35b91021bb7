use Rattle.std.proofs.Common.{rules, ◌≡◌, ◌≤◌, ℕ, List, Option, Ok, Err, length, sym, ap, subst, ◌∙◌, arith}
use Rattle.std.proofs.lemmas.Result.{err_from_is_err_and}
use Rattle.std.specs.Arc.{arc_value}
use Rattle.mb_io.specs.Shelf.{CountRose}
use Rattle.mb_io.proofs.Giving.{rose_later}
use Rattle.presentation.specs.Presented.{Presented}
use Rattle.session_core.specs.Sessions.{SessionState}
use Rattle.basis_entry.specs.Entries.{BasisEntry, vectors_of}
use Rattle.basis_entry.specs.Seals.{Seal, IsStrongBasis}
use Rattle.report_text.specs.Reports.{reported}
use Rattle.legal_report.specs.Gathering.{questions_of}
use Rattle.legal_report.specs.Solutions.{AreNewSessions}
use Rattle.loaded_report.specs.Loaded.{IsLoadedSolution}
use Rattle.solve_commands.specs.Bases.{IsBasisIn, BasisGives}
use Rattle.solve_commands.specs.Presentations.{IsPresentedIn}
use Rattle.solve_commands.specs.Load.{LoadAsked, LoadLeads, load_asked}
use Rattle.solve_commands.specs.Runs.{GivesReport}
use Rattle.solve_commands.specs.SessionFiles.{AreQuestionsUnder}
use Rattle.solve_commands.proofs.SessionFiles.{asked_same}
use Rattle.solve_commands.proofs.LoadFound.{due, asked_strong, not_presented, basis_in, no_basis, halted, unasked}
use Rattle.solve_commands.proofs.load.report.Goals as goal

pub returns-in_err-p-clause-gives : goal.returns-in_err-p-clause-gives
returns-in_err-p-clause-gives g c = search (rules, not_presented)

pub returns-in_err-seal-clause-gives : goal.returns-in_err-seal-clause-gives
returns-in_err-seal-clause-gives g c =
    let before : ℕ = g.S.Shelf.faults c.args.shelf.now in
    let mid : ℕ = g.S.Shelf.faults c.load_presentation.new.shelf in
    let now : ℕ = g.S.Shelf.faults c.load_basis.new.shelf in
    let under : List ℕ → Option (List ℕ) = g.S.Shelf.under c.args.shelf.now in
    let q : LoadAsked = load_asked c.args.words.now in
    let presented : IsPresentedIn under q.presentation c.in_ok-p.p = search rules in
    search (
      rules,
      no_basis (CountRose mid now) (CountRose before now) (rose_later before mid now c.load_presentation.ensures.later)
          (g.S.Shelf.under c.load_presentation.new.shelf) under c.load_presentation.ensures.same q c.in_ok-p.p presented,
    )

pub returns-in_err-sessions-clause-gives : goal.returns-in_err-sessions-clause-gives
returns-in_err-sessions-clause-gives g c =
    let before : ℕ = g.S.Shelf.faults c.args.shelf.now in
    let first : ℕ = g.S.Shelf.faults c.load_presentation.new.shelf in
    let mid : ℕ = g.S.Shelf.faults c.load_basis.new.shelf in
    let now : ℕ = g.S.Shelf.faults c.load_sessions.new.shelf in
    let under : List ℕ → Option (List ℕ) = g.S.Shelf.under c.args.shelf.now in
    let q : LoadAsked = load_asked c.args.words.now in
    let seal : Seal = c.in_ok-seal.seal in
    let presented : IsPresentedIn under q.presentation c.in_ok-p.p = search rules in
    let basis : IsBasisIn under q.basis c.in_ok-p.p seal.entries =
    basis_in (g.S.Shelf.under c.load_presentation.new.shelf) under c.load_presentation.ensures.same (CountRose first mid) c.in_ok-p.p q.basis seal
    (search rules) in
    let one : before ≤ first = c.load_presentation.ensures.later in
    let two : first ≤ mid = c.load_basis.ensures.later in
    let failed = err_from_is_err_and c.from_residual-in_err-sessions.result c.from_residual-in_err-sessions.ensures.1 in
    let same : c.from_residual-in_err-sessions.result ≡ Err c.in_err-sessions.field-0.0 = failed.1 ∙ ap Err failed.2 in
    subst (GivesReport (LoadLeads (CountRose before now) under q)) (sym same)
    (halted (CountRose mid now) (CountRose before now) (rose_later before mid now (omega (arith, one, two)))
    (g.S.Shelf.under c.load_basis.new.shelf) under (λ n. c.load_basis.ensures.same n ∙ c.load_presentation.ensures.same n) q c.in_ok-p.p presented
    seal.entries basis c.in_err-sessions.field-0.0 c.in_err-sessions.ensures.cause (search (rules, c.in_err-sessions.ensures.gives)))

pub answer_by-requires-clause-sessions : goal.answer_by-requires-clause-sessions
answer_by-requires-clause-sessions g c =
    let p : Presented = arc_value c.in_ok-p-2.p in
    let same : c.deref.result.now ≡ p = search rules in
    unasked p c.in_ok-base.base c.in_ok-sessions.sessions.items c.in_ok-base.ensures
    (subst (λ (x : Presented). AreNewSessions x c.in_ok-base.base c.in_ok-sessions.sessions.items) same c.in_ok-sessions.ensures.new)

pub returns-clause-gives : goal.returns-clause-gives
returns-clause-gives g c =
    let p : Presented = c.in_ok-p.p in
    let q : LoadAsked = load_asked c.args.words.now in
    let under : List ℕ → Option (List ℕ) = g.S.Shelf.under c.args.shelf.now in
    let ss : List SessionState = c.in_ok-sessions.sessions.items in
    let seal : Seal = c.in_ok-seal.seal in
    let arc : arc_value c.in_ok-p-2.p ≡ p = search rules in
    let presented : IsPresentedIn under q.presentation p = search rules in
    let basis : IsBasisIn under q.basis p seal.entries =
    basis_in (g.S.Shelf.under c.load_presentation.new.shelf) under c.load_presentation.ensures.same
    (CountRose (g.S.Shelf.faults c.load_presentation.new.shelf) (g.S.Shelf.faults c.load_basis.new.shelf)) p q.basis seal (search rules) in
    let asked : AreQuestionsUnder (g.S.Shelf.under c.load_basis.new.shelf) p q.sessions (questions_of ss) = search rules in
    let solution : IsLoadedSolution p seal.entries (questions_of ss) (reported c.in_ok-solved.solved.report) =
    subst (λ (x : Presented). IsLoadedSolution x seal.entries (questions_of ss) (reported c.in_ok-solved.solved.report)) arc (search rules) in
    due (CountRose (g.S.Shelf.faults c.args.shelf.now) (g.S.Shelf.faults c.load_sessions.new.shelf)) under q p seal.entries ss c.in_ok-solved.solved
    presented basis (asked_same (g.S.Shelf.under c.load_basis.new.shelf) under (λ n. c.load_basis.ensures.same n ∙ c.load_presentation.ensures.same n) p
    q.sessions (questions_of ss) asked) solution c.in_ok-solved.ensures.last

pub returns-clause-strong : goal.returns-clause-strong
returns-clause-strong g c =
    let p : Presented = c.in_ok-p.p in
    let q : LoadAsked = load_asked c.args.words.now in
    let under : List ℕ → Option (List ℕ) = g.S.Shelf.under c.args.shelf.now in
    let ss : List SessionState = c.in_ok-sessions.sessions.items in
    let seal : Seal = c.in_ok-seal.seal in
    let arc : arc_value c.in_ok-p-2.p ≡ p = search rules in
    let presented : IsPresentedIn under q.presentation p = search rules in
    let basis : IsBasisIn under q.basis p seal.entries =
    basis_in (g.S.Shelf.under c.load_presentation.new.shelf) under c.load_presentation.ensures.same
    (CountRose (g.S.Shelf.faults c.load_presentation.new.shelf) (g.S.Shelf.faults c.load_basis.new.shelf)) p q.basis seal (search rules) in
    let solution : IsLoadedSolution p seal.entries (questions_of ss) (reported c.in_ok-solved.solved.report) =
    subst (λ (x : Presented). IsLoadedSolution x seal.entries (questions_of ss) (reported c.in_ok-solved.solved.report)) arc (search rules) in
    asked_strong under q p seal.entries presented basis (subst (λ (xs : List BasisEntry). IsStrongBasis p (vectors_of xs)) solution.answered.entries
    solution.answered.legal.strong)
