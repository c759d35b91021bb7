use Rattle.std.proofs.Common.{arith, sym, ap, ◌∙◌, ◌≡◌, ℕ, length, map, subst, List, None}
use Rattle.std.proofs.lemmas.List.{length-map}
use Rattle.std.specs.Arc.{arc_value}
use Rattle.std.specs.List.{AllByRecursion}
use Rattle.presentation.specs.Presented.{Presented}
use Rattle.task_table.specs.Tables.{Table}
use Rattle.basis_entry.specs.Entries.{BasisEntry, IsBasisEntry}
use Rattle.pair_book.specs.Books.{IsBook, AreNew}
use Rattle.pair_book.specs.LogEntries.{Logged, IsLogged, terms_of, steps_of}
use Rattle.pair_book.proofs.Opened.{book_new, none_of, base_steps}
use Rattle.pair_book.proofs.book.Book.open.Goals as goal

pub invariant_of-result : goal.invariant_of-result
invariant_of-result c =
    let p = arc_value c.args.p.now in
    let limits = c.args.limits in
    let tasks = c.enter_all.new.tasks in
    let es : List BasisEntry = map arc_value c.in_ok-base.base.items in
    let d = c.deref.ensures.value in
    let e : c.enter_all.new.log.entries ≡ es = ap (λ (l : Logged). l.entries) c.in_ok-terms.ensures.log ∙ ap (map arc_value) d in
    let fresh = subst (λ xs. AreNew (map arc_value xs) tasks) d c.in_ok-terms.ensures.tasks in
    let logged = subst IsLogged c.log-2.view_is c.log-2.invariant.logged in
    let all = subst (AllByRecursion IsBasisEntry) e logged.entries in
    let within = c.requires.within es c.in_ok-base.ensures in
    let order : tasks.order ≡ limits.order = c.in_ok-terms.ensures.same.0 ∙ ap (λ (t : Table). t.order) c.in_ok-tasks.ensures in
    let room : tasks.room ≡ limits.entries = c.in_ok-terms.ensures.same.1 ∙ ap (λ (t : Table). t.room) c.in_ok-tasks.ensures in
    let book = book_new p limits es tasks c.in_ok-base.ensures all fresh within.0 within.1 order room in
    let long = length-map c.in_ok-base.base.items arc_value in
    let n : length es ≡ c.len.result = omega (arith, long, c.len.ensures) in
    let source : c.in_ok-try_clone.field-0.value ≡ p = c.in_ok-try_clone.ensures in
    let Q : Presented → ℕ → List BasisEntry → Type 0 = λ s k xs. IsBook (record {
      source = s;
      limits = limits;
      base = k;
      entries = xs;
      tasks = tasks;
      commits = 0;
      seal = None;
    }) in
    record {
      book = subst (λ (s : Presented). Q s c.len.result c.enter_all.new.log.entries) (sym source)
          (subst (λ (k : ℕ). Q p k c.enter_all.new.log.entries) n (subst (λ (xs : List BasisEntry). Q p (length es) xs) (sym e) book));
      logged = logged;
      room = ap (λ (l : Logged). l.room) c.in_ok-terms.ensures.log ∙ ap (λ (l : Logged). l.room) c.in_ok-log.ensures;
      terms = c.in_ok-terms.ensures.terms ∙ ap terms_of (ap (map arc_value) d ∙ sym e);
      steps = sym (ap steps_of e ∙ none_of es (base_steps p es c.in_ok-base.ensures));
    }
