use Rattle.std.proofs.Common.{arith, sym, ap, ◌∙◌, ◌≡◌, ◌+◌, ◌++◌, ◌∷◌, [], length, subst, List, true, length-append}
use Rattle.std.proofs.lemmas.List.Sums.{sum_by_push}
use Rattle.std.specs.Arc.{arc_value}
use Rattle.outcomes.specs.declared.kinds.PairKind.TheVariants.{S}
use Rattle.module_vec.specs.declared.places.Term.{Term}
use Rattle.strong_pairs.specs.Tasks.{IsClosed}
use Rattle.task_table.specs.Tables.{Table, put}
use Rattle.task_table.specs.Rows.{grown}
use Rattle.basis_entry.specs.Entries.{BasisEntry, IsBasisEntry, vectors_of}
use Rattle.pair_book.specs.Logs.{IsNextEntry}
use Rattle.pair_book.specs.Settled.{settled_row}
use Rattle.pair_work.specs.Outcomes.{recipe_steps}
use Rattle.pair_book.specs.Books.{Held, IsBook}
use Rattle.pair_book.specs.Commits.{MayCommit, Fits, state_after}
use Rattle.pair_book.specs.LogEntries.{Logged, IsLogged, terms_of, steps_of}
use Rattle.pair_book.specs.Inner.{held_of}
use Rattle.pair_work.proofs.Reading.{all_push}
use Rattle.pair_book.proofs.Bounds.{commits_few}
use Rattle.pair_book.proofs.Growing.{book_appended, vectors_push}
use Rattle.pair_book.proofs.book.Book.append.Goals as goal

pub overflow_add-commits : goal.overflow_add-commits
overflow_add-commits c = omega (arith, commits_few (held_of c.self.inside) c.self.invariant.book)

pub is_closed-closed-requires-clause-s : goal.is_closed-closed-requires-clause-s
is_closed-closed-requires-clause-s c = λ s.
    let e : BasisEntry = arc_value c.args.entry in
    let grown_by : vectors_of c.enter.new.log.entries ≡ vectors_of c.args.self.now.entries ++ e.vector ∷ [] =
    ap (λ (l : Logged). vectors_of l.entries) c.enter.ensures.log ∙ (vectors_push c.self.inside.log.entries e
    ∙ ap (λ (h : Held). vectors_of h.entries ++ e.vector ∷ []) c.self.view_is) in
    subst (λ (b : List (List Term)). IsClosed b S c.args.task.i c.args.task.j) (sym grown_by) (c.requires.rest.closes s)

pub invariant_of-self : goal.invariant_of-self
invariant_of-self c =
    let e : BasisEntry = arc_value c.args.entry in
    let old = c.self.inside.log.entries in
    let closed = c.is_closed-closed.result in
    let may = subst (λ (h : Held). MayCommit h c.args.task) (sym c.self.view_is) c.requires.may in
    let source = subst (λ (h : Held). e.source ≡ h.source) (sym c.self.view_is) c.requires.source in
    let fits = subst (λ (h : Held). Fits h e) (sym c.self.view_is) c.requires.fits in
    let entry = subst IsBasisEntry c.deref.ensures c.vector.ensures.entry in
    let next : IsNextEntry (vectors_of c.args.self.now.entries) e = record {
      task = c.args.task;
      pair = c.requires.pair;
      made = c.requires.rest.made;
      undivided = c.requires.undivided;
    } in
    let follows = subst (λ (h : Held). IsNextEntry (vectors_of h.entries) e) (sym c.self.view_is) next in
    let entries : c.enter.new.log.entries ≡ old ++ e ∷ [] = ap (λ (l : Logged). l.entries) c.enter.ensures.log in
    let tasks : c.set.new.self ≡ put (grown c.self.inside.tasks (settled_row old e.vector) e.vector) c.args.task (state_after closed) =
    c.set.ensures ∙ (λ k. put (c.enter.ensures.tasks k) c.args.task (c.after.ensures k)) in
    let shown : closed ≡ true → IsClosed (vectors_of (old ++ e ∷ [])) c.args.task.kind c.args.task.i c.args.task.j =
    λ z. subst (λ (es : List BasisEntry). IsClosed (vectors_of es) c.args.task.kind c.args.task.i c.args.task.j) entries (c.is_closed-closed.ensures.0 z) in
    let book = book_appended (held_of c.self.inside) c.args.task e closed c.self.invariant.book may entry source c.requires.rest.short follows fits shown in
    let Q : List BasisEntry → Table → Type 0 = λ es ts. IsBook (record (held_of c.self.inside) {
      entries = es;
      tasks = ts;
      commits = c.self.inside.commits + 1;
    }) in
    let n = length-append old (e ∷ []) in
    let f0 = fits.0 in
    let logged : IsLogged (record c.self.inside.log { entries = old ++ e ∷ [] }) = record {
      entries = all_push IsBasisEntry old e c.self.invariant.logged.entries entry;
      within = omega (arith, n, f0, c.self.invariant.room);
      most = c.self.invariant.logged.most;
    } in
    let t = sum_by_push (λ (z : BasisEntry). length z.vector) old e in
    let s = sum_by_push (λ (z : BasisEntry). recipe_steps z.recipe) old e in
    let long : length c.terms.result.now ≡ length e.vector = ap length (c.terms.ensures.is
    ∙ (c.vector.ensures.is ∙ ap (λ (z : BasisEntry). z.vector) c.deref.ensures)) in
    let many : c.steps_in.result ≡ recipe_steps e.recipe = c.steps_in.ensures ∙ ap recipe_steps (c.recipe.ensures
    ∙ ap (λ (z : BasisEntry). z.recipe) c.deref-2.ensures) in
    let ts = ap terms_of entries in
    let ss = ap steps_of entries in
    record {
      book = subst (λ (es : List BasisEntry). Q es c.set.new.self) (sym entries) (subst (λ (x : Table). Q (old ++ e ∷ []) x) (sym tasks) book);
      logged = subst IsLogged (sym c.enter.ensures.log) logged;
      room = ap (λ (l : Logged). l.room) c.enter.ensures.log ∙ c.self.invariant.room;
      terms = omega (arith, t, long, ts, c.self.invariant.terms);
      steps = omega (arith, s, many, ss, c.self.invariant.steps);
    }
