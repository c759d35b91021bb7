-- What rounds keep, one after another.
use Rattle.std.proofs.Common.{◌≡◌, arith, refl, sym, ap, ◌∙◌, [], ◌++◌, length, length-append, subst}
use Rattle.std.proofs.lemmas.List.{append_assoc, append-nil}
use Rattle.outcomes.specs.declared.tasks.Task.{Task}
use Rattle.task_table.specs.Tasks.{IsTask}
use Rattle.pair_book.specs.Books.{Held}
use Rattle.completion_solo.specs.Finishing.{Continues, NoneTaken, LacksMemory}

pub task_on : (old new : Held) (t : Task) → Continues old new → IsTask (length old.entries) t → IsTask (length new.entries) t
task_on old new t c k =
    let n : length new.entries ≡ length (old.entries ++ c.more) = ap length c.entries in
    let l = length-append old.entries c.more in
    let a = k.1 in
    (k.0, omega (arith, n, l, a))

pub continues_still : (h : Held) → Continues h h
continues_still h = record {
  source = refl;
  limits = refl;
  base = refl;
  more = [];
  entries = sym (append-nil h.entries);
  closed = λ t k c. c;
  commits = omega arith;
}

pub continues_on : (a b c : Held) → Continues a b → Continues b c → Continues a c
continues_on a b c x y = record {
  source = y.source ∙ x.source;
  limits = y.limits ∙ x.limits;
  base = y.base ∙ x.base;
  more = x.more ++ y.more;
  entries = y.entries ∙ (ap (λ es. es ++ y.more) x.entries ∙ append_assoc a.entries x.more y.more);
  closed = λ t k s. y.closed t (task_on a b t x k) (x.closed t k s);
  commits = let m = x.commits in let n = y.commits in omega (arith, m, n);
}

pub broken_same : (old new : Held) → NoneTaken old → new ≡ old → LacksMemory old new
broken_same old new free e = subst (λ (h : Held). LacksMemory old h) (sym e) (continues_still old, free, refl)
