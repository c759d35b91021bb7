use Rattle.std.proofs.Common.{◌≡◌, ◌^◌, ◌<◌, ◌++◌, List, length, ap, subst, arith, length-append}
use Rattle.word_text.specs.declared.spell.Task.{Task}
use Rattle.word_text.specs.Program.{word_of}
use Rattle.word_text.specs.Spell.{told, AreBelow}
use Rattle.word_text.proofs.Spelling.{written_on, lighter_on, below_on, power_some}
use Rattle.word_text.proofs.spell.spelled.Goals as goal

pub loop-task-smaller-in-Continue-branch-3 : goal.loop-task-smaller-in-Continue-branch-3
loop-task-smaller-in-Continue-branch-3 c =
    let s = c.in-Some-line.ensures.earlier in
    let l = lighter_on c.in-Some.task.inverted c.in-Some-line.line c.in-Some.task.word c.pop_front.new.self.items s.0 s.1 in
    rw (c.in-Some.ensures.items, c.in_ok-write.ensures.tasks) l

pub loop-task-preserved-in-Continue-branch-3 : goal.loop-task-preserved-in-Continue-branch-3
loop-task-preserved-in-Continue-branch-3 c =
    let words = c.args.program.now in
    let old = c.loop-task.invariant in
    let held = subst (λ (l : List Task). AreBelow (length words) l) c.in-Some.ensures.items old.below in
    let whole = subst (λ (l : List Task). c.loop-task.letters.items ++ told words l ≡ word_of words c.args.word) c.in-Some.ensures.items old.so_far in
    record {
      so_far = rw (
        c.in_ok-write.ensures.letters,
        c.in_ok-write.ensures.tasks,
        written_on words c.in-Some.task.inverted c.in-Some-line.line c.in-Some.task.word c.loop-task.letters.items c.pop_front.new.self.items
            c.in-Some-line.ensures.word,
      ) whole;
      below = rw (c.in_ok-write.ensures.tasks) (below_on (length words) c.in-Some.task.word c.in-Some.task.inverted c.in-Some-line.line
          c.pop_front.new.self.items held.0 c.in-Some-line.ensures.earlier.1 held.1);
    }

pub loop-task-smaller : goal.loop-task-smaller
loop-task-smaller c =
    let p : 0 < 4294967296 ^ c.in-Some.task.word = power_some c.in-Some.task.word in
    rw (c.in-Some.ensures.items) (omega arith)

pub of-requires : goal.of-requires
of-requires c =
    let same = ap length c.loop-task.invariant.so_far in
    omega (arith, c.letters_of.ensures, c.letters_of.type_inv, simp length-append at same)
