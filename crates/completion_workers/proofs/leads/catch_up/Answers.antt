use Rattle.std.proofs.Common.{rules, arith, ◌≡◌, ◌+◌, ◌++◌, ◌∷◌, [], length, length-append, take, sym, ap, subst, List}
use Rattle.std.specs.Prelude.{Some, slice_get}
use Rattle.module_vec.specs.declared.places.Term.{Term}
use Rattle.basis_entry.specs.Entries.{vectors_of}
use Rattle.basis_log.specs.Items.{entries_of}
use Rattle.reducer_index.specs.Leads.{AreLeads}
use Rattle.reducer_index.proofs.Leading.{taken_more}
use Rattle.completion_workers.proofs.leads.catch_up.Goals as goal

pub loop-at-preserved : goal.loop-at-preserved
loop-at-preserved c =
    let vs : List (List Term) = vectors_of (entries_of c.args.seat.now.items) in
    let lead : Term = c.index-terms-0.result in
    let pushed : c.push.new.self ≡ c.loop-at.index ++ lead ∷ [] = search rules in
    let first : slice_get c.vector.result.now 0 ≡ Some lead = search rules in
    record {
      are = subst (AreLeads (take (c.loop-at.at + 1) vs)) (sym pushed)
          (taken_more vs c.loop-at.at c.loop-at.index c.vector.result.now lead (search rules) first c.loop-at.invariant.are);
      count = omega (arith, ap length pushed, length-append c.loop-at.index (lead ∷ []), c.loop-at.invariant.count);
    }
