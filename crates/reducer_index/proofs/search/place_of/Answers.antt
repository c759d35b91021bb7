use Rattle.std.proofs.Common.{rules}
use Rattle.std.proofs.lemmas.List.Sorted.{IsPartitionPoint-from_clause}
use Rattle.reducer_index.specs.Candidates.{stands_before}
use Rattle.reducer_index.proofs.Searching.{place_partitioned, placed}
use Rattle.reducer_index.proofs.search.place_of.Goals as goal

pub returns-clause-order : goal.returns-clause-order
returns-clause-order c =
    let xs = c.args.candidates.now in
    let new = c.args.new.now in
    let parted = place_partitioned new xs c.requires.order in
    let point = IsPartitionPoint-from_clause (stands_before new) _ _ c.partition_point.ensures.partitioned parted (λ a r q k. search rules) in
    placed new xs c.partition_point.result c.requires.order c.requires.later c.partition_point.ensures.bound point.0 point.1
