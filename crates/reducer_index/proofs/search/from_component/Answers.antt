use Rattle.std.proofs.Common.{rules, nat_lt}
use Rattle.std.proofs.lemmas.List.Sorted.{IsPartitionPoint-from_clause}
use Rattle.reducer_index.specs.declared.candidates.Candidate.{Candidate}
use Rattle.reducer_index.proofs.Searching.{component_partitioned, begins_at}
use Rattle.reducer_index.proofs.search.from_component.Goals as goal

pub returns : goal.returns
returns c =
    let xs = c.args.candidates.now in
    let parted = component_partitioned c.args.c xs c.requires in
    let point = IsPartitionPoint-from_clause (λ (x : Candidate). nat_lt x.component c.args.c) _ _ c.partition_point-start.ensures.partitioned parted
    (λ a r q k. search rules) in
    begins_at c.args.c xs c.split_at.result.1.now c.partition_point-start.result c.partition_point-start.ensures.bound c.split_at.ensures.back point.0 point.1
