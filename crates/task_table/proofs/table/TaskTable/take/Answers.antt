use Rattle.task_table.proofs.table.TaskTable.take.Goals as goal

pub returns-in-ByNumber : goal.returns-in-ByNumber
returns-in-ByNumber g c = c.take_by_number.ensures (g.L.VecList.vectors c.args.list.now)

pub returns-in-ByCost : goal.returns-in-ByCost
returns-in-ByCost g c = c.take_by_cost.ensures (g.L.VecList.vectors c.args.list.now) c.requires
