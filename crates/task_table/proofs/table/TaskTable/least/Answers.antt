use Rattle.task_table.proofs.table.TaskTable.least.Goals as goal

pub returns-in-ByNumber : goal.returns-in-ByNumber
returns-in-ByNumber g c = c.least_by_number.ensures (g.L.VecList.vectors c.args.list.now)

pub returns-in-ByCost : goal.returns-in-ByCost
returns-in-ByCost g c = c.least_by_cost.ensures (g.L.VecList.vectors c.args.list.now) c.requires
