use Rattle.std.proofs.Common.{rules, refl}
use Rattle.basis_entry.specs.Entries.{vectors_of}
use Rattle.basis_entry.proofs.Firsts.{vectors_counted, entries_counted}
use Rattle.report_text.proofs.showing.entries_below.Goals as goal

pub returns-clause-is : goal.returns-clause-is
returns-clause-is c = vectors_counted c.min.result c.args.front (vectors_of c.args.log.now.entries) c.args.log.now.entries refl (search rules)

pub returns-clause-entries : goal.returns-clause-entries
returns-clause-entries c = entries_counted c.args.front (vectors_of c.args.log.now.entries) c.args.log.now.entries refl c.count.ensures.entries
