use Rattle.std.proofs.Common.{arith, None, Some}
use Rattle.std.proofs.lemmas.List.{length-map}
use Rattle.basis_entry.specs.Entries.{BasisEntry}
use Rattle.basis_entry.proofs.Vectors.{are_entries}
use Rattle.basis_log.specs.Items.{entries_of}
use Rattle.basis_log.specs.Rows.{row_source}
use Rattle.basis_log.proofs.Logs.{counted}
use Rattle.basis_log.proofs.fronts.SeatVecList.count.Goals as goal

pub returns-in-Some-clause-is : goal.returns-in-Some-clause-is
returns-in-Some-clause-is c =
    let xs = c.args.self.now.items in
    let n = counted (row_source c.args.self.now.row) xs (Some c.in-Some.field-0.now) c.in-Some.ensures c.front-front.ensures.items in
    omega (arith, n, c.front-front.ensures.is, length-map (entries_of xs) (λ (e : BasisEntry). e.vector))

pub returns-in-Some-clause-entries : goal.returns-in-Some-clause-entries
returns-in-Some-clause-entries c = are_entries (entries_of c.args.self.now.items) c.front-front.ensures.entries

pub returns-in-None-clause-is : goal.returns-in-None-clause-is
returns-in-None-clause-is c =
    let xs = c.args.self.now.items in
    let n = counted (row_source c.args.self.now.row) xs None c.in-None.ensures c.front-front.ensures.items in
    omega (arith, n, c.front-front.ensures.is, length-map (entries_of xs) (λ (e : BasisEntry). e.vector))

pub returns-in-None-clause-entries : goal.returns-in-None-clause-entries
returns-in-None-clause-entries c = are_entries (entries_of c.args.self.now.items) c.front-front.ensures.entries
