use Rattle.std.proofs.Common.{arith, rules, ◌≡◌, ◌≢◌, get_or, pos}
use Rattle.std.proofs.lemmas.Bool.Decides.{nat_tests}
use Rattle.reducer_index.specs.declared.candidates.Candidate.{Candidate}
use Rattle.reducer_index.specs.Candidates.{IsReducing}
use Rattle.reducer_index.proofs.Searching.{any_default, all_passed, found_here}
use Rattle.reducer_index.proofs.search.first_reducer.Goals as goal

-- the candidate that the code reads past the end
past : Candidate
past = record { coefficient = pos 0; mask = 0; number = 0; component = 0 }

pub returns-then-x-at : goal.returns-then-x-at
unfolding past
returns-then-x-at c =
    let xs = c.args.candidates.now in
    let i = c.loop-x.x-index in
    let x : Candidate = get_or xs i past in
    let read : x ≡ get_or xs i x = any_default xs i past x c.loop-x-test.true in
    let other : x.component ≢ c.args.at.now.c = search (rules, nat_tests) in
    all_passed c.args.leads.now c.args.front c.args.at.now xs i x c.loop-x-test.true read c.loop-x.invariant c.requires.candidates c.requires.order
    c.requires.component other

pub returns-then-reduces : goal.returns-then-reduces
unfolding past
returns-then-reduces c =
    let xs = c.args.candidates.now in
    let i = c.loop-x.x-index in
    let x : Candidate = get_or xs i past in
    let read : x ≡ get_or xs i x = any_default xs i past x c.loop-x-test.true in
    let reducing : IsReducing c.args.leads.now c.args.at.now x = search rules in
    found_here c.args.leads.now c.args.front c.args.at.now xs i x c.loop-x-test.true read c.loop-x.invariant c.requires.order (search (rules, arith)) reducing
