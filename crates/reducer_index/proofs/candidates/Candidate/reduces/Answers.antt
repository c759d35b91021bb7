use Rattle.std.proofs.Common.{arith, ◌≡◌, bit_and}
use Rattle.std.proofs.lemmas.Bool.Decides.{nat_tests}
use Rattle.reducer_index.proofs.Searching.{mask_passes}
use Rattle.reducer_index.proofs.candidates.Candidate.reduces.Goals as goal

pub returns-then-self-mask : goal.returns-then-self-mask
returns-then-self-mask c = (
  λ yes. absurd cc,
  λ reducing.
      let same : bit_and c.args.self.now.mask c.args.mask ≡ c.args.self.now.mask =
      mask_passes c.args.leads.now c.args.at.now c.args.self.now c.args.mask c.requires.candidate c.requires.mask reducing in
      let other = c.if-self-mask.true in
      grind (arith, nat_tests),
)
