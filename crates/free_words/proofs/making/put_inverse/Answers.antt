use Rattle.std.proofs.Common.{rules}
use Rattle.std.proofs.lemmas.Iterator.{YieldsList-from_map}
use Rattle.std.proofs.lemmas.Iterator.Adapters.{items_from_extend, YieldsList-from_rev_slice}
use Rattle.std.proofs.lemmas.Iterator.Consumers.{YieldsList-at}
use Rattle.free_words.specs.Words.{flipped}
use Rattle.free_words.proofs.making.put_inverse.Goals as goal

-- What is put at the end is what the chain gives.
pub returns : goal.returns
returns c =
    let slice = YieldsList-at c.map.ensures.source (YieldsList-from_rev_slice {s = c.rev.result} c.args.u.now cc) in
    let all = items_from_extend c.extend.result c.extend.ensures.ran (YieldsList-from_map _ flipped slice c.map.ensures.closure (λ x r q k. search rules)) in
    search rules
