use Rattle.std.proofs.Common.{arith, ap, refl, ◌≢◌, ◌<◌, ◌+◌, ℕ, List, length, subst}
use Rattle.basis_entry.specs.Entries.{BasisEntry}
use Rattle.pair_book.specs.Fellows.{component_at, FindsLast}
use Rattle.pair_book.specs.Chaining.{AreChainedFrom, done_from}
use Rattle.pair_book.proofs.Dues.{chain_step, entries_same}
use Rattle.pair_book.proofs.Walking.{walk_start, walk_on, walk_end, fellow_found, at_entries, in_hand, goes_down}
use Rattle.pair_book.proofs.book.Book.chain.Goals as goal

pub loop-third-init : goal.loop-third-init
loop-third-init c =
    let mid = c.args.self.now in
    let n = length mid.entries in
    let found = c.last_fellow-third.ensures in
    let own = component_at mid.entries c.args.a in
    record {
      chained = walk_on mid mid c.args.a c.args.b n own c.last_fellow-third.result refl found (walk_start mid c.args.a c.args.b);
      entries = refl;
      fellow = fellow_found mid c.args.a n own c.last_fellow-third.result refl (omega arith) found;
    }

pub chain_at-requires-clause-third : goal.chain_at-requires-clause-third
chain_at-requires-clause-third c =
    let own = in_hand c.args.self.now.entries c.args.a c.in-Some.x c.loop-third.third c.in-Some.is c.loop-third.invariant.fellow in
    let w = own.0 in omega (arith, w, c.loop-third.invariant.entries)

pub fellow_before-third-requires : goal.fellow_before-third-requires
fellow_before-third-requires c =
    let own = in_hand c.args.self.now.entries c.args.a c.in-Some.x c.loop-third.third c.in-Some.is c.loop-third.invariant.fellow in
    let same = ap length (at_entries c.loop-third.self c.chain_at.new.self c.args.a c.args.b c.in-Some.x c.chain_at.ensures.chained) in
    let w = own.0 in omega (arith, w, same, c.loop-third.invariant.entries)

pub loop-third-smaller : goal.loop-third-smaller
loop-third-smaller c =
    let es = c.chain_at.new.self.entries in
    let lower = goes_down (component_at es) c.in-Some.x (component_at es c.in-Some.x) c.fellow_before-third.result c.fellow_before-third.ensures in
    let at = ap done_from c.in-Some.is in omega (arith, lower, at)

pub loop-third-preserved : goal.loop-third-preserved
loop-third-preserved c =
    let mid = c.args.self.now in
    let a = c.args.a in
    let b = c.args.b in
    let x = c.in-Some.x in
    let new = c.chain_at.new.self in
    let next = c.fellow_before-third.result in
    let own = in_hand mid.entries a x c.loop-third.third c.in-Some.is c.loop-third.invariant.fellow in
    let done : AreChainedFrom (x + 1) mid a b c.loop-third.self =
    subst (λ (n : ℕ). AreChainedFrom n mid a b c.loop-third.self) (ap done_from c.in-Some.is) c.loop-third.invariant.chained in
    let ab : a ≢ b = omega (arith, c.requires.order) in
    let la : a < length mid.entries = omega (arith, c.requires.order, c.requires.within) in
    let step : AreChainedFrom x mid a b new = chain_step x mid c.loop-third.self new a b c.chain_at.ensures.book ab la c.requires.within own.0 done
    c.chain_at.ensures.chained in
    let same = entries_same x mid new a b step in
    let found : FindsLast (component_at mid.entries) x (component_at mid.entries x) next =
    subst (λ (es : List BasisEntry). FindsLast (component_at es) x (component_at es x) next) same c.fellow_before-third.ensures in
    record {
      chained = walk_on mid new a b x (component_at mid.entries x) next own.1 found step;
      entries = ap length same;
      fellow = let w = own.0 in fellow_found mid a x (component_at mid.entries x) next own.1 (omega (arith, w)) found;
    }

pub returns : goal.returns
returns c = walk_end c.args.self.now c.loop-third.self c.args.a c.args.b
    (subst (λ (n : ℕ). AreChainedFrom n c.args.self.now c.args.a c.args.b c.loop-third.self) (ap done_from c.in_default.is) c.loop-third.invariant.chained)
