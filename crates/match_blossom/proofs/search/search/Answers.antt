use Rattle.std.proofs.Common.{arith, subst, ◌≡◌, ℕ}
use Rattle.match_blossom.specs.Forest.{IsScanned}
use Rattle.match_blossom.proofs.search.search.Goals as goal

pub returns-clause-found : goal.returns-clause-found
returns-clause-found c =
    let was = c.loop-head.invariant in
    let tree = c.loop-head.tree in
    let low = was.head in
    let end = c.loop-head-test.false in
    let last : c.loop-head.head ≡ tree.queued = omega arith in
    (was.mates, was.forest, subst (λ (k : ℕ). IsScanned c.args.graph.now tree k) last was.scanned, was.lengths)
