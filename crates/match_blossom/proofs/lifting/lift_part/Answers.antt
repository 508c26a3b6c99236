use Rattle.std.proofs.Common.{arith, ◌≡◌, ◌∙◌, ◌-◌, drop, take, length, ℕ, List}
use Rattle.std.proofs.lemmas.Slice.{drop-put_mid}
use Rattle.std.proofs.lemmas.List.{length-take-le, length-drop}
use Rattle.match_blossom.proofs.lifting.lift_part.Goals as goal

pub returns-clause-behind : goal.returns-clause-behind
returns-clause-behind c =
    let nodes : List ℕ = c.args.nodes.now in
    let less = c.requires.some in
    let within = c.requires.within in
    let left = length-drop c.args.from nodes in
    let long : length (take (c.args.to - c.args.from) (drop c.args.from nodes)) ≡ c.args.to - c.args.from = length-take-le (c.args.to - c.args.from) (drop c.args.from nodes) (omega arith) in
    drop-put_mid c.args.from (c.args.to - c.args.from) nodes c.lift.new.cycle c.args.to (omega arith) (omega arith) (c.lift.auto.cycle ∙ long)
