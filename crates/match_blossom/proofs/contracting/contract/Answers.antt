use Rattle.std.proofs.Common.{arith, ap, sym, ◌∙◌, ◌++◌, reverse, ℕ, List}
use Rattle.match_blossom.specs.declared.tree.AlternatingTree.{AlternatingTree}
use Rattle.match_blossom.specs.Labels.{is_outer}
use Rattle.match_blossom.specs.Forest.{base_in}
use Rattle.match_blossom.proofs.Meeting.{round, round_length}
use Rattle.match_blossom.proofs.Contracts.{cycle_of_ways, cycle_fits}
use Rattle.match_blossom.proofs.Written.{SecondWritten, BothWritten, second_written, first_way, first_fits, both_written, contracts_ways}
use Rattle.match_blossom.proofs.Shortening.{bases_shortened, goes_on_shortened, step_after}
use Rattle.match_blossom.proofs.contracting.contract.Goals as goal

pub meeting_base-base-requires-clause-first_outer : goal.meeting_base-base-requires-clause-first_outer
meeting_base-base-requires-clause-first_outer c = ap (is_outer c.args.tree.now.labels.items) (c.base_of-a.ensures.base (base_in c.args.tree.now) c.requires.forest.points) ∙ c.requires.first_outer

pub meeting_base-base-requires-clause-second_outer : goal.meeting_base-base-requires-clause-second_outer
meeting_base-base-requires-clause-second_outer c = ap (is_outer c.args.tree.now.labels.items) (c.base_of-b.ensures.base (base_in c.args.tree.now) c.requires.forest.points) ∙ c.requires.second_outer

pub push_way-middle-requires-clause-way : goal.push_way-middle-requires-clause-way
push_way-middle-requires-clause-way c =
    let g = c.args.graph.now in
    let mates : List ℕ = c.args.mates.now in
    let old : AlternatingTree = c.args.tree.now in
    let f : AlternatingTree = c.meeting_base-base.new.tree in
    let short = c.meeting_base-base.ensures.shortened in
    let u : ℕ = c.args.u in
    let v : ℕ = c.args.v in
    let a : ℕ = c.base_of-a.result in
    let b : ℕ = c.base_of-b.result in
    let base : ℕ = c.meeting_base-base.result in
    let forest = c.meeting_base-base.ensures.forest in
    let a_is = c.base_of-a.ensures.base (base_in old) c.requires.forest.points ∙ sym (bases_shortened old f u short) in
    let b_is = c.base_of-b.ensures.base (base_in old) c.requires.forest.points ∙ sym (bases_shortened old f v short) in
    let m = c.meeting_base-base.ensures.ways in
    let cycle = cycle_of_ways g mates f a b base u v m.0 m.1 c.node_count-nodes.ensures.graph forest c.requires.edge a_is b_is m.2 in
    let fits = cycle_fits g mates f base (round m.0 m.1) forest cycle in
    let sum = round_length m.0 m.1 in
    let room = forest.room.top in
    (m.1, m.2.second_way, omega arith)

-- the second way stands on the stack
second : (c : goal.After-push_way-arg-2-1) → SecondWritten c.args.graph.now c.args.mates.now c.meeting_base-base.new.tree (record c.push_way-middle.new.tree { cycles = c.turn_round.new.self }) c.push_way-middle.result c.meeting_base-base.ensures.ways.1
second c =
    let g = c.args.graph.now in
    let mates : List ℕ = c.args.mates.now in
    let old : AlternatingTree = c.args.tree.now in
    let f : AlternatingTree = c.meeting_base-base.new.tree in
    let short = c.meeting_base-base.ensures.shortened in
    let u : ℕ = c.args.u in
    let v : ℕ = c.args.v in
    let a : ℕ = c.base_of-a.result in
    let b : ℕ = c.base_of-b.result in
    let base : ℕ = c.meeting_base-base.result in
    let forest = c.meeting_base-base.ensures.forest in
    let a_is = c.base_of-a.ensures.base (base_in old) c.requires.forest.points ∙ sym (bases_shortened old f u short) in
    let b_is = c.base_of-b.ensures.base (base_in old) c.requires.forest.points ∙ sym (bases_shortened old f v short) in
    let m = c.meeting_base-base.ensures.ways in
    second_written g mates f c.push_way-middle.new.tree c.turn_round.new.self c.push_way-middle.result b base m.1 forest m.2.second_way c.push_way-middle.ensures.way c.push_way-middle.ensures.rest c.push_way-middle.ensures.length c.turn_round.ensures.rest c.turn_round.ensures.nodes c.turn_round.ensures.length

pub push_way-top-requires-clause-forest : goal.push_way-top-requires-clause-forest
push_way-top-requires-clause-forest c = (second c).forest

pub push_way-top-requires-clause-way : goal.push_way-top-requires-clause-way
push_way-top-requires-clause-way c =
    let g = c.args.graph.now in
    let mates : List ℕ = c.args.mates.now in
    let old : AlternatingTree = c.args.tree.now in
    let f : AlternatingTree = c.meeting_base-base.new.tree in
    let short = c.meeting_base-base.ensures.shortened in
    let u : ℕ = c.args.u in
    let v : ℕ = c.args.v in
    let a : ℕ = c.base_of-a.result in
    let b : ℕ = c.base_of-b.result in
    let base : ℕ = c.meeting_base-base.result in
    let forest = c.meeting_base-base.ensures.forest in
    let a_is = c.base_of-a.ensures.base (base_in old) c.requires.forest.points ∙ sym (bases_shortened old f u short) in
    let b_is = c.base_of-b.ensures.base (base_in old) c.requires.forest.points ∙ sym (bases_shortened old f v short) in
    let m = c.meeting_base-base.ensures.ways in
    let one = second c in (
      m.0,
      first_way g mates f (record c.push_way-middle.new.tree { cycles = c.turn_round.new.self }) c.push_way-middle.result a base m.0 m.1 one m.2.first_way,
      first_fits g mates f (record c.push_way-middle.new.tree { cycles = c.turn_round.new.self }) a b base c.push_way-middle.result u v m.0 m.1 c.node_count-nodes.ensures.graph forest c.requires.edge a_is b_is m.2 one,
    )

-- both ways stand on the stack
both : (c : goal.After-absorb-arg-1) → BothWritten c.args.graph.now c.args.mates.now c.meeting_base-base.new.tree c.push_way-top.new.tree c.meeting_base-base.result c.push_way-top.result
    (reverse c.meeting_base-base.ensures.ways.0 ++ c.meeting_base-base.ensures.ways.1)
both c =
    let g = c.args.graph.now in
    let mates : List ℕ = c.args.mates.now in
    let old : AlternatingTree = c.args.tree.now in
    let f : AlternatingTree = c.meeting_base-base.new.tree in
    let short = c.meeting_base-base.ensures.shortened in
    let u : ℕ = c.args.u in
    let v : ℕ = c.args.v in
    let a : ℕ = c.base_of-a.result in
    let b : ℕ = c.base_of-b.result in
    let base : ℕ = c.meeting_base-base.result in
    let forest = c.meeting_base-base.ensures.forest in
    let a_is = c.base_of-a.ensures.base (base_in old) c.requires.forest.points ∙ sym (bases_shortened old f u short) in
    let b_is = c.base_of-b.ensures.base (base_in old) c.requires.forest.points ∙ sym (bases_shortened old f v short) in
    let m = c.meeting_base-base.ensures.ways in
    let one = second_written g mates f c.push_way-middle.new.tree c.turn_round.new.self c.push_way-middle.result b base m.1 forest m.2.second_way c.push_way-middle.ensures.way c.push_way-middle.ensures.rest c.push_way-middle.ensures.length c.turn_round.ensures.rest c.turn_round.ensures.nodes c.turn_round.ensures.length in
    both_written g mates f (record c.push_way-middle.new.tree { cycles = c.turn_round.new.self }) c.push_way-top.new.tree a b base c.push_way-middle.result c.push_way-top.result u v m.0 m.1 c.node_count-nodes.ensures.graph forest c.requires.edge a_is b_is m.2 one c.push_way-top.ensures.way c.push_way-top.ensures.rest c.push_way-top.ensures.length

pub absorb-requires-clause-from : goal.absorb-requires-clause-from
absorb-requires-clause-from c = (both c).some

pub absorb-requires-clause-few : goal.absorb-requires-clause-few
absorb-requires-clause-few c = let few = (both c).few in let count = c.node_count-nodes.ensures.count in let fits = c.node_count-nodes.type_inv in omega arith

pub absorb-requires-clause-height : goal.absorb-requires-clause-height
absorb-requires-clause-height c = (both c).height

pub absorb-requires-clause-queue : goal.absorb-requires-clause-queue
absorb-requires-clause-queue c = (both c).queue

pub absorb-requires-clause-nodes : goal.absorb-requires-clause-nodes
absorb-requires-clause-nodes c = (both c).nodes

pub returns : goal.returns
returns c =
    let g = c.args.graph.now in
    let mates : List ℕ = c.args.mates.now in
    let old : AlternatingTree = c.args.tree.now in
    let f : AlternatingTree = c.meeting_base-base.new.tree in
    let short = c.meeting_base-base.ensures.shortened in
    let u : ℕ = c.args.u in
    let v : ℕ = c.args.v in
    let a : ℕ = c.base_of-a.result in
    let b : ℕ = c.base_of-b.result in
    let base : ℕ = c.meeting_base-base.result in
    let forest = c.meeting_base-base.ensures.forest in
    let a_is = c.base_of-a.ensures.base (base_in old) c.requires.forest.points ∙ sym (bases_shortened old f u short) in
    let b_is = c.base_of-b.ensures.base (base_in old) c.requires.forest.points ∙ sym (bases_shortened old f v short) in
    let m = c.meeting_base-base.ensures.ways in
    let one = second_written g mates f c.push_way-middle.new.tree c.turn_round.new.self c.push_way-middle.result b base m.1 forest m.2.second_way c.push_way-middle.ensures.way c.push_way-middle.ensures.rest c.push_way-middle.ensures.length c.turn_round.ensures.rest c.turn_round.ensures.nodes c.turn_round.ensures.length in
    let both = both_written g mates f (record c.push_way-middle.new.tree { cycles = c.turn_round.new.self }) c.push_way-top.new.tree a b base c.push_way-middle.result c.push_way-top.result u v m.0 m.1 c.node_count-nodes.ensures.graph forest c.requires.edge a_is b_is m.2 one c.push_way-top.ensures.way c.push_way-top.ensures.rest c.push_way-top.ensures.length in
    step_after g mates old f c.absorb.new.tree u v (goes_on_shortened g old f short)
    (contracts_ways g mates f c.push_way-top.new.tree c.absorb.new.tree a b base c.push_way-top.result u v m.0 m.1 c.node_count-nodes.ensures.graph forest c.requires.edge a_is b_is
    (λ e. c.requires.different (sym (bases_shortened old f u short) ∙ e ∙ bases_shortened old f v short)) m.2 both c.absorb.ensures)
