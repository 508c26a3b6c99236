use Rattle.std.proofs.Common.{◌≡◌, ◌∙◌, ◌+◌, ℕ, suc, length, get_or, subst, ap, arith}
use Rattle.std.proofs.lemmas.Option.{slice_get_within}
use Rattle.mc_mol.specs.declared.parts.HalfEdge.{HalfEdge}
use Rattle.mc_rings.specs.Distances.{Step}
use Rattle.mc_mol.specs.HalfEdges.{half_edges}
use Rattle.mc_rings.specs.Levels.{Reaches}
use Rattle.mc_rings.proofs.Levels.{half_at, half_edge_joined, follow_barred, follow_reached, reaches_total, explored_all}
use Rattle.mc_rings.proofs.search.Search.explore.Goals as goal

blank : HalfEdge
blank = record { bond = record { 0 = 0 }; to = record { 0 = 0 }; twin = 0 }

pub loop-half-preserved-then-is_along : goal.loop-half-preserved-then-is_along
unfolding blank
loop-half-preserved-then-is_along c =
    let inv = c.loop-half.invariant in
    let i = c.loop-half.half-index in
    let here = half_at c.args.mol.now c.args.atom c.bonds_of-half-items.result.now i blank inv.halves c.loop-half-test.true in
    let along = c.is_along.ensures.0 c.if-is_along.true in
    record {
      halves = inv.halves;
      twins = inv.twins;
      count = inv.count;
      kept = inv.kept;
      total = inv.total;
      state = λ current between at. follow_barred c.args.mol.now c.args.bond.first.0 c.args.bond.second.0 c.args.level current c.args.atom.0 c.loop-half.self.marks.items
          c.loop-half.self.next.items i _ here along.0 along.1 (inv.state current between at);
    }

pub reach-requires : goal.reach-requires
unfolding blank
reach-requires c =
    let inv = c.loop-half.invariant in
    let here = half_at c.args.mol.now c.args.atom c.bonds_of-half-items.result.now c.loop-half.half-index blank inv.halves c.loop-half-test.true in
    let twin = inv.twins c.loop-half.half-index _ here in
    omega (arith, twin.to, inv.count, c.requires.count)

pub loop-half-preserved : goal.loop-half-preserved
unfolding blank
loop-half-preserved c =
    let inv = c.loop-half.invariant in
    let i = c.loop-half.half-index in
    let here = half_at c.args.mol.now c.args.atom c.bonds_of-half-items.result.now i blank inv.halves c.loop-half-test.true in
    let twin = inv.twins i _ here in
    let step : Step c.args.mol.now.bonds c.args.bond.first.0 c.args.bond.second.0 c.args.atom.0 (get_or c.bonds_of-half-items.result.now i blank).to.0 = record {
      joined = half_edge_joined c.args.mol.now c.args.atom i _ twin;
      not_barred = λ x_is y_is. let both = c.is_along.ensures.1 (x_is, y_is) in let not_along = c.if-is_along.false in cc;
    } in
    let one : c.args.level + 1 ≡ suc c.args.level = omega arith in
    let reached = subst (λ (n : ℕ). Reaches c.loop-half.self.marks.items c.loop-half.self.next.items c.reach.new.self.marks.items c.reach.new.self.next.items
    (get_or c.bonds_of-half-items.result.now i blank).to n) one c.in_ok-reach.ensures.reached in
    record {
      halves = inv.halves;
      twins = inv.twins;
      count = c.reach.ensures.count ∙ inv.count;
      kept = λ a d at. c.reach.ensures.kept a d (inv.kept a d at);
      total = reaches_total c.loop-half.self.marks.items c.reach.new.self.marks.items c.loop-half.self.next.items c.reach.new.self.next.items _ _ reached ∙ inv.total;
      state = λ current between at. follow_reached c.args.mol.now c.args.bond.first.0 c.args.bond.second.0 c.args.level current c.args.atom.0 c.loop-half.self.marks.items
          c.loop-half.self.next.items i _ c.reach.new.self.marks.items c.reach.new.self.next.items here step reached (inv.state current between at);
    }

pub returns-clause-done : goal.returns-clause-done
returns-clause-done c current between at =
    let inv = c.loop-half.invariant in
    let f = inv.state current between at in
    let count = ap length inv.halves in
    let past = c.loop-half-test.false in
    record {
      between = f.between;
      explored = explored_all c.args.mol.now c.args.bond.first.0 c.args.bond.second.0 c.args.level c.args.atom.0 c.loop-half.self.marks.items f.at
          (λ k half there step. f.followed k half (let within = slice_get_within (half_edges c.args.mol.now c.args.atom.0) k half there in omega arith) there step);
    }
