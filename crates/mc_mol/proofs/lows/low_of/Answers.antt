use Rattle.std.proofs.Common.{subst, sym, arith}
use Rattle.std.proofs.lemmas.Option.{slice_get-get_or}
use Rattle.mc_mol.specs.declared.parts.HalfEdge.{HalfEdge}
use Rattle.mc_mol.specs.Numbered.{Mark}
use Rattle.mc_mol.proofs.LeastPlaces.{low_begun, low_more, low_done}
use Rattle.mc_mol.proofs.lows.low_of.Goals as goal

blank : HalfEdge
blank = record { bond = record { 0 = 0 }; to = record { 0 = 0 }; twin = 0 }

pub loop-half-init : goal.loop-half-init
loop-half-init c =
    let at = c.requires.forest.all c.args.atom.0 c.requires.atom in
    record {
      halves = c.half_edges-half-items.ensures.value;
      lead = c.half_edges-half-items.ensures.lead;
      so_far = low_begun c.args.graph.now.bonds c.args.forest.now.places.items c.args.forest.now.parents.items c.args.atom.0 c.half_edges-half-items.result.now _
          (subst (λ k. Mark c.args.forest.now.places.items c.args.atom.0 k) (sym (c.place-low.ensures at.0 at.1)) at.1);
    }

pub half_low-next-requires-clause-next : goal.half_low-next-requires-clause-next
unfolding blank
half_low-next-requires-clause-next c =
    let here = slice_get-get_or c.half_edges-half-items.result.now c.loop-half.half-index blank c.loop-half-test.true in
    (c.loop-half.invariant.lead c.loop-half.half-index _ here).0

pub loop-half-preserved : goal.loop-half-preserved
unfolding blank
loop-half-preserved c =
    let inv = c.loop-half.invariant in
    let i = c.loop-half.half-index in
    let here = slice_get-get_or c.half_edges-half-items.result.now i blank c.loop-half-test.true in
    let leads = inv.lead i _ here in
    record {
      halves = inv.halves;
      lead = inv.lead;
      so_far = low_more c.args.graph.now.bonds _ _ c.args.forest.now.places.items c.args.forest.now.parents.items _ c.requires.forest c.args.atom.0 c.half_edges-half-items.result.now
          c.loop-half.low c.half_low-next.result c.lesser-low.result i _ leads.1 here c.lesser-low.ensures.first c.lesser-low.ensures.second c.lesser-low.ensures.either c.half_low-next.ensures
          inv.so_far;
    }

pub returns : goal.returns
returns c =
    let inv = c.loop-half.invariant in
    let past = c.loop-half-test.false in
    low_done c.args.graph.now.bonds _ _ c.args.forest.now.places.items c.args.forest.now.parents.items _ c.requires.forest c.args.atom.0 _ c.loop-half.half-index c.half_edges-half-items.result.now
    inv.halves (omega arith) inv.so_far
