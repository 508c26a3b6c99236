use Rattle.std.proofs.Common.{arith}
use Rattle.std.proofs.lemmas.Option.{slice_get_within, slice_get-get_or}
use Rattle.mc_mol.specs.declared.parts.HalfEdge.{HalfEdge}
use Rattle.mc_mol.proofs.Forests.{free_here, all_but_one, none_free}
use Rattle.mc_mol.proofs.forest.Forest.unfound_neighbour.Goals as goal

blank : HalfEdge
blank = record { bond = record { 0 = 0 }; to = record { 0 = 0 }; twin = 0 }

pub index-requires : goal.index-requires
unfolding blank
index-requires c =
    let here = slice_get-get_or c.half_edges-half-items.result.now c.loop-half.half-index blank c.loop-half-test.true in
    let leads = c.loop-half.invariant.lead c.loop-half.half-index _ here in
    omega (arith, leads.0, c.requires.count)

pub returns-in-None-clause-free : goal.returns-in-None-clause-free
unfolding blank
returns-in-None-clause-free c =
    let here = slice_get-get_or c.half_edges-half-items.result.now c.loop-half.half-index blank c.loop-half-test.true in
    let leads = c.loop-half.invariant.lead c.loop-half.half-index _ here in
    free_here c.args.self.now.places.items _ c.index.result.now (omega (arith, leads.0, c.requires.count)) c.index.ensures c.in-None.is

pub returns-in-None-clause-joined : goal.returns-in-None-clause-joined
unfolding blank
returns-in-None-clause-joined c =
    let here = slice_get-get_or c.half_edges-half-items.result.now c.loop-half.half-index blank c.loop-half-test.true in
    (c.loop-half.invariant.lead c.loop-half.half-index _ here).1

pub loop-half-preserved : goal.loop-half-preserved
unfolding blank
loop-half-preserved c =
    let inv = c.loop-half.invariant in
    let here = slice_get-get_or c.half_edges-half-items.result.now c.loop-half.half-index blank c.loop-half-test.true in
    let leads = inv.lead c.loop-half.half-index _ here in
    record {
      halves = inv.halves;
      lead = inv.lead;
      found = all_but_one c.half_edges-half-items.result.now c.args.self.now.places.items c.loop-half.half-index _ c.index.result.now c.in_default.field-0 here
          (omega (arith, leads.0, c.requires.count)) c.index.ensures c.in_default.is inv.found;
    }

pub returns-clause-none : goal.returns-clause-none
returns-clause-none c e =
    let inv = c.loop-half.invariant in
    none_free c.args.graph.now.bonds c.args.atom c.half_edges-half-items.result.now c.args.self.now.places.items inv.halves c.requires.found
    (λ k half there free. inv.found k half (let within = slice_get_within c.half_edges-half-items.result.now k half there in
    let past = c.loop-half-test.false in omega arith) there free)
