-- One more centre has its wedge.
use Rattle.std.proofs.Common.{◌≡◌, true, Some, slice_get, sym, subst}
use Rattle.mc_mol.specs.declared.parts.HalfEdge.{HalfEdge}
use Rattle.mc_mol.specs.HalfEdges.{half_edges}
use Rattle.lay_wedge.specs.Underway.{is_free, may_serve, number}
use Rattle.lay_wedge.proofs.Giving.{Gift, after}
use Rattle.lay_wedge.proofs.walk.Walk.give.Goals as goal

pub returns-clause-underway : goal.returns-clause-underway
returns-clause-underway c =
    let m = c.args.mol.now in
    let drawing = c.args.drawing.now in
    let a = c.args.a.0 in
    let found = c.free_half-half.ensures in
    let half = c.free_half-half.result in
    let gift : Gift m drawing c.args.self.now.wedges.items c.args.self.now.planned.items a half c.mark_for-mark.result = record {
      state = c.requires.underway;
      plannable = c.requires.plannable;
      place = found.0;
      is_half = subst (λ (h : HalfEdge). slice_get (half_edges m a) found.0 ≡ Some h) (sym found.2) found.1.is_half;
      serves = subst (λ (h : HalfEdge). may_serve m drawing a h ≡ true) (sym found.2) found.1.serves;
      free = subst (λ (h : HalfEdge). is_free c.args.self.now.wedges.items h.bond.0 ≡ true) (sym found.2) found.1.free;
      marked = c.mark_for-mark.ensures.marked;
      even = c.mark_for-mark.ensures.even;
    } in
    after m drawing c.args.self.now.wedges.items c.args.self.now.planned.items a half c.mark_for-mark.result gift (number c.next_of.result) c.next_of.ensures
