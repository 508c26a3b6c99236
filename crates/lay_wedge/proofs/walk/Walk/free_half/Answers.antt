-- The half-edge that is found is free and may serve, and one of them is.
use Rattle.std.proofs.Common.{◌≡◌, ◌∙◌, ◌&&◌, true, false, List, Some, get_or, slice_get, sym, ap, subst, refl, arith}
use Rattle.std.proofs.lemmas.Bool.{and_from}
use Rattle.std.proofs.lemmas.Option.{slice_get_within, slice_get-get_or, get_or_from_slice_get}
use Rattle.mc_mol.specs.declared.parts.HalfEdge.{HalfEdge}
use Rattle.ct_geometry.specs.declared.wedge.Wedge.{Wedge}
use Rattle.lay_wedge.specs.Underway.{is_free, may_serve}
use Rattle.lay_wedge.proofs.walk.Walk.free_half.Goals as goal

abbrev no_half : HalfEdge
no_half = record { bond = record { 0 = 0 }; to = record { 0 = 0 }; twin = 0 }

pub returns-then-may_serve : goal.returns-then-may_serve
returns-then-may_serve c =
    let halves = c.bonds_of-halves.result.now in
    let i = c.loop-half.half-index in
    let half = get_or halves i no_half in (
      i,
      record {
        half = half;
        is_half = subst (λ (hs : List HalfEdge). slice_get hs i ≡ Some half) c.bonds_of-halves.ensures.value (slice_get-get_or halves i no_half c.loop-half-test.true);
        serves = sym c.may_serve.ensures ∙ c.if-may_serve.true;
        free = ap (λ (ws : List Wedge). is_free ws half.bond.0) (sym c.deref.ensures.value) ∙ (sym c.is_free.ensures ∙ c.if-is_free.true);
      },
      refl,
    )

pub unreachable-requires : goal.unreachable-requires
unreachable-requires c =
    let halves = c.bonds_of-halves.result.now in
    let place = c.requires.some.0 in
    let free = c.requires.some.1 in
    let at : slice_get halves place ≡ Some free.half = subst (λ (hs : List HalfEdge). slice_get hs place ≡ Some free.half) (sym c.bonds_of-halves.ensures.value) free.is_half in
    let low = slice_get_within halves place free.half at in
    let high = c.loop-half-test.false in
    let none = c.loop-half.invariant place no_half (omega arith) in
    let same : get_or halves place no_half ≡ free.half = get_or_from_slice_get halves place free.half no_half at in
    let passes : (is_free c.args.self.now.wedges.items free.half.bond.0 && may_serve c.args.mol.now c.args.drawing.now c.args.a.0 free.half) ≡ true = and_from (is_free c.args.self.now.wedges.items free.half.bond.0) (may_serve c.args.mol.now c.args.drawing.now c.args.a.0 free.half) free.free free.serves in
    let fails = subst (λ (h : HalfEdge). (is_free c.args.self.now.wedges.items h.bond.0 && may_serve c.args.mol.now c.args.drawing.now c.args.a.0 h) ≡ false) same none in
    cc
