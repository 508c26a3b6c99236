-- Without a wedge each centre has its two bonds.
use Rattle.std.proofs.Common.{◌∙◌, ℕ, Bool, false, List, None, map, sym, ap, subst}
use Rattle.std.specs.Prelude.{replicate}
use Rattle.mc_mol.specs.declared.parts.Bond.{Bond}
use Rattle.ct_geometry.specs.declared.wedge.Wedge.{Wedge}
use Rattle.lay_wedge.specs.Plans.{plain}
use Rattle.lay_wedge.specs.Underway.{Underway}
use Rattle.lay_wedge.proofs.Started.{started}
use Rattle.lay_wedge.proofs.walk.Walk.new.Goals as goal

pub returns : goal.returns
returns c =
    let m = c.args.mol.now in
    let drawing = c.args.drawing.now in
    let none = c.in_ok-planned.ensures.items_if_clones_equal (λ y h. h) ∙ ap (λ (n : ℕ). replicate n false) c.requires.atoms in
    subst (λ (ws : List Wedge). Underway m drawing ws c.in_ok-planned.planned.items None) (sym c.in_ok-wedges.ensures)
    (subst (λ (ps : List Bool). Underway m drawing (map (λ (bond : Bond). plain bond) m.bonds) ps None) (sym none) (started m drawing c.requires.plannable))
