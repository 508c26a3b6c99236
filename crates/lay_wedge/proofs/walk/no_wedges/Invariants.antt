use Rattle.std.proofs.Common.{◌≡◌, ◌++◌, map, drop}
use Rattle.mc_mol.specs.declared.parts.Bond.{Bond}
use Rattle.lay_wedge.specs.Plans.{plain}
use Rattle.lay_wedge.proofs.walk.no_wedges.Given as goal

abbrev pub invariant-loop-bond : goal.invariant-loop-bond
invariant-loop-bond l = l.wedges.items ++ map (λ (bond : Bond). plain bond) (drop l.bond-index l.mol.bonds) ≡ map (λ (bond : Bond). plain bond) l.mol.bonds
