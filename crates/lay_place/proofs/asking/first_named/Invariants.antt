use Rattle.std.proofs.Common.{◌≡◌, ◌==◌, not, filter, drop}
use Rattle.mc_mol.specs.declared.parts.HalfEdge.{HalfEdge as Leading}
use Rattle.lay_place.specs.Wanted.{first_named}
use Rattle.lay_place.proofs.asking.first_named.Given as goal

abbrev pub invariant-loop-half : goal.invariant-loop-half
invariant-loop-half l = first_named (filter (λ (half : Leading). not (half.bond.0 == l.k.0)) (drop l.half-index l.halves)) ≡ first_named (filter (λ (half : Leading). not (half.bond.0 == l.k.0)) l.halves)
