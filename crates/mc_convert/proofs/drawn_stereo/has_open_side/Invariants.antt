use Rattle.std.proofs.Common.{◌≡◌, drop}
use Rattle.mc_convert.specs.SdRecords.{has_open_side}
use Rattle.mc_convert.proofs.drawn_stereo.has_open_side.Given as goal

abbrev pub invariant-loop-k : goal.invariant-loop-k
invariant-loop-k l = has_open_side l.ct.mol l.ct.rings.sizes l.k (drop l.k l.bonds) ≡ has_open_side l.ct.mol l.ct.rings.sizes 0 l.bonds
