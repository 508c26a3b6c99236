use Rattle.std.proofs.Common.{arith, ◌∙◌, ◌+◌, ◌<◌, ◌++◌, ℕ, List, ap}
use Rattle.ct_sd.specs.declared.table.TableBond.{TableBond}
use Rattle.ct_v2000.specs.Table.{bonds_from}
use Rattle.ct_v2000.specs.Blocks.{still}
use Rattle.ct_v2000.proofs.Still.{bonds_give_more, bonds_show_more}
use Rattle.ct_v2000.proofs.blocks.read_bonds.Goals as goal

pub loop-n-preserved : goal.loop-n-preserved
loop-n-preserved c =
    let n : ℕ = c.loop-n.n in
    let count : ℕ = c.args.count in
    let first : ℕ = c.args.first in
    let lines : List (List ℕ) = c.args.given.now in
    let less : n < count = omega arith in
    record {
      within = omega arith;
      bonds = ap (λ (t : List TableBond). t ++ bonds_from (first + (n + 1) + 1) (still first (n + 1) count lines)) c.in_ok-push.ensures.ok
          ∙ bonds_give_more first n count lines c.line-line.result.now c.loop-n.bonds (bonds_from (first + 1) (still first 0 count lines)) c.in_ok-bond.bond less c.requires.within c.line-line.ensures c.in_ok-bond.ensures.value c.loop-n.invariant.bonds;
      shows = bonds_show_more c.args.atoms first n count lines c.line-line.result.now c.loop-n.joined c.read_bond_line.new.joined c.loop-n.faults.fault c.read_bond_line.new.faults.fault _ less c.requires.within c.line-line.ensures c.in_ok-bond.ensures.joins c.in_ok-bond.ensures.shows c.loop-n.invariant.shows;
    }
