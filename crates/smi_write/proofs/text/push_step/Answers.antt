use Rattle.std.proofs.Common.{◌<◌, sym, subst, ℕ, length, arith}
use Rattle.smi_write.proofs.Partners.{atom_found, at_below}
use Rattle.smi_write.proofs.text.push_step.Goals as goal

pub atom-requires : goal.atom-requires
atom-requires c = subst (λ (x : ℕ). x < length c.args.mol.now.atoms)
    (sym (atom_found c.args.mol.now c.args.written.now c.args.rank c.index-id.result.now c.requires.written c.requires.within c.index-id.ensures)) (at_below c.args.mol.now c.args.rank c.requires.within)

pub bounds-sums-id : goal.bounds-sums-id
bounds-sums-id c =
    let below = subst (λ (x : ℕ). x < length c.args.mol.now.atoms)
    (sym (atom_found c.args.mol.now c.args.written.now c.args.rank c.index-id.result.now c.requires.written c.requires.within c.index-id.ensures)) (at_below c.args.mol.now c.args.rank c.requires.within) in
    let count = c.requires.sum_count in omega arith
