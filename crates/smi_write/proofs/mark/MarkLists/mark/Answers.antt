use Rattle.std.proofs.Common.{◌∙◌, ◌<◌, ℕ, length, subst, sym}
use Rattle.smi_write.proofs.FourPlaces.{mark_found}
use Rattle.smi_write.proofs.Partners.{atom_found, at_below}
use Rattle.smi_write.proofs.mark.MarkLists.mark.Goals as goal

pub centre-requires : goal.centre-requires
centre-requires c = subst (λ (x : ℕ). x < length c.args.mol.now.atoms)
    (sym (atom_found c.args.mol.now c.args.written.now c.args.rank c.index-atom.result.now c.requires.written c.requires.within c.index-atom.ensures)) (at_below c.args.mol.now c.args.rank c.requires.within)

pub atom-hydrogens-requires : goal.atom-hydrogens-requires
atom-hydrogens-requires c = subst (λ (x : ℕ). x < length c.args.mol.now.atoms)
    (sym (atom_found c.args.mol.now c.args.written.now c.args.rank c.index-atom.result.now c.requires.written c.requires.within c.index-atom.ensures)) (at_below c.args.mol.now c.args.rank c.requires.within)

pub returns : goal.returns
returns c = λ fit. mark_found c.args.mol.now c.args.rank c.index-atom.result.now c.atom-hydrogens.result c.in-Some.centre c.deref-2.result.now c.is_plain_mark.result
    c.requires.molecule c.requires.within (atom_found c.args.mol.now c.args.written.now c.args.rank c.index-atom.result.now c.requires.written c.requires.within c.index-atom.ensures)
    c.in-Some.ensures c.atom-hydrogens.ensures (c.deref-2.ensures.value ∙ c.in_ok-find_places.ensures) c.is_plain_mark.ensures fit
