use Rattle.smi_write.proofs.FourPlaces.{centres_fit}
use Rattle.smi_write.proofs.WholeTrip.{read_back}
use Rattle.smi_write.proofs.NoBlanks.{no_blanks}
use Rattle.smi_write.proofs.write.write_smiles.Goals as goal

pub returns-clause-text : goal.returns-clause-text
returns-clause-text c = c.in_ok-written.ensures.text (centres_fit c.args.mol.now c.requires)

pub returns-clause-reads : goal.returns-clause-reads
returns-clause-reads c =
    rw (c.in_ok-written.ensures.text (centres_fit c.args.mol.now c.requires), c.in_ok-written.ensures.order) (read_back c.args.mol.now c.in_ok-written.ensures.molecule c.requires)

pub returns-clause-no_blanks : goal.returns-clause-no_blanks
returns-clause-no_blanks c = rw (c.in_ok-written.ensures.text (centres_fit c.args.mol.now c.requires)) (no_blanks c.args.mol.now c.in_ok-written.ensures.molecule c.requires)
