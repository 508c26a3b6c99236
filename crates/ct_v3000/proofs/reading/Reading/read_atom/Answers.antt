use Rattle.ct_v3000.proofs.ItemSteps.{atom_noted, atom_after}
use Rattle.ct_v3000.proofs.reading.Reading.read_atom.Goals as goal

pub returns-clause-after : goal.returns-clause-after
returns-clause-after c =
    atom_after c.args.place c.number_in.result c.args.words.now c.args.self.now c.add.new.self c.push.new.self c.read_atom_line-atom.result c.note_if.new.self
    c.number_in.ensures.value c.in_ok-given.ensures.ok c.read_atom_line-atom.ensures.value c.in_ok-push.ensures.ok
    (atom_noted c.args.place c.number_in.result c.args.words.now c.args.self.now c.in_ok-given.given c.read_atom_line-atom.new.faults c.note_if.new.self
    c.number_in.ensures.value c.in_ok-given.ensures.given c.read_atom_line-atom.ensures.shows c.note_if.ensures)
