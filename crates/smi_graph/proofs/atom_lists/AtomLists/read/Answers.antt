use Rattle.smi_graph.specs.Bonds.{open_end}
use Rattle.std.proofs.lemmas.Result.{on_ok_weaker}
use Rattle.smi_graph.proofs.ListsLaw.{closes, stays_open}
use Rattle.smi_graph.proofs.atom_lists.AtomLists.read.Goals as goal

pub returns-in-Atom : goal.returns-in-Atom
returns-in-Atom c = rw c.in-Atom.is (on_ok_weaker c.atom.result (λ reads before here completes holds. reads c.in-Atom.lower before completes holds) c.atom.ensures)

pub returns-in-Some : goal.returns-in-Some
returns-in-Some c = rw (c.in-Ring.is, c.in-Some.is) (on_ok_weaker c.close.result (λ reads before here completes holds.
    let end = closes (open_end c.in-Ring.number before) c.in-Some.bond before completes in
    reads before end.end end.second end.first end.opened holds) c.close.ensures)

pub returns-in-None : goal.returns-in-None
returns-in-None c = rw (c.in-Ring.is, c.in-None.is) (on_ok_weaker c.open.result (λ reads before here completes holds.
    reads before here (stays_open (open_end c.in-Ring.number before) before completes) holds) c.open.ensures)
