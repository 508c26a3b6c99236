use Rattle.std.proofs.Common.{arith}
use Rattle.smi_graph.proofs.ListsLaw.{but_last}
use Rattle.smi_graph.proofs.atom_lists.AtomLists.into_parts.Goals as goal

pub returns-clause-lists : goal.returns-clause-lists
returns-clause-lists c = λ before holds. but_last c.args.self.lists.items c.pop.new.self.items c.pop.result before c.pop.ensures.items (λ none. grind arith) holds.count holds.lists
