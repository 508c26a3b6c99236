use Rattle.std.proofs.Common.{arith, ◌∙◌, sym}
use Rattle.smi_graph.specs.Branches.{return_atoms}
use Rattle.smi_graph.proofs.ReadingSteps.{pop_reversed, open_behind}
use Rattle.smi_graph.proofs.branches.Branches.read.Goals as goal

pub returns-in-Leave : goal.returns-in-Leave
returns-in-Leave c = λ before atom opened.
    let popped = pop_reversed (return_atoms before) c.pop.new.self.items c.pop.result (sym opened.returns ∙ c.pop.ensures.items) (λ none. grind arith) in
    rw c.in-Leave.is (record {
      latest = c.unwrap_or-self.ensures ∙ popped.top ∙ sym (open_behind before 0);
      returns = popped.rest;
    })
