use Rattle.std.proofs.Common.{◌≡◌, ◌≤◌, ◌∙◌, ◌∷◌, ◌+◌, ℕ, List, subst, sym, ap}
use Rattle.smi_graph.specs.declared.role.Role.{Role}
use Rattle.smi_graph.specs.declared.first_faults.FirstFaults.{FirstFaults}
use Rattle.smi_graph.specs.declared.structure.Structure.{Structure}
use Rattle.smi_graph.specs.declared.token_order.TokenOrder.{TokenOrder}
use Rattle.smi_graph.specs.Order.{tokens_before}
use Rattle.smi_graph.specs.Reading.{Reads, IsBehind}
use Rattle.smi_graph.specs.Firsts.{AreFirst}
use Rattle.smi_graph.proofs.Prefixes.{tokens_before_more}
use Rattle.smi_graph.proofs.structure.Structure.read.Goals as goal

pub take-requires-clause-count : goal.take-requires-clause-count
take-requires-clause-count c = subst (λ (s : Structure). s.count ≤ s.tokens) (sym c.look.ensures.others) c.requires.bounded.count

pub returns-clause-follows : goal.returns-clause-follows
returns-clause-follows c = λ ks d less is follows.
    let i : ℕ = c.args.self.now.tokens in
    let before : List Role = tokens_before ks i in
    let bond = c.completed-bond.ensures before follows.reads in
    let same : c.take.new.self.tokens ≡ i + 1 = c.in_ok-take.ensures.tokens ∙ ap (λ (s : Structure). s.tokens + 1) c.look.ensures.others in
    let more : c.args.role ∷ before ≡ tokens_before ks c.take.new.self.tokens =
    sym (tokens_before_more ks i d less ∙ ap (λ (k : Role). k ∷ before) is) ∙ ap (tokens_before ks) (sym same) in
    let reads : Reads c.look.new.self before = subst (λ (s : Structure). Reads s before) (sym c.look.ensures.others)
    (record { bonds = follows.reads.bonds; tokens = follows.reads.tokens; count = follows.reads.count; latest = follows.reads.latest; branches = follows.reads.branches; rings = follows.reads.rings; neighbours = follows.reads.neighbours }) in
    record {
      reads = subst (λ (x : List Role). Reads c.take.new.self x) more (c.in_ok-take.ensures.reads before bond reads);
      order = λ none. subst (λ (o : TokenOrder). IsBehind o (tokens_before ks c.take.new.self.tokens)) (sym c.in_ok-take.ensures.order)
          (subst (λ (x : List Role). IsBehind c.look.new.self.order x) more (c.look.ensures.order ks d less is bond follows (ap (λ (f : FirstFaults). f.misplaced) (sym c.in_ok-take.ensures.faults) ∙ none)));
      faults = subst (λ (n : ℕ). AreFirst ks n c.take.new.self.faults) (sym same)
          (subst (λ (f : FirstFaults). AreFirst ks (i + 1) f) (sym c.in_ok-take.ensures.faults) (c.look.ensures.faults ks d less is bond follows));
    }
