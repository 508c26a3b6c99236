use Rattle.std.proofs.Common.{arith, ◌≡◌, ◌∙◌, ◌+◌, ℕ, List, Some, sym, ap}
use Rattle.std.specs.Prelude.{slice_get}
use Rattle.std.proofs.lemmas.Option.{slice_get-get_or}
use Rattle.smi_graph.specs.declared.role.Role.{Role}
use Rattle.smi_graph.specs.Order.{tokens_before, is_misplaced, misplaced_at}
use Rattle.smi_graph.specs.RingRules.{is_clash, is_pair_again}
use Rattle.smi_graph.specs.Firsts.{AreFirst}
use Rattle.smi_graph.proofs.Placing.{order_behind, misplaced_is, none_found, none_below}
use Rattle.smi_graph.proofs.structure.Structure.look.Goals as goal

pub returns-clause-faults : goal.returns-clause-faults
returns-clause-faults c = λ ks d less is bond follows.
    let i : ℕ = c.args.self.now.tokens in
    let before : List Role = tokens_before ks i in
    let at : slice_get ks i ≡ Some c.args.role = slice_get-get_or ks i d less ∙ ap (λ (k : Role). Some k) is in
    c.with-self.ensures ks
    (λ none. ap (is_misplaced before) at ∙ misplaced_is c.args.self.now.order c.args.self.now.latest c.args.role c.behind-next.result before c.is_none.result c.behind-next.ensures.placed c.behind-next.ensures.misplaced (sym c.is_none.ensures) follows.reads.latest (follows.order none))
    (λ none. ap (is_clash before) at ∙ sym (c.clashes_first-clash.ensures before none bond))
    (λ none. ap (is_pair_again before) at ∙ sym (c.pairs_first-pair.ensures before none follows.reads bond))
    follows.faults

pub returns-clause-order : goal.returns-clause-order
returns-clause-order c = λ ks d less is bond follows none.
    let i : ℕ = c.args.self.now.tokens in
    let before : List Role = tokens_before ks i in
    let at : slice_get ks i ≡ Some c.args.role = slice_get-get_or ks i d less ∙ ap (λ (k : Role). Some k) is in
    let faults : AreFirst ks (i + 1) c.with-self.result = returns-clause-faults c ks d less is bond follows in
    let right = none_below (misplaced_at ks) (i + 1) c.with-self.result.misplaced none faults.misplaced in
    let was = none_found (misplaced_at ks) i c.args.self.now.faults.misplaced right follows.faults.misplaced in
    rw c.unwrap_or-self.ensures (order_behind c.args.self.now.order c.args.self.now.latest c.args.role c.behind-next.result before c.behind-next.ensures.behind c.behind-next.ensures.misplaced follows.reads.latest (follows.order was) (sym (ap (is_misplaced before) at) ∙ right i (omega arith)))
