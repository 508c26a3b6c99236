use Rattle.std.proofs.Common.{sym, ap, ◌∙◌, ◌++◌, [], ◌∷◌, List, ℕ, length, arith}
use Rattle.std.specs.Prelude.{nat_lt, ◌&&◌}
use Rattle.std.proofs.lemmas.List.{append-nil, append_assoc}
use Rattle.smi_mean.specs.Order.{graph_of, has_ring}
use Rattle.smi_write.specs.Opening.{later_partners}
use Rattle.smi_write.proofs.Partners.{above_less, below_count_less, first_passes, none_passes}
use Rattle.smi_write.proofs.order_at.push_partners.Goals as goal

pub loop-partner-smaller : goal.loop-partner-smaller
loop-partner-smaller c =
    let more = above_less (λ l. has_ring (graph_of c.args.mol.now) c.args.rank l) c.loop-partner.above c.in-Some.partner (length c.args.mol.now.atoms) (sym c.in-Some.ensures) in
    let within = below_count_less (λ l. nat_lt c.loop-partner.above l && has_ring (graph_of c.args.mol.now) c.args.rank l) c.in-Some.partner (length c.args.mol.now.atoms) (sym c.in-Some.ensures) in
    omega arith

pub loop-partner-preserved : goal.loop-partner-preserved
loop-partner-preserved c =
    let more = above_less (λ l. has_ring (graph_of c.args.mol.now) c.args.rank l) c.loop-partner.above c.in-Some.partner (length c.args.mol.now.atoms) (sym c.in-Some.ensures) in
    let was = c.loop-partner.invariant.behind in
    record {
      behind = omega arith;
      within = below_count_less (λ l. nat_lt c.loop-partner.above l && has_ring (graph_of c.args.mol.now) c.args.rank l) c.in-Some.partner (length c.args.mol.now.atoms) (sym c.in-Some.ensures);
      list = ap (λ (x : List ℕ). x ++ later_partners c.args.mol.now c.args.rank c.in-Some.partner) c.in_ok-push.ensures.items
          ∙ append_assoc c.loop-partner.list.items (c.in-Some.partner ∷ []) (later_partners c.args.mol.now c.args.rank c.in-Some.partner)
          ∙ ap (λ (x : List ℕ). c.loop-partner.list.items ++ x) (sym (first_passes (λ l. has_ring (graph_of c.args.mol.now) c.args.rank l) c.loop-partner.above c.in-Some.partner (length c.args.mol.now.atoms) (sym c.in-Some.ensures)))
          ∙ c.loop-partner.invariant.list;
    }

pub returns : goal.returns
returns c =
    sym (append-nil c.loop-partner.list.items)
    ∙ ap (λ (x : List ℕ). c.loop-partner.list.items ++ x) (sym (none_passes (λ l. nat_lt c.loop-partner.above l && has_ring (graph_of c.args.mol.now) c.args.rank l) (length c.args.mol.now.atoms) c.in_default.ensures))
    ∙ c.loop-partner.invariant.list
