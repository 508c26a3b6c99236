use Rattle.std.proofs.Common.{map, subst, sym, ◌<◌, ℕ}
use Rattle.std.proofs.lemmas.List.{length-map}
use Rattle.match_barrier.proofs.Edges.{cut_after}
use Rattle.match_barrier.proofs.graph.push_both.Goals as goal

pub returns-in-Err-clause-err : goal.returns-in-Err-clause-err
returns-in-Err-clause-err c = cut_after (map (λ row. row.items) c.args.rows.now.items) _ _ _ c.args.u c.args.v c.degree-degree.result
    (subst (λ (n : ℕ). c.args.u < n) (sym (length-map c.args.rows.now.items (λ row. row.items))) c.requires.first) c.degree-degree.ensures c.in_ok-push_one.ensures.ok c.in-Err.ensures.err c.cut.ensures.cut
