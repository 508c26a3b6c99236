-- A matching of the folded graph gives one of the given graph.
use Rattle.std.proofs.Common.{◌≢◌, ℕ, ◌<◌, List, [], ◌∷◌, length, get_or, refl, ap, sym, ◌∙◌}
use Rattle.match_barrier.specs.Graph.{adjacent}
use Rattle.match_barrier.specs.Matching.{IsPerfect}
use Rattle.match_blossom.specs.Foldings.{IsMatchingBut, Folding, Foldings, Unfolds, IsUnfolding, part_of, Augmented}
use Rattle.match_blossom.specs.Search.{Turned}

pub unfolding_begins : (g : List (List ℕ)) (foldings : List Folding) (mates : List ℕ) → Foldings g foldings → IsMatchingBut g (part_of foldings) mates [] → IsUnfolding g mates foldings mates foldings
unfolding_begins g foldings mates folded' m = record { folded = folded'; matching = m; free = λ v living free. (living, free) }

-- One folding is taken back.
pub unfolding_more : (g : List (List ℕ)) (before mates after : List ℕ) (all : List Folding) (f : Folding) (earlier : List Folding) → IsUnfolding g before all mates (f ∷ earlier)
    → Unfolds g (part_of earlier) f.base f.others mates after → IsUnfolding g before all after earlier
unfolding_more g before mates after all f earlier a u = record {
  folded = a.folded.2;
  matching = u.matching;
  free = λ v living free. let b = u.free v living free in a.free v b.0 b.1;
}

-- A mated root, with all foldings taken back.
pub augmented : (g : List (List ℕ)) (old turned after : List ℕ) (part : ℕ → ℕ) (root v : ℕ) (foldings : List Folding) → Turned g old turned part root v → IsUnfolding g turned foldings after [] → Augmented g old after root
augmented g old turned after part root v foldings t u = record {
  matching = u.matching;
  free = λ z less free.
      let b = u.free z (less, refl) free in
      let c = t.free z less b.1 in (c.1, c.2);
}

-- A matching of the given graph in which no node is free is perfect.
pub perfect_of : (g : List (List ℕ)) (mates : List ℕ) → IsMatchingBut g (λ u. u) mates [] → ((v : ℕ) → v < length g → get_or mates v 0 ≢ length g) → IsPerfect g mates
perfect_of g mates m none_free = record {
  each_node = m.each_node;
  neighbour = λ v less. let r = m.mate v (less, refl) refl (none_free v less) in
      ap (λ (x : ℕ). adjacent g x (get_or mates v 0)) (sym r.4.from_class) ∙ ap (adjacent g r.4.from) (sym r.4.to_class) ∙ r.4.edge;
  back = λ v less. (m.mate v (less, refl) refl (none_free v less)).3;
}
