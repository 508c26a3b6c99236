use Rattle.std.proofs.Common.{refl, ap, sym, subst, ◌∙◌, ◌≡◌, length, take, List, ℕ}
use Rattle.std.specs.Vec.{with_items}
use Rattle.std.proofs.lemmas.List.{with_items_is}
use Rattle.match_barrier.specs.Matching.{IsPerfect}
use Rattle.match_blossom.specs.Answer.{IsBarrierSet}
use Rattle.match_blossom.proofs.matcher.Matcher.solve.Goals as goal

pub returns-in-None : goal.returns-in-None
returns-in-None c =
    let g : List (List ℕ) = c.args.graph.now in
    let mates : List ℕ = c.solve_within.new.mates in
    let same : length mates ≡ length c.self.inside.mates.items = c.solve_within.ensures.mates_length ∙ ap (λ (xs : List ℕ). length xs) c.as_mut_slice.ensures.value in
    let items : (with_items c.self.inside.mates mates).items ≡ mates = with_items_is c.self.inside.mates mates (same ∙ sym c.self.inside.mates.ok.0) in
    let long : length (with_items c.self.inside.mates mates).items ≡ length c.self.inside.mates.items = ap (λ (xs : List ℕ). length xs) items ∙ same in
    let perfect : IsPerfect g (take (length g) mates) = c.in-None.ensures.none in (
      (refl, (λ m. tt), long ∙ c.self.view_is),
      record {
        room = tt;
        answer = subst (λ (k : ℕ). IsPerfect g (take k c.as_slice.result.now)) (sym c.node_count-nodes.ensures.count) (subst (λ (xs : List ℕ). IsPerfect g (take (length g) xs)) (sym (c.as_slice.ensures.value ∙ items)) perfect);
        barrier = ((λ e m p. e), (λ none. none (take (length g) mates) perfect));
      },
    )

pub returns-in-Some : goal.returns-in-Some
returns-in-Some c =
    let g : List (List ℕ) = c.args.graph.now in
    let mates : List ℕ = c.solve_within.new.mates in
    let set : List ℕ = c.solve_within.new.set in
    let same : length mates ≡ length c.self.inside.mates.items = c.solve_within.ensures.mates_length ∙ ap (λ (xs : List ℕ). length xs) c.as_mut_slice.ensures.value in
    let items : (with_items c.self.inside.mates mates).items ≡ mates = with_items_is c.self.inside.mates mates (same ∙ sym c.self.inside.mates.ok.0) in
    let long : length (with_items c.self.inside.mates mates).items ≡ length c.self.inside.mates.items = ap (λ (xs : List ℕ). length xs) items ∙ same in
    let set_same : length set ≡ length c.self.inside.set.items = c.solve_within.ensures.set_length ∙ ap (λ (xs : List ℕ). length xs) c.as_mut_slice-2.ensures.value in
    let set_items : (with_items c.self.inside.set set).items ≡ set = with_items_is c.self.inside.set set (set_same ∙ sym c.self.inside.set.ok.0) in (
      (refl, (λ m. tt), long ∙ c.self.view_is),
      record {
        room = tt;
        answer = subst (λ (xs : List ℕ). IsBarrierSet g (take c.in-Some.size xs)) (sym (c.as_slice-in-Some.ensures.value ∙ set_items)) c.in-Some.ensures.some.1;
        barrier = ((λ u. c.in-Some.ensures.some.2), (λ none. tt));
      },
    )
