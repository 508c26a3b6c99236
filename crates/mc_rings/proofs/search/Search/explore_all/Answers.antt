use Rattle.std.proofs.Common.{◌≡◌, ◌∙◌, ℕ, Some, slice_get, subst, sym, ap, arith, inl, inr}
use Rattle.std.proofs.lemmas.Bool.{cases_lt}
use Rattle.std.proofs.lemmas.Option.{slice_get_within, slice_get-get_or}
use Rattle.mc_base.specs.declared.ids.AtomId.{AtomId}
use Rattle.mc_rings.specs.Levels.{Explored}
use Rattle.mc_rings.proofs.Levels.{explored_kept}
use Rattle.mc_rings.proofs.search.Search.explore_all.Goals as goal

some_atom : (a b : AtomId) → Some a ≡ Some b → a ≡ b
some_atom a b e = cc

pub explore-requires-clause-atom : goal.explore-requires-clause-atom
explore-requires-clause-atom c =
    let is = c.loop-atom.invariant.between in
    let at = is.now _ (c.loop-atom.atom-index, slice_get-get_or c.args.current.now c.loop-atom.atom-index (record { 0 = 0 }) c.loop-atom-test.true) in
    let within = slice_get_within c.loop-atom.self.marks.items _ (Some c.args.level) at in
    omega (arith, within, is.count)

pub loop-atom-preserved : goal.loop-atom-preserved
loop-atom-preserved c =
    let is = c.loop-atom.invariant.between in
    let here = slice_get-get_or c.args.current.now c.loop-atom.atom-index (record { 0 = 0 }) c.loop-atom-test.true in
    let done = c.in_ok-explore.ensures.done c.args.current.now is (is.now _ (c.loop-atom.atom-index, here)) in
    record {
      total = c.in_ok-explore.ensures.total ∙ c.loop-atom.invariant.total;
      between = done.between;
      explored = λ k a less there. elim (cases_lt k c.loop-atom.atom-index) [
        | inl before ↦ explored_kept c.args.mol.now.bonds c.args.bond.first.0 c.args.bond.second.0 c.args.level a.0 c.loop-atom.self.marks.items c.explore.new.self.marks.items
            c.explore.ensures.kept (c.loop-atom.invariant.explored k a before there)
        | inr past ↦
            let k_is : c.loop-atom.atom-index ≡ k = omega arith in
            let same = some_atom _ a (sym here ∙ ap (λ (n : ℕ). slice_get c.args.current.now n) k_is ∙ there) in
            subst (λ (b : AtomId). Explored c.args.mol.now.bonds c.args.bond.first.0 c.args.bond.second.0 c.args.level c.explore.new.self.marks.items b.0) same done.explored
      ];
    }

pub returns-clause-done : goal.returns-clause-done
returns-clause-done c = record {
  between = c.loop-atom.invariant.between;
  explored = λ x at.
      let held = c.loop-atom.invariant.between.here x at in
      let within = slice_get_within c.args.current.now held.0 _ held.1 in
      let past = c.loop-atom-test.false in
      c.loop-atom.invariant.explored held.0 _ (omega arith) held.1;
}
