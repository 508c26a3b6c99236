-- Pointers to the bases of blossoms, on shorter ways.
use Rattle.std.specs.Prelude.{◌≡◌, ℕ, length}
use Rattle.match_blossom.specs.Pointers.{Falls, Points}
use Rattle.match_blossom.specs.declared.blossoms.Blossoms.{Blossoms}
use Rattle.match_blossom.specs.declared.tree.AlternatingTree.{AlternatingTree}

-- Pointers that lead to the same bases, and the rest as it was.
pub record IsHalved (old new : Blossoms) : Type 0 where
  pub rest : new ≡ record old { base = new.base }
  pub long : length new.base.items ≡ length old.base.items
  pub falls : Falls new.base.items new.order.items
  pub points : (part : ℕ → ℕ) → Points old.base.items part → Points new.base.items part

-- the same of a tree
pub record IsShortened (old new : AlternatingTree) : Type 0 where
  pub rest : new ≡ record old { blossoms = new.blossoms }
  pub halved : IsHalved old.blossoms new.blossoms
