-- The bonds of a molecule: between different atoms, no pair twice, of the orders that have symbols.
use Rattle.std.proofs.Common.{◌≡◌, ℕ, zero, suc, ◌≤◌, List, [], ◌∷◌, Bool, true, false, refl, arith}
use Rattle.std.specs.Prelude.{All, if◌then◌else◌}
use Rattle.mc_mol.specs.declared.parts.Bond.{Bond}
use Rattle.mc_mol.specs.Molecule.{joins}
use Rattle.mc_mol.specs.WellFormed.{IsBond}
use Rattle.mc_mol.proofs.Lists.{All-head, All-tail}
pub use Rattle.smi_graph.proofs.SimpleBonds.{Simple, simple_of}
use Rattle.smi_mean.specs.Order.{order_between}
use Rattle.smi_graph.specs.Links.{order_of}
use Rattle.smi_mean.specs.Written.{symbol_of}

-- the order that is read where a symbol of this order is written
abbrev said : ℕ → ℕ
said order = order_of (symbol_of order)

-- an order from 1 to 4 is said by its symbol
pub said_is : (o : ℕ) → 1 ≤ o → o ≤ 4 → said o ≡ o
said_is zero low high = absurd (omega arith)
said_is (suc zero) low high = refl
said_is (suc (suc zero)) low high = refl
said_is (suc (suc (suc zero))) low high = refl
said_is (suc (suc (suc (suc zero)))) low high = refl
said_is (suc (suc (suc (suc (suc o))))) low high = absurd (omega arith)

pub said_between : (n : ℕ) (bs : List Bond) (u v : ℕ) → All (IsBond n) bs → said (order_between bs u v) ≡ order_between bs u v
said_between n [] u v h = refl
said_between n (b ∷ bs) u v h =
    let first = All-head (IsBond n) b bs h in
    by_test (joins b u v) (said_is b.order first.order_low first.order_high) (said_between n bs u v (All-tail (IsBond n) b bs h))
  where
    by_test : (t : Bool) → said b.order ≡ b.order → said (order_between bs u v) ≡ order_between bs u v
        → said (if t then b.order else order_between bs u v) ≡ (if t then b.order else order_between bs u v)
    by_test true here there = here
    by_test false here there = there
