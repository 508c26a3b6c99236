-- Equal block numbers, exactly where one closed path goes along both bonds.
use Rattle.std.proofs.Common.{Bool, List, Some, arith, false, get_or, inl, inr, length, refl, slice_get, subst, sym, true, ℕ, ◌&&◌, ◌-◌, ◌<◌, ◌==◌, ◌||◌, ◌↔◌, ◌∙◌, ◌≡◌, ◌≢◌}
use Rattle.mc_mol.proofs.Twins.{joins_first}
use Rattle.mc_mol.proofs.Apart.{one_bond, joins_from}
use Rattle.std.proofs.lemmas.Bool.{cases_lt}
use Rattle.std.proofs.lemmas.Option.{get_or_from_slice_get, slice_get_within}
use Rattle.std.specs.Prelude.{AllPairs}
use Rattle.mc_mol.proofs.Halves.{same_test}
use Rattle.mc_mol.proofs.Neighbours.{bond_joined}
use Rattle.mc_mol.proofs.Rounds.{SamePair, next_followed, open_of}
use Rattle.mc_mol.specs.ClosedPaths.{Follows, IsClosedPath, Uses}
use Rattle.mc_mol.specs.Molecule.{joins}
use Rattle.mc_mol.specs.declared.parts.Bond.{Bond}
use Rattle.mc_rings.proofs.OneBlock.{block_of, closed_one, one_block, swapped}
use Rattle.mc_rings.proofs.SharedPaths.{block_near, share_of}
use Rattle.mc_rings.specs.Blocks.{BlockOf, IsTree, Tree}
use Rattle.mc_rings.specs.RingSizes.{ShareClosedPath}
use Rattle.mc_rings.specs.Rings.{AreBlocks}

pub not_same : (bonds : List Bond) → AllPairs (λ (b c : Bond). joins b c.first.0 c.second.0 ≡ false) bonds → (m n : ℕ) (b c : Bond) → m ≢ n → slice_get bonds m ≡ Some b → slice_get bonds n ≡ Some c
    → SamePair b.first.0 b.second.0 c.first.0 c.second.0 → ⊥
not_same bonds once m n b c other at_b at_c same = other (one_bond bonds once m n c.first.0 c.second.0 b c at_b at_c (joins_from b c.first.0 c.second.0 same) (joins_first c))

-- a bond of a closed path has the block of the bond that closes it
followed_block : (t : Tree) → IsTree t → (path : List ℕ) → IsClosedPath t.bonds path → (k0 : ℕ) → BlockOf t.places t.above (get_or path (length path - 1) 0) (get_or path 0 0) k0 → (x y k : ℕ)
    → Follows path x y → BlockOf t.places t.above x y k → k0 ≡ k
followed_block t is path closed k0 block0 x y k (inl (i, within, e, f)) block =
    closed_one t is path (get_or path 0 0) (get_or path (length path - 1) 0) k0 (open_of t.bonds path closed) closed.closed block0 x y k (next_followed path x y i within e f) block
followed_block t is path closed k0 block0 x y k (inr (e, f)) block =
    one_block t x y k0 k (subst (λ (m : ℕ). BlockOf t.places t.above m y k0) e (subst (λ (m : ℕ). BlockOf t.places t.above (get_or path (length path - 1) 0) m k0) f block0)) block

used_block : (t : Tree) → IsTree t → (path : List ℕ) → IsClosedPath t.bonds path → (k0 : ℕ) → BlockOf t.places t.above (get_or path (length path - 1) 0) (get_or path 0 0) k0 → (b : Bond) (k : ℕ)
    → Uses path b → BlockOf t.places t.above b.first.0 b.second.0 k → k0 ≡ k
used_block t is path closed k0 block0 b k (inl uses) block = followed_block t is path closed k0 block0 b.first.0 b.second.0 k uses block
used_block t is path closed k0 block0 b k (inr uses) block = followed_block t is path closed k0 block0 b.second.0 b.first.0 k uses (swapped t b.first.0 b.second.0 k block)

pub blocks_shared : (t : Tree) → IsTree t → AllPairs (λ (b c : Bond). joins b c.first.0 c.second.0 ≡ false) t.bonds → (m n : ℕ) (b c : Bond) (k l : ℕ) → m ≢ n → slice_get t.bonds m ≡ Some b
    → slice_get t.bonds n ≡ Some c → BlockOf t.places t.above b.first.0 b.second.0 k → BlockOf t.places t.above c.first.0 c.second.0 l → (k ≡ l) ↔ ShareClosedPath t.bonds b c
blocks_shared t is once m n b c k l other at_b at_c block_b block_c = (
  (λ same. share_of t.bonds b c (bond_joined t.bonds m b at_b) (not_same t.bonds once m n b c other at_b at_c)
      (block_near t is b.first.0 b.second.0 c.first.0 c.second.0 k (bond_joined t.bonds m b at_b) (bond_joined t.bonds n c at_c) block_b
      (subst (λ (i : ℕ). BlockOf t.places t.above c.first.0 c.second.0 i) (sym same) block_c))),
  (λ shared.
      let block0 = block_of t is (get_or shared.path (length shared.path - 1) 0) (get_or shared.path 0 0) shared.closed_path.closed in
      sym (used_block t is shared.path shared.closed_path block0.0 block0.1 b k shared.first block_b)
      ∙ used_block t is shared.path shared.closed_path block0.0 block0.1 c l shared.second block_c),
)

pub are_blocks : (t : Tree) → IsTree t → (blocks : List ℕ) → length blocks ≡ length t.bonds
    → ((k : ℕ) (bond : Bond) (block : ℕ) → slice_get t.bonds k ≡ Some bond → slice_get blocks k ≡ Some block → BlockOf t.places t.above bond.first.0 bond.second.0 block) → AreBlocks t.bonds blocks
are_blocks t is blocks count each = record {
  count = count;
  same = λ i j b c k l other at_b at_c at_k at_l. blocks_shared t is is.forest.once i j b c k l other at_b at_c (each i b k at_b at_k) (each j c l at_c at_l);
}
