-- Two tables of four atoms: an atom with three neighbours, and a double bond with a neighbour at each end.
use Rattle.std.proofs.Common.{arith, ◌≡◌, ℕ, ◌+◌, ◌≤◌, List, [], ◌∷◌, length, false, refl}
use Rattle.std.specs.Prelude.{All, AllPairs}
use Rattle.std.proofs.lemmas.List.Elements.{All-cons, All-nil}
use Rattle.std.proofs.lemmas.List.Kept.{AllPairs-cons}
use Rattle.ct_sd.specs.declared.table.DrawMark.{DrawMark}
use Rattle.ct_sd.specs.declared.table.Table.{Table}
use Rattle.ct_sd.specs.declared.table.TableAtom.{TableAtom}
use Rattle.ct_sd.specs.declared.table.TableBond.{TableBond}
use Rattle.ct_sd.specs.Tables.{IsTable, IsTableBond, is_parallel}
use Rattle.ct_geometry.proofs.MetSorted.{no_pairs}

abbrev pub between : ℕ → ℕ → ℕ → DrawMark → TableBond
between u v order mark = record { first = u; second = v; order = order; mark = mark; line = 0 }

abbrev Apart : TableBond → TableBond → Type 0
Apart b c = is_parallel b c ≡ false

three_bonds : (n : ℕ) (b c d : TableBond) → IsTableBond n b → IsTableBond n c → IsTableBond n d → All (IsTableBond n) (b ∷ c ∷ d ∷ [])
three_bonds n b c d is_b is_c is_d = All-cons (IsTableBond n) b (c ∷ d ∷ []) is_b (All-cons (IsTableBond n) c (d ∷ []) is_c (All-cons (IsTableBond n) d [] is_d (All-nil (IsTableBond n))))

three_apart : (b c d : TableBond) → Apart b c → Apart b d → Apart c d → AllPairs (λ (x y : TableBond). is_parallel x y ≡ false) (b ∷ c ∷ d ∷ [])
three_apart b c d b_c b_d c_d =
    AllPairs-cons Apart b (c ∷ d ∷ []) (All-cons (Apart b) c (d ∷ []) b_c (All-cons (Apart b) d [] b_d (All-nil (Apart b))))
    (AllPairs-cons Apart c (d ∷ []) (All-cons (Apart c) d [] c_d (All-nil (Apart c))) (AllPairs-cons Apart d [] (All-nil (Apart d)) (no_pairs Apart)))

bond : (n u v order : ℕ) (mark : DrawMark) → u ≤ n → v ≤ n → (u ≡ v → ⊥) → 1 ≤ order → order ≤ 3 → IsTableBond (n + 1) (between u v order mark)
bond n u v order mark low_u low_v ne low high = record { first = omega arith; second = omega arith; different = ne; order_low = low; order_high = high }

pub star_is_table : (table : Table) (m1 m2 m3 : DrawMark) → length table.atoms ≡ 4 → table.bonds ≡ between 0 1 1 m1 ∷ between 0 2 1 m2 ∷ between 0 3 1 m3 ∷ [] → IsTable table
star_is_table table m1 m2 m3 four is = record {
  few_atoms = omega arith;
  few_bonds = rw is (omega arith);
  bonds = rw (four, is) (three_bonds 4 _ _ _ (bond 3 0 1 1 m1 (omega arith) (omega arith) (λ e. cc) (omega arith) (omega arith)) (bond 3 0 2 1 m2 (omega arith) (omega arith) (λ e. cc) (omega arith) (omega arith)) (bond 3 0 3 1 m3 (omega arith) (omega arith) (λ e. cc) (omega arith) (omega arith)));
  once = rw is (three_apart _ _ _ refl refl refl);
}

pub ethene_is_table : (table : Table) (m1 m2 m3 : DrawMark) → length table.atoms ≡ 4 → table.bonds ≡ between 0 1 2 m1 ∷ between 0 2 1 m2 ∷ between 1 3 1 m3 ∷ [] → IsTable table
ethene_is_table table m1 m2 m3 four is = record {
  few_atoms = omega arith;
  few_bonds = rw is (omega arith);
  bonds = rw (four, is) (three_bonds 4 _ _ _ (bond 3 0 1 2 m1 (omega arith) (omega arith) (λ e. cc) (omega arith) (omega arith)) (bond 3 0 2 1 m2 (omega arith) (omega arith) (λ e. cc) (omega arith) (omega arith)) (bond 3 1 3 1 m3 (omega arith) (omega arith) (λ e. cc) (omega arith) (omega arith)));
  once = rw is (three_apart _ _ _ refl refl refl);
}
