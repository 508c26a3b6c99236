-- The rows of a molecule's bonds are those of a table (for the tests).
use Rattle.std.proofs.Common.{◌≡◌, ◌∙◌, ℕ, ◌<◌, ◌+◌, ◌⊎◌, false, ◌==◌, ◌&&◌, ◌||◌, List, [], ◌∷◌, ◌++◌, length, get_or, slice_get, Some, sym, ap, subst, arith, inl, inr}
use Rattle.std.proofs.lemmas.Bool.{cases_lt}
use Rattle.std.proofs.lemmas.Bool.Decides.{nat_tests}
use Rattle.std.proofs.lemmas.List.{get_or_push, get_or_append_left, length_push}
use Rattle.std.proofs.lemmas.Option.{get_or_from_slice_get}
use Rattle.ct_sd.specs.declared.table.Table.{Table}
use Rattle.ct_sd.specs.declared.table.TableAtom.{TableAtom}
use Rattle.ct_sd.specs.declared.table.TableBond.{TableBond}
use Rattle.ct_sd.specs.Tables.{IsTable, IsTableBond}
use Rattle.mc_mol.specs.declared.parts.Bond.{Bond}
use Rattle.mc_mol.specs.Molecule.{Molecule}
use Rattle.mc_mol.specs.WellFormed.{IsBond, IsMolecule}
use Rattle.lay_wedge.specs.TableRows.{IsRowOf, AreRowsOf}

-- one row more
pub rows_more : (bonds : List Bond) (rows new : List TableBond) (k : ℕ) (b : Bond) (row : TableBond) → AreRowsOf bonds k rows → slice_get bonds k ≡ Some b → IsRowOf b row → new ≡ rows ++ row ∷ [] → AreRowsOf bonds (k + 1) new
rows_more bonds rows new k b row so_far at of is = subst (λ (xs : List TableBond). AreRowsOf bonds (k + 1) xs) (sym is) (record {
  count = length_push rows row ∙ (let same = so_far.count in omega arith);
  each = more;
})
  where
    more : (i : ℕ) (bond : Bond) (other : TableBond) → i < k + 1 → IsRowOf (get_or bonds i bond) (get_or (rows ++ row ∷ []) i other)
    more i bond other less = elim (cases_lt i k) [
      | inl earlier ↦ (let same = so_far.count in subst (λ (x : TableBond). IsRowOf (get_or bonds i bond) x) (sym (get_or_append_left rows (row ∷ []) other i (omega arith))) (so_far.each i bond other earlier))
      | inr later ↦ (let same = so_far.count in let here : k ≡ i = omega arith in
          subst (λ (x : TableBond). IsRowOf (get_or bonds i bond) x) (sym (get_or_push rows row other i (omega arith)))
          (subst (λ (x : Bond). IsRowOf x row) (sym (get_or_from_slice_get bonds i b bond (ap (λ (j : ℕ). slice_get bonds j) (sym here) ∙ at))) of))
    ]

row_is_bond : (n : ℕ) (bond : Bond) (row : TableBond) → IsBond n bond → IsRowOf bond row → IsTableBond n row
row_is_bond n bond row is of = elim of.ends [
  | inl e ↦ (let first = is.first in let second = is.second in let different = is.different in let e0 = e.0 in let e1 = e.1 in
      record { first = omega arith; second = omega arith; different = λ s. different (omega arith); order_low = of.order_low; order_high = of.order_high })
  | inr e ↦ (let first = is.first in let second = is.second in let different = is.different in let e0 = e.0 in let e1 = e.1 in
      record { first = omega arith; second = omega arith; different = λ s. different (omega arith); order_low = of.order_low; order_high = of.order_high })
]

apart : (a b c d x y z w : ℕ) → ((a == c && b == d) || (a == d && b == c)) ≡ false → ((x ≡ a) × (y ≡ b)) ⊎ ((x ≡ b) × (y ≡ a)) → ((z ≡ c) × (w ≡ d)) ⊎ ((z ≡ d) × (w ≡ c))
    → ((x == z && y == w) || (x == w && y == z)) ≡ false
apart a b c d x y z w e (inl p) (inl q) = let p0 = p.0 in let p1 = p.1 in let q0 = q.0 in let q1 = q.1 in grind (arith, nat_tests)
apart a b c d x y z w e (inl p) (inr q) = let p0 = p.0 in let p1 = p.1 in let q0 = q.0 in let q1 = q.1 in grind (arith, nat_tests)
apart a b c d x y z w e (inr p) (inl q) = let p0 = p.0 in let p1 = p.1 in let q0 = q.0 in let q1 = q.1 in grind (arith, nat_tests)
apart a b c d x y z w e (inr p) (inr q) = let p0 = p.0 in let p1 = p.1 in let q0 = q.0 in let q1 = q.1 in grind (arith, nat_tests)

any_bond : Bond
any_bond = record { first = record { 0 = 0 }; second = record { 0 = 0 }; order = 1 }

table_with : (m : Molecule) (table : Table) → IsMolecule m → length table.atoms ≡ length m.atoms → AreRowsOf m.bonds (length m.bonds) table.bonds → IsTable table
table_with m table is count rows =
    let few_atoms = is.few_atoms in
    let few_bonds = is.few_bonds in
    let same = rows.count in
    record {
      few_atoms = omega arith;
      few_bonds = omega arith;
      bonds = λ k row less. subst (λ (n : ℕ). IsTableBond n (get_or table.bonds k row)) (sym count)
          (row_is_bond (length m.atoms) (get_or m.bonds k any_bond) (get_or table.bonds k row) (is.bonds k any_bond (omega arith)) (rows.each k any_bond row (omega arith)));
      once = λ i j row less within.
          (let b = get_or m.bonds i any_bond in let c = get_or m.bonds j any_bond in let x = get_or table.bonds i row in let y = get_or table.bonds j row in
          apart b.first.0 b.second.0 c.first.0 c.second.0 x.first x.second y.first y.second (is.once i j any_bond less (omega arith)) (rows.each i any_bond row (omega arith)).ends (rows.each j any_bond row (omega arith)).ends);
    }

pub are_table : (m : Molecule) (table : Table) (atoms : List TableAtom) (rows : List TableBond) → IsMolecule m → table.atoms ≡ atoms → length atoms ≡ length m.atoms → table.bonds ≡ rows → AreRowsOf m.bonds (length m.bonds) rows → IsTable table
are_table m table atoms rows is these count those of = table_with m table is (ap length these ∙ count) (subst (λ (xs : List TableBond). AreRowsOf m.bonds (length m.bonds) xs) (sym those) of)
