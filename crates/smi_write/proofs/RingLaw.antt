-- A ring number turns what is open under it: an equal number opens where none is open, and closes the one that is.
use Rattle.std.proofs.Common.{◌≡◌, ◌∙◌, ℕ, ◌-◌, List, ◌∷◌, Option, Some, None, refl, ap}
use Rattle.smi_graph.specs.declared.text_bond.TextBond.{TextBond}
use Rattle.smi_lex.specs.declared.token.BondMark.{BondMark}
use Rattle.smi_graph.specs.declared.ring_table.RingEnd.{RingEnd}
use Rattle.smi_graph.specs.declared.role.Role.{Role}
use Rattle.smi_graph.specs.declared.role.Role.TheVariants.{Ring}
use Rattle.smi_graph.specs.Bonds.{atom_count, mark_of, ring_end, open_end, text_bond, ring_bond, completed}
use Rattle.smi_graph.specs.RingTables.{turned as ends_turned}
use Rattle.smi_graph.proofs.RingEnds.{open_end_same, open_end_other}

-- an open ring number: the atom beside it, and the symbol before it
pub record Opening : Type 0 where
  pub atom : ℕ
  pub mark : Option BondMark

abbrev pub opening_of : Option RingEnd → Option Opening
opening_of None = None
opening_of (Some e) = Some (record { atom = e.atom; mark = e.mark })

abbrev pub turned : Option Opening → Opening → Option Opening
turned None here = Some here
turned (Some there) here = None

-- how ring number m is open behind these tokens
abbrev pub open_ring : ℕ → List Role → Option Opening
open_ring m before = opening_of (open_end m before)

abbrev pub end_here : List Role → Opening
end_here before = record { atom = atom_count before - 1; mark = mark_of before }

turned_opening : (o : Option RingEnd) (here : RingEnd) → opening_of (ends_turned o here) ≡ turned (opening_of o) (record { atom = here.atom; mark = here.mark })
turned_opening None here = refl
turned_opening (Some there) here = refl

-- an equal number
pub open_turned : (n m : ℕ) (before : List Role) → n ≡ m → open_ring m (Ring n ∷ before) ≡ turned (open_ring m before) (end_here before)
open_turned n m before e =
    ap (λ (x : ℕ). open_ring m (Ring x ∷ before)) e ∙ (ap opening_of (open_end_same m before) ∙ turned_opening (open_end m before) (ring_end before))

-- another number
pub open_other : (n m : ℕ) (before : List Role) → (n ≡ m → ⊥) → open_ring m (Ring n ∷ before) ≡ open_ring m before
open_other n m before ne = ap opening_of (open_end_other n m before ne)

-- the bond to an open number
abbrev pub bond_to : Option Opening → Opening → Option TextBond
bond_to None here = None
bond_to (Some there) here = Some (text_bond there.atom here.atom there.mark here.mark)

pub ring_bond_is : (n : ℕ) (before : List Role) → completed before (Ring n) ≡ bond_to (open_ring n before) (end_here before)
ring_bond_is n before = by_end (open_end n before)
  where
    by_end : (o : Option RingEnd) → ring_bond o (ring_end before) ≡ bond_to (opening_of o) (end_here before)
    by_end None = refl
    by_end (Some e) = refl
