-- Rows worked by hand: records of the V2000 format, their tables and the kinds that they show.
use Rattle.std.specs.Prelude.{◌≡◌, ℕ, List, [], ◌∷◌, ◌++◌, Option, Some, None, codes, refl, pos, negsuc, map}
use Rattle.mc_base.specs.declared.kind.Kind.TheVariants.{ShortRecord, ReactionFile, Version, BadField, Query, BondType, Radical, Sgroup, Alias, MassDifference, ThreeD, AtomNumber, BondPair}
use Rattle.mc_base.specs.declared.kind.Kind.{Kind}
use Rattle.mc_elements.specs.declared.element.Element.TheVariants.{O}
use Rattle.mc_elements.specs.Elements.{element_of}
use Rattle.ct_sd.specs.declared.fault.Fault.{Fault}
use Rattle.ct_sd.specs.declared.table.TableAtom.{TableAtom}
use Rattle.ct_sd.specs.declared.table.TableBond.{TableBond}
use Rattle.ct_sd.specs.declared.table.DrawMark.TheVariants.{Plain, Up, Either}
use Rattle.ct_sd.specs.Faults.{first_of}
use Rattle.ct_sd.specs.Symbols.{symbol_of}
use Rattle.ct_sd.specs.Fields.{value, field_shows}
use Rattle.ct_sd.specs.Heads.{version_of}
use Rattle.ct_v2000.specs.Counts.{is_well_formed, counted}
use Rattle.ct_v2000.specs.AtomLines.{symbol_in, atom_line_shows, atom_of, charge_in, isotope_in, atom_line_of}
use Rattle.ct_v2000.specs.BondLines.{type_in, pair_in, bond_line_shows, bond_of}
use Rattle.ct_v2000.specs.Properties.{passes_next, property_of, entry_count, entry_number, entry_at, entries_of, entry_kinds, sgroup_kinds, property_line_shows}
use Rattle.ct_v2000.specs.Table.{record_faults, table_atoms, table_bonds}

abbrev first : List (List ℕ) → Option Fault
first lines = first_of None (record_faults lines)

abbrev at : Kind → ℕ → Option Fault
at kind place = Some (record { kind = kind; place = place })

abbrev header : List (List ℕ)
header = codes "water" ∷ [] ∷ [] ∷ []

abbrev counts : List ℕ
counts = codes "  1  0  0  0  0  0            999 V2000"

abbrev with_bond : List ℕ
with_bond = codes "  1  1  0  0  0  0            999 V2000"

abbrev oxygen : List ℕ
oxygen = codes "    0.0000    0.0000    0.0000 O"

abbrev end : List ℕ
end = codes "M  END"

water : first (header ++ counts ∷ oxygen ∷ end ∷ []) ≡ None
unfolding element_of symbol_of value field_shows version_of is_well_formed counted symbol_in atom_line_shows atom_of charge_in isotope_in atom_line_of type_in pair_in bond_line_shows bond_of passes_next property_of entry_count entry_number entry_at entries_of entry_kinds sgroup_kinds property_line_shows
water = refl

water_atom : table_atoms (header ++ counts ∷ oxygen ∷ end ∷ []) ≡ record { element = O; isotope = 0; charge = pos 0; class = 0; valence = None; x = pos 0; y = pos 0; z = pos 0; line = 5 } ∷ []
unfolding element_of symbol_of value field_shows version_of is_well_formed counted symbol_in atom_line_shows atom_of charge_in isotope_in atom_line_of type_in pair_in bond_line_shows bond_of passes_next property_of entry_count entry_number entry_at entries_of entry_kinds sgroup_kinds property_line_shows
water_atom = refl

no_end : first (header ++ counts ∷ oxygen ∷ []) ≡ at ShortRecord 5
unfolding element_of symbol_of value field_shows version_of is_well_formed counted symbol_in atom_line_shows atom_of charge_in isotope_in atom_line_of type_in pair_in bond_line_shows bond_of passes_next property_of entry_count entry_number entry_at entries_of entry_kinds sgroup_kinds property_line_shows
no_end = refl

three_lines : first header ≡ at ShortRecord 3
unfolding element_of symbol_of value field_shows version_of is_well_formed counted symbol_in atom_line_shows atom_of charge_in isotope_in atom_line_of type_in pair_in bond_line_shows bond_of passes_next property_of entry_count entry_number entry_at entries_of entry_kinds sgroup_kinds property_line_shows
three_lines = refl

no_lines : first [] ≡ at ShortRecord 0
unfolding element_of symbol_of value field_shows version_of is_well_formed counted symbol_in atom_line_shows atom_of charge_in isotope_in atom_line_of type_in pair_in bond_line_shows bond_of passes_next property_of entry_count entry_number entry_at entries_of entry_kinds sgroup_kinds property_line_shows
no_lines = refl

bad_counts : first (header ++ codes "  x  0  0  0  0  0            999 V2000" ∷ oxygen ∷ end ∷ []) ≡ at BadField 4
unfolding element_of symbol_of value field_shows version_of is_well_formed counted symbol_in atom_line_shows atom_of charge_in isotope_in atom_line_of type_in pair_in bond_line_shows bond_of passes_next property_of entry_count entry_number entry_at entries_of entry_kinds sgroup_kinds property_line_shows
bad_counts = refl

other_version : first (header ++ codes "  1  0  0  0  0  0            999 V4000" ∷ oxygen ∷ end ∷ []) ≡ at Version 4
unfolding element_of symbol_of value field_shows version_of is_well_formed counted symbol_in atom_line_shows atom_of charge_in isotope_in atom_line_of type_in pair_in bond_line_shows bond_of passes_next property_of entry_count entry_number entry_at entries_of entry_kinds sgroup_kinds property_line_shows
other_version = refl

query_symbol : first (header ++ counts ∷ codes "    0.0000    0.0000    0.0000 A" ∷ end ∷ []) ≡ at Query 5
unfolding element_of symbol_of value field_shows version_of is_well_formed counted symbol_in atom_line_shows atom_of charge_in isotope_in atom_line_of type_in pair_in bond_line_shows bond_of passes_next property_of entry_count entry_number entry_at entries_of entry_kinds sgroup_kinds property_line_shows
query_symbol = refl

no_symbol : first (header ++ counts ∷ codes "    0.0000    0.0000    0.0000 Xx" ∷ end ∷ []) ≡ at BadField 5
unfolding element_of symbol_of value field_shows version_of is_well_formed counted symbol_in atom_line_shows atom_of charge_in isotope_in atom_line_of type_in pair_in bond_line_shows bond_of passes_next property_of entry_count entry_number entry_at entries_of entry_kinds sgroup_kinds property_line_shows
no_symbol = refl

raised : first (header ++ counts ∷ codes "    0.0000    0.0000    1.0000 O" ∷ end ∷ []) ≡ at ThreeD 5
unfolding element_of symbol_of value field_shows version_of is_well_formed counted symbol_in atom_line_shows atom_of charge_in isotope_in atom_line_of type_in pair_in bond_line_shows bond_of passes_next property_of entry_count entry_number entry_at entries_of entry_kinds sgroup_kinds property_line_shows
raised = refl

alias : first (header ++ counts ∷ oxygen ∷ codes "A    1" ∷ codes "x" ∷ end ∷ []) ≡ at Alias 6
unfolding element_of symbol_of value field_shows version_of is_well_formed counted symbol_in atom_line_shows atom_of charge_in isotope_in atom_line_of type_in pair_in bond_line_shows bond_of passes_next property_of entry_count entry_number entry_at entries_of entry_kinds sgroup_kinds property_line_shows
alias = refl

other_sgroup : first (header ++ counts ∷ oxygen ∷ codes "M  STY  1   1 GEN" ∷ end ∷ []) ≡ at Sgroup 6
unfolding element_of symbol_of value field_shows version_of is_well_formed counted symbol_in atom_line_shows atom_of charge_in isotope_in atom_line_of type_in pair_in bond_line_shows bond_of passes_next property_of entry_count entry_number entry_at entries_of entry_kinds sgroup_kinds property_line_shows
other_sgroup = refl

passed_sgroup : first (header ++ counts ∷ oxygen ∷ codes "M  STY  1   1 SUP" ∷ end ∷ []) ≡ None
unfolding element_of symbol_of value field_shows version_of is_well_formed counted symbol_in atom_line_shows atom_of charge_in isotope_in atom_line_of type_in pair_in bond_line_shows bond_of passes_next property_of entry_count entry_number entry_at entries_of entry_kinds sgroup_kinds property_line_shows
passed_sgroup = refl

radical : first (header ++ counts ∷ oxygen ∷ codes "M  RAD  1   1   2" ∷ end ∷ []) ≡ at Radical 6
unfolding element_of symbol_of value field_shows version_of is_well_formed counted symbol_in atom_line_shows atom_of charge_in isotope_in atom_line_of type_in pair_in bond_line_shows bond_of passes_next property_of entry_count entry_number entry_at entries_of entry_kinds sgroup_kinds property_line_shows
radical = refl

no_radical : first (header ++ counts ∷ oxygen ∷ codes "M  RAD  1   1   0" ∷ end ∷ []) ≡ None
unfolding element_of symbol_of value field_shows version_of is_well_formed counted symbol_in atom_line_shows atom_of charge_in isotope_in atom_line_of type_in pair_in bond_line_shows bond_of passes_next property_of entry_count entry_number entry_at entries_of entry_kinds sgroup_kinds property_line_shows
no_radical = refl

reaction : first (codes "$RXN" ∷ [] ∷ [] ∷ counts ∷ oxygen ∷ end ∷ []) ≡ at ReactionFile 1
unfolding element_of symbol_of value field_shows version_of is_well_formed counted symbol_in atom_line_shows atom_of charge_in isotope_in atom_line_of type_in pair_in bond_line_shows bond_of passes_next property_of entry_count entry_number entry_at entries_of entry_kinds sgroup_kinds property_line_shows
reaction = refl

missing_atom : first (header ++ with_bond ∷ oxygen ∷ codes "  1  2  1  0" ∷ end ∷ []) ≡ at AtomNumber 6
unfolding element_of symbol_of value field_shows version_of is_well_formed counted symbol_in atom_line_shows atom_of charge_in isotope_in atom_line_of type_in pair_in bond_line_shows bond_of passes_next property_of entry_count entry_number entry_at entries_of entry_kinds sgroup_kinds property_line_shows
missing_atom = refl

itself : first (header ++ with_bond ∷ oxygen ∷ codes "  1  1  1  0" ∷ end ∷ []) ≡ at BondPair 6
unfolding element_of symbol_of value field_shows version_of is_well_formed counted symbol_in atom_line_shows atom_of charge_in isotope_in atom_line_of type_in pair_in bond_line_shows bond_of passes_next property_of entry_count entry_number entry_at entries_of entry_kinds sgroup_kinds property_line_shows
itself = refl

query_bond : first (header ++ with_bond ∷ oxygen ∷ codes "  1  2  8  0" ∷ end ∷ []) ≡ at Query 6
unfolding element_of symbol_of value field_shows version_of is_well_formed counted symbol_in atom_line_shows atom_of charge_in isotope_in atom_line_of type_in pair_in bond_line_shows bond_of passes_next property_of entry_count entry_number entry_at entries_of entry_kinds sgroup_kinds property_line_shows
query_bond = refl

other_bond : first (header ++ with_bond ∷ oxygen ∷ codes "  1  2  9  0" ∷ end ∷ []) ≡ at BondType 6
unfolding element_of symbol_of value field_shows version_of is_well_formed counted symbol_in atom_line_shows atom_of charge_in isotope_in atom_line_of type_in pair_in bond_line_shows bond_of passes_next property_of entry_count entry_number entry_at entries_of entry_kinds sgroup_kinds property_line_shows
other_bond = refl

replaced : first ([] ∷ [] ∷ [] ∷ codes "  2  1  0  0  0  0            999 V2000" ∷ codes "    0.0000    0.0000    0.0000 N   0  3" ∷ codes "    1.0000    0.0000    0.0000 O   0  5" ∷ codes "  1  2  1  0" ∷ codes "M  CHG  1   2  -1" ∷ end ∷ []) ≡ None
unfolding element_of symbol_of value field_shows version_of is_well_formed counted symbol_in atom_line_shows atom_of charge_in isotope_in atom_line_of type_in pair_in bond_line_shows bond_of passes_next property_of entry_count entry_number entry_at entries_of entry_kinds sgroup_kinds property_line_shows
replaced = refl

replaced_charges : map (λ (a : TableAtom). a.charge) (table_atoms ([] ∷ [] ∷ [] ∷ codes "  2  1  0  0  0  0            999 V2000" ∷ codes "    0.0000    0.0000    0.0000 N   0  3" ∷ codes "    1.0000    0.0000    0.0000 O   0  5" ∷ codes "  1  2  1  0" ∷ codes "M  CHG  1   2  -1" ∷ end ∷ [])) ≡ pos 0 ∷ negsuc 0 ∷ []
unfolding element_of symbol_of value field_shows version_of is_well_formed counted symbol_in atom_line_shows atom_of charge_in isotope_in atom_line_of type_in pair_in bond_line_shows bond_of passes_next property_of entry_count entry_number entry_at entries_of entry_kinds sgroup_kinds property_line_shows
replaced_charges = refl

alanine : first (codes "L-alanine" ∷ codes "     drawn          2D" ∷ [] ∷ codes "  6  5  0  0  0  0  0  0  0  0999 V2000" ∷ codes "   -1.0000   -1.0000    0.0000 N   0  0  0  0  0  0  0  0  0  0  0  0" ∷ codes "    0.0000    0.0000    0.0000 C   0  0  0  0  0  0  0  0  0  0  0  0" ∷ codes "    0.0000    1.0000    0.0000 C   0  0  0  0  0  0  0  0  0  0  0  0" ∷ codes "    1.0000   -1.0000    0.0000 C   0  0  0  0  0  0  0  0  0  0  0  0" ∷ codes "    2.0000    0.0000    0.0000 O   0  0  0  0  0  0  0  0  0  0  0  0" ∷ codes "    1.0000   -2.0000    0.0000 O   0  0  0  0  0  0  0  0  0  0  0  0" ∷ codes "  2  1  1  1" ∷ codes "  2  3  1  0" ∷ codes "  2  4  1  0" ∷ codes "  4  5  2  0" ∷ codes "  4  6  1  0" ∷ codes "M  END" ∷ []) ≡ None
unfolding element_of symbol_of value field_shows version_of is_well_formed counted symbol_in atom_line_shows atom_of charge_in isotope_in atom_line_of type_in pair_in bond_line_shows bond_of passes_next property_of entry_count entry_number entry_at entries_of entry_kinds sgroup_kinds property_line_shows
alanine = refl

alanine_bonds : table_bonds (codes "L-alanine" ∷ codes "     drawn          2D" ∷ [] ∷ codes "  6  5  0  0  0  0  0  0  0  0999 V2000" ∷ codes "   -1.0000   -1.0000    0.0000 N   0  0  0  0  0  0  0  0  0  0  0  0" ∷ codes "    0.0000    0.0000    0.0000 C   0  0  0  0  0  0  0  0  0  0  0  0" ∷ codes "    0.0000    1.0000    0.0000 C   0  0  0  0  0  0  0  0  0  0  0  0" ∷ codes "    1.0000   -1.0000    0.0000 C   0  0  0  0  0  0  0  0  0  0  0  0" ∷ codes "    2.0000    0.0000    0.0000 O   0  0  0  0  0  0  0  0  0  0  0  0" ∷ codes "    1.0000   -2.0000    0.0000 O   0  0  0  0  0  0  0  0  0  0  0  0" ∷ codes "  2  1  1  1" ∷ codes "  2  3  1  0" ∷ codes "  2  4  1  0" ∷ codes "  4  5  2  0" ∷ codes "  4  6  1  0" ∷ codes "M  END" ∷ []) ≡ record { first = 1; second = 0; order = 1; mark = Up; line = 11 } ∷ record { first = 1; second = 2; order = 1; mark = Plain; line = 12 } ∷ record { first = 1; second = 3; order = 1; mark = Plain; line = 13 } ∷ record { first = 3; second = 4; order = 2; mark = Plain; line = 14 } ∷ record { first = 3; second = 5; order = 1; mark = Plain; line = 15 } ∷ []
unfolding element_of symbol_of value field_shows version_of is_well_formed counted symbol_in atom_line_shows atom_of charge_in isotope_in atom_line_of type_in pair_in bond_line_shows bond_of passes_next property_of entry_count entry_number entry_at entries_of entry_kinds sgroup_kinds property_line_shows
alanine_bonds = refl

crotonate : first (codes "sodium crotonate" ∷ codes "     drawn          2D" ∷ [] ∷ codes "  7  5  0  0  0  0  0  0  0  0999 V2000" ∷ codes "    0.0000    0.0000    0.0000 C   0  0  0  0  0  0  0  0  0  0  0  0" ∷ codes "    1.0000    1.0000    0.0000 C   0  0  0  0  0  0  0  0  0  0  0  0" ∷ codes "    2.0000    0.0000    0.0000 C   0  0  0  0  0  0  0  0  0  0  0  0" ∷ codes "    3.0000    1.0000    0.0000 C   0  0  0  0  0  0  0  0  0  0  0  0" ∷ codes "    4.0000    0.0000    0.0000 O   0  0  0  0  0  0  0  0  0  0  0  0" ∷ codes "    3.0000    2.0000    0.0000 O   0  0  0  0  0  0  0  0  0  0  0  0" ∷ codes "    5.0000    2.0000    0.0000 Na  0  0  0  0  0  0  0  0  0  0  0  0" ∷ codes "  1  2  1  0" ∷ codes "  2  3  2  0" ∷ codes "  3  4  1  0" ∷ codes "  4  5  2  0" ∷ codes "  4  6  1  0" ∷ codes "M  CHG  2   6  -1   7   1" ∷ codes "M  END" ∷ []) ≡ None
unfolding element_of symbol_of value field_shows version_of is_well_formed counted symbol_in atom_line_shows atom_of charge_in isotope_in atom_line_of type_in pair_in bond_line_shows bond_of passes_next property_of entry_count entry_number entry_at entries_of entry_kinds sgroup_kinds property_line_shows
crotonate = refl

crotonate_charges : map (λ (a : TableAtom). a.charge) (table_atoms (codes "sodium crotonate" ∷ codes "     drawn          2D" ∷ [] ∷ codes "  7  5  0  0  0  0  0  0  0  0999 V2000" ∷ codes "    0.0000    0.0000    0.0000 C   0  0  0  0  0  0  0  0  0  0  0  0" ∷ codes "    1.0000    1.0000    0.0000 C   0  0  0  0  0  0  0  0  0  0  0  0" ∷ codes "    2.0000    0.0000    0.0000 C   0  0  0  0  0  0  0  0  0  0  0  0" ∷ codes "    3.0000    1.0000    0.0000 C   0  0  0  0  0  0  0  0  0  0  0  0" ∷ codes "    4.0000    0.0000    0.0000 O   0  0  0  0  0  0  0  0  0  0  0  0" ∷ codes "    3.0000    2.0000    0.0000 O   0  0  0  0  0  0  0  0  0  0  0  0" ∷ codes "    5.0000    2.0000    0.0000 Na  0  0  0  0  0  0  0  0  0  0  0  0" ∷ codes "  1  2  1  0" ∷ codes "  2  3  2  0" ∷ codes "  3  4  1  0" ∷ codes "  4  5  2  0" ∷ codes "  4  6  1  0" ∷ codes "M  CHG  2   6  -1   7   1" ∷ codes "M  END" ∷ [])) ≡ pos 0 ∷ pos 0 ∷ pos 0 ∷ pos 0 ∷ pos 0 ∷ negsuc 0 ∷ pos 1 ∷ []
unfolding element_of symbol_of value field_shows version_of is_well_formed counted symbol_in atom_line_shows atom_of charge_in isotope_in atom_line_of type_in pair_in bond_line_shows bond_of passes_next property_of entry_count entry_number entry_at entries_of entry_kinds sgroup_kinds property_line_shows
crotonate_charges = refl

ten_valences : first ([] ∷ [] ∷ [] ∷ codes "  1  0  0  0  0  0            999 V2000" ∷ codes "    0.0000    0.0000    0.0000 C   0  0  0  0  0 10" ∷ end ∷ []) ≡ None
unfolding element_of symbol_of value field_shows version_of is_well_formed counted symbol_in atom_line_shows atom_of charge_in isotope_in atom_line_of type_in pair_in bond_line_shows bond_of passes_next property_of entry_count entry_number entry_at entries_of entry_kinds sgroup_kinds property_line_shows
ten_valences = refl

ten_valences_atom : map (λ (a : TableAtom). a.valence) (table_atoms ([] ∷ [] ∷ [] ∷ codes "  1  0  0  0  0  0            999 V2000" ∷ codes "    0.0000    0.0000    0.0000 C   0  0  0  0  0 10" ∷ end ∷ [])) ≡ Some 10 ∷ []
unfolding element_of symbol_of value field_shows version_of is_well_formed counted symbol_in atom_line_shows atom_of charge_in isotope_in atom_line_of type_in pair_in bond_line_shows bond_of passes_next property_of entry_count entry_number entry_at entries_of entry_kinds sgroup_kinds property_line_shows
ten_valences_atom = refl

triene_marks : map (λ (b : TableBond). b.mark) (table_bonds (codes "triene" ∷ [] ∷ [] ∷ codes "  8  7  0  0  0  0            999 V2000" ∷ codes "    0.0000    0.0000    0.0000 F" ∷ codes "    1.0000    1.0000    0.0000 C" ∷ codes "    2.0000    0.0000    0.0000 C" ∷ codes "    3.0000    1.0000    0.0000 C" ∷ codes "    4.0000    0.0000    0.0000 C" ∷ codes "    5.0000    1.0000    0.0000 C" ∷ codes "    6.0000    0.0000    0.0000 C" ∷ codes "    7.0000    1.0000    0.0000 F" ∷ codes "  1  2  1  0" ∷ codes "  2  3  2  0" ∷ codes "  3  4  1  0" ∷ codes "  4  5  2  3" ∷ codes "  5  6  1  0" ∷ codes "  6  7  2  0" ∷ codes "  7  8  1  0" ∷ codes "M  END" ∷ [])) ≡ Plain ∷ Plain ∷ Plain ∷ Either ∷ Plain ∷ Plain ∷ Plain ∷ []
unfolding element_of symbol_of value field_shows version_of is_well_formed counted symbol_in atom_line_shows atom_of charge_in isotope_in atom_line_of type_in pair_in bond_line_shows bond_of passes_next property_of entry_count entry_number entry_at entries_of entry_kinds sgroup_kinds property_line_shows
triene_marks = refl

gap : first (codes "gap" ∷ [] ∷ [] ∷ codes "  4  3  0  0  0  0            999 V2000" ∷ codes "    0.0000    0.0000    0.0000 C" ∷ codes "   -1.0000    1.0000    0.0000 F" ∷ codes "    0.0000    1.0000    0.0000 Cl" ∷ codes "    1.0000    1.0000    0.0000 Br" ∷ codes "  1  2  1  1" ∷ codes "  1  3  1  0" ∷ codes "  1  4  1  0" ∷ codes "M  END" ∷ []) ≡ None
unfolding element_of symbol_of value field_shows version_of is_well_formed counted symbol_in atom_line_shows atom_of charge_in isotope_in atom_line_of type_in pair_in bond_line_shows bond_of passes_next property_of entry_count entry_number entry_at entries_of entry_kinds sgroup_kinds property_line_shows
gap = refl

gap_places : map (λ (a : TableAtom). a.x) (table_atoms (codes "gap" ∷ [] ∷ [] ∷ codes "  4  3  0  0  0  0            999 V2000" ∷ codes "    0.0000    0.0000    0.0000 C" ∷ codes "   -1.0000    1.0000    0.0000 F" ∷ codes "    0.0000    1.0000    0.0000 Cl" ∷ codes "    1.0000    1.0000    0.0000 Br" ∷ codes "  1  2  1  1" ∷ codes "  1  3  1  0" ∷ codes "  1  4  1  0" ∷ codes "M  END" ∷ [])) ≡ pos 0 ∷ negsuc 9999 ∷ pos 0 ∷ pos 10000 ∷ []
unfolding element_of symbol_of value field_shows version_of is_well_formed counted symbol_in atom_line_shows atom_of charge_in isotope_in atom_line_of type_in pair_in bond_line_shows bond_of passes_next property_of entry_count entry_number entry_at entries_of entry_kinds sgroup_kinds property_line_shows
gap_places = refl

last_charge_counts : map (λ (a : TableAtom). a.charge) (table_atoms (header ++ counts ∷ oxygen ∷ codes "M  CHG  2   1  -1   1   2" ∷ codes "M  CHG  1   1   3" ∷ end ∷ [])) ≡ pos 3 ∷ []
unfolding element_of symbol_of value field_shows version_of is_well_formed counted symbol_in atom_line_shows atom_of charge_in isotope_in atom_line_of type_in pair_in bond_line_shows bond_of passes_next property_of entry_count entry_number entry_at entries_of entry_kinds sgroup_kinds property_line_shows
last_charge_counts = refl

mass_by_difference : map (λ (a : TableAtom). a.isotope) (table_atoms (header ++ counts ∷ codes "    0.0000    0.0000    0.0000 O   2" ∷ end ∷ [])) ≡ 18 ∷ []
unfolding element_of symbol_of value field_shows version_of is_well_formed counted symbol_in atom_line_shows atom_of charge_in isotope_in atom_line_of type_in pair_in bond_line_shows bond_of passes_next property_of entry_count entry_number entry_at entries_of entry_kinds sgroup_kinds property_line_shows
mass_by_difference = refl

deuterium_differs : first (header ++ counts ∷ codes "    0.0000    0.0000    0.0000 D   1" ∷ end ∷ []) ≡ at MassDifference 5
unfolding element_of symbol_of value field_shows version_of is_well_formed counted symbol_in atom_line_shows atom_of charge_in isotope_in atom_line_of type_in pair_in bond_line_shows bond_of passes_next property_of entry_count entry_number entry_at entries_of entry_kinds sgroup_kinds property_line_shows
deuterium_differs = refl

iso_replaces : first (header ++ counts ∷ codes "    0.0000    0.0000    0.0000 D   1" ∷ codes "M  ISO  1   1   0" ∷ end ∷ []) ≡ None
unfolding element_of symbol_of value field_shows version_of is_well_formed counted symbol_in atom_line_shows atom_of charge_in isotope_in atom_line_of type_in pair_in bond_line_shows bond_of passes_next property_of entry_count entry_number entry_at entries_of entry_kinds sgroup_kinds property_line_shows
iso_replaces = refl

not_the_end : first (header ++ counts ∷ oxygen ∷ codes "M  ENDX" ∷ codes "M  END  " ∷ end ∷ []) ≡ None
unfolding element_of symbol_of value field_shows version_of is_well_formed counted symbol_in atom_line_shows atom_of charge_in isotope_in atom_line_of type_in pair_in bond_line_shows bond_of passes_next property_of entry_count entry_number entry_at entries_of entry_kinds sgroup_kinds property_line_shows
not_the_end = refl

end_behind_alias : first (header ++ counts ∷ oxygen ∷ codes "A" ∷ end ∷ []) ≡ at ShortRecord 7
unfolding element_of symbol_of value field_shows version_of is_well_formed counted symbol_in atom_line_shows atom_of charge_in isotope_in atom_line_of type_in pair_in bond_line_shows bond_of passes_next property_of entry_count entry_number entry_at entries_of entry_kinds sgroup_kinds property_line_shows
end_behind_alias = refl

-- a BadField far below hides a Query above, and a lesser place of one kind a greater
hidden_query : first (header ++ counts ∷ codes "    0.0000    0.0000    0.0000 A" ∷ codes "x" ∷ end ∷ []) ≡ at BadField 6
unfolding element_of symbol_of value field_shows version_of is_well_formed counted symbol_in atom_line_shows atom_of charge_in isotope_in atom_line_of type_in pair_in bond_line_shows bond_of passes_next property_of entry_count entry_number entry_at entries_of entry_kinds sgroup_kinds property_line_shows
hidden_query = refl

charge_code_replaced : first (header ++ counts ∷ codes "    0.0000    0.0000    0.0000 C   0  4" ∷ codes "M  RAD  1   1   0" ∷ end ∷ []) ≡ None
unfolding element_of symbol_of value field_shows version_of is_well_formed counted symbol_in atom_line_shows atom_of charge_in isotope_in atom_line_of type_in pair_in bond_line_shows bond_of passes_next property_of entry_count entry_number entry_at entries_of entry_kinds sgroup_kinds property_line_shows
charge_code_replaced = refl

radical_code : first (header ++ counts ∷ codes "    0.0000    0.0000    0.0000 C   0  4" ∷ end ∷ []) ≡ at Radical 5
unfolding element_of symbol_of value field_shows version_of is_well_formed counted symbol_in atom_line_shows atom_of charge_in isotope_in atom_line_of type_in pair_in bond_line_shows bond_of passes_next property_of entry_count entry_number entry_at entries_of entry_kinds sgroup_kinds property_line_shows
radical_code = refl

other_isotope_kept : map (λ (a : TableAtom). a.isotope) (table_atoms (header ++ codes "  2  0  0  0  0  0            999 V2000" ∷ codes "    0.0000    0.0000    0.0000 D" ∷ codes "    1.0000    0.0000    0.0000 C" ∷ codes "M  ISO  1   2  13" ∷ end ∷ [])) ≡ 2 ∷ 13 ∷ []
unfolding element_of symbol_of value field_shows version_of is_well_formed counted symbol_in atom_line_shows atom_of charge_in isotope_in atom_line_of type_in pair_in bond_line_shows bond_of passes_next property_of entry_count entry_number entry_at entries_of entry_kinds sgroup_kinds property_line_shows
other_isotope_kept = refl

zero_valence : map (λ (a : TableAtom). a.valence) (table_atoms (header ++ counts ∷ codes "    0.0000    0.0000    0.0000 C   0  0  0  0  0 15" ∷ end ∷ [])) ≡ Some 0 ∷ []
unfolding element_of symbol_of value field_shows version_of is_well_formed counted symbol_in atom_line_shows atom_of charge_in isotope_in atom_line_of type_in pair_in bond_line_shows bond_of passes_next property_of entry_count entry_number entry_at entries_of entry_kinds sgroup_kinds property_line_shows
zero_valence = refl

lists_query : first (header ++ codes "  1  0  1  0  0  0            999 V2000" ∷ oxygen ∷ [] ∷ end ∷ []) ≡ at Query 4
unfolding element_of symbol_of value field_shows version_of is_well_formed counted symbol_in atom_line_shows atom_of charge_in isotope_in atom_line_of type_in pair_in bond_line_shows bond_of passes_next property_of entry_count entry_number entry_at entries_of entry_kinds sgroup_kinds property_line_shows
lists_query = refl

bad_entry_count : first (header ++ counts ∷ oxygen ∷ codes "M  CHG  9   1   1" ∷ end ∷ []) ≡ at BadField 6
unfolding element_of symbol_of value field_shows version_of is_well_formed counted symbol_in atom_line_shows atom_of charge_in isotope_in atom_line_of type_in pair_in bond_line_shows bond_of passes_next property_of entry_count entry_number entry_at entries_of entry_kinds sgroup_kinds property_line_shows
bad_entry_count = refl

negative_mass : first (header ++ counts ∷ oxygen ∷ codes "M  ISO  2   1  -1   1  18" ∷ end ∷ []) ≡ at BadField 6
unfolding element_of symbol_of value field_shows version_of is_well_formed counted symbol_in atom_line_shows atom_of charge_in isotope_in atom_line_of type_in pair_in bond_line_shows bond_of passes_next property_of entry_count entry_number entry_at entries_of entry_kinds sgroup_kinds property_line_shows
negative_mass = refl

entry_of_no_atom : first (header ++ counts ∷ oxygen ∷ codes "M  CHG  1   2   1" ∷ end ∷ []) ≡ at AtomNumber 6
unfolding element_of symbol_of value field_shows version_of is_well_formed counted symbol_in atom_line_shows atom_of charge_in isotope_in atom_line_of type_in pair_in bond_line_shows bond_of passes_next property_of entry_count entry_number entry_at entries_of entry_kinds sgroup_kinds property_line_shows
entry_of_no_atom = refl
