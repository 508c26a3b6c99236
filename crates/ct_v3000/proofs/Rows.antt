-- Rows worked by hand: records of the V3000 format, their tables and the kinds that they show.
use Rattle.std.specs.Prelude.{◌≡◌, ℕ, List, [], ◌∷◌, ◌++◌, Option, Some, None, codes, refl, pos, negsuc}
use Rattle.mc_base.specs.declared.kind.Kind.TheVariants.{ShortRecord, BadField, Query, EnhancedStereo, AtomNumber}
use Rattle.mc_base.specs.declared.kind.Kind.{Kind}
use Rattle.mc_elements.specs.declared.element.Element.TheVariants.{O, C}
use Rattle.mc_elements.specs.Elements.{element_of}
use Rattle.ct_sd.specs.declared.fault.Fault.{Fault}
use Rattle.ct_sd.specs.declared.table.DrawMark.TheVariants.{Plain}
use Rattle.ct_sd.specs.Faults.{first_of}
use Rattle.ct_sd.specs.Symbols.{symbol_of}
use Rattle.ct_v3000.specs.Joined.{has_prefix, text_behind, goes_on, without_last}
use Rattle.ct_v3000.specs.Words.{words_of}
use Rattle.ct_v3000.specs.Numbers.{unsigned_of, signed_of, value_of}
use Rattle.ct_v3000.specs.Keys.{atom_rule, bond_rule, key_shows, keys_show}
use Rattle.ct_v3000.specs.Blocks.{between_blocks, step_by, passed_text}
use Rattle.ct_v3000.specs.AtomLines.{number_in, index_shows, type_in, place_in, place_shows, places_show, number_shows, charge_in, isotope_in, valence_in, fields_show, atom_line_shows, atom_of}
use Rattle.ct_v3000.specs.BondLines.{type_range_shows, bond_type_in, ends_in, configuration_in, bond_numbers_show, bond_line_shows, bond_of}
use Rattle.ct_v3000.specs.OtherLines.{sgroup_line_shows, collection_line_shows}
use Rattle.ct_v3000.specs.Table.{record_faults, table_atoms, table_bonds}

abbrev first : List (List ℕ) → Option Fault
first lines = first_of None (record_faults lines)

abbrev at : Kind → ℕ → Option Fault
at kind place = Some (record { kind = kind; place = place })

abbrev text : List ℕ → List ℕ
text line = codes "M  V30 " ++ line

abbrev header : List (List ℕ)
header = codes "odd" ∷ [] ∷ [] ∷ codes "  0  0  0     0  0            999 V3000" ∷ text (codes "BEGIN CTAB") ∷ []

abbrev begin : List (List ℕ)
begin = text (codes "COUNTS 3 1 0 0 0") ∷ text (codes "BEGIN ATOM") ∷ text (codes "7 C 0 0 0 0") ∷ text (codes "3 O 1.250000 -") ∷ text (codes "0.000000 0 0") ∷ []

abbrev third : List (List ℕ)
third = text (codes "100 C 5.5 -1.123456 0 0 VAL=-1") ∷ []

abbrev bonds : List (List ℕ)
bonds = text (codes "END ATOM") ∷ text (codes "BEGIN BOND") ∷ text (codes "1 1 7 3") ∷ text (codes "END BOND") ∷ []

abbrev collection : List ℕ → List (List ℕ)
collection line = text (codes "BEGIN COLLECTION") ∷ text line ∷ text (codes "END COLLECTION") ∷ []

abbrev end : List (List ℕ)
end = text (codes "END CTAB") ∷ codes "M  END" ∷ []

abbrev absolute : List (List ℕ)
absolute = collection (codes "MDLV30/STEABS ATOMS=(1 7)")

abbrev odd_lines : List (List ℕ)
odd_lines = header ++ (begin ++ (third ++ (bonds ++ (absolute ++ end))))

abbrev with_third : List ℕ → List (List ℕ)
with_third line = header ++ (begin ++ (text line ∷ (bonds ++ end)))

odd : first odd_lines ≡ None
unfolding element_of symbol_of has_prefix text_behind goes_on without_last words_of unsigned_of signed_of value_of atom_rule bond_rule key_shows keys_show between_blocks step_by passed_text number_in index_shows type_in place_in place_shows places_show number_shows charge_in isotope_in valence_in fields_show atom_line_shows atom_of type_range_shows bond_type_in ends_in configuration_in bond_numbers_show bond_line_shows bond_of sgroup_line_shows collection_line_shows
odd = refl

odd_atoms : table_atoms odd_lines ≡ record { element = C; isotope = 0; charge = pos 0; class = 0; valence = None; x = pos 0; y = pos 0; z = pos 0; line = 8 } ∷ record { element = O; isotope = 0; charge = pos 0; class = 0; valence = None; x = pos 12500; y = pos 0; z = pos 0; line = 9 } ∷ record { element = C; isotope = 0; charge = pos 0; class = 0; valence = Some 0; x = pos 55000; y = negsuc 11233; z = pos 0; line = 11 } ∷ []
unfolding element_of symbol_of has_prefix text_behind goes_on without_last words_of unsigned_of signed_of value_of atom_rule bond_rule key_shows keys_show between_blocks step_by passed_text number_in index_shows type_in place_in place_shows places_show number_shows charge_in isotope_in valence_in fields_show atom_line_shows atom_of type_range_shows bond_type_in ends_in configuration_in bond_numbers_show bond_line_shows bond_of sgroup_line_shows collection_line_shows
odd_atoms = refl

odd_bonds : table_bonds odd_lines ≡ record { first = 0; second = 1; order = 1; mark = Plain; line = 14 } ∷ []
unfolding element_of symbol_of has_prefix text_behind goes_on without_last words_of unsigned_of signed_of value_of atom_rule bond_rule key_shows keys_show between_blocks step_by passed_text number_in index_shows type_in place_in place_shows places_show number_shows charge_in isotope_in valence_in fields_show atom_line_shows atom_of type_range_shows bond_type_in ends_in configuration_in bond_numbers_show bond_line_shows bond_of sgroup_line_shows collection_line_shows
odd_bonds = refl

four_counted : first (header ++ (text (codes "COUNTS 4 1 0 0 0") ∷ text (codes "BEGIN ATOM") ∷ text (codes "7 C 0 0 0 0") ∷ text (codes "3 O 1 0 0 0") ∷ text (codes "100 C 2 0 0 0") ∷ (bonds ++ end))) ≡ at BadField 11
unfolding element_of symbol_of has_prefix text_behind goes_on without_last words_of unsigned_of signed_of value_of atom_rule bond_rule key_shows keys_show between_blocks step_by passed_text number_in index_shows type_in place_in place_shows places_show number_shows charge_in isotope_in valence_in fields_show atom_line_shows atom_of type_range_shows bond_type_in ends_in configuration_in bond_numbers_show bond_line_shows bond_of sgroup_line_shows collection_line_shows
four_counted = refl

index_again : first (with_third (codes "7 C 0 0 0 0")) ≡ at AtomNumber 11
unfolding element_of symbol_of has_prefix text_behind goes_on without_last words_of unsigned_of signed_of value_of atom_rule bond_rule key_shows keys_show between_blocks step_by passed_text number_in index_shows type_in place_in place_shows places_show number_shows charge_in isotope_in valence_in fields_show atom_line_shows atom_of type_range_shows bond_type_in ends_in configuration_in bond_numbers_show bond_line_shows bond_of sgroup_line_shows collection_line_shows
index_again = refl

index_zero : first (with_third (codes "0 C 0 0 0 0")) ≡ at BadField 11
unfolding element_of symbol_of has_prefix text_behind goes_on without_last words_of unsigned_of signed_of value_of atom_rule bond_rule key_shows keys_show between_blocks step_by passed_text number_in index_shows type_in place_in place_shows places_show number_shows charge_in isotope_in valence_in fields_show atom_line_shows atom_of type_range_shows bond_type_in ends_in configuration_in bond_numbers_show bond_line_shows bond_of sgroup_line_shows collection_line_shows
index_zero = refl

index_too_great : first (with_third (codes "4294967296 C 0 0 0 0")) ≡ at BadField 11
unfolding element_of symbol_of has_prefix text_behind goes_on without_last words_of unsigned_of signed_of value_of atom_rule bond_rule key_shows keys_show between_blocks step_by passed_text number_in index_shows type_in place_in place_shows places_show number_shows charge_in isotope_in valence_in fields_show atom_line_shows atom_of type_range_shows bond_type_in ends_in configuration_in bond_numbers_show bond_line_shows bond_of sgroup_line_shows collection_line_shows
index_too_great = refl

query_type : first (with_third (codes "100 [N,O] 0 0 0 0")) ≡ at Query 11
unfolding element_of symbol_of has_prefix text_behind goes_on without_last words_of unsigned_of signed_of value_of atom_rule bond_rule key_shows keys_show between_blocks step_by passed_text number_in index_shows type_in place_in place_shows places_show number_shows charge_in isotope_in valence_in fields_show atom_line_shows atom_of type_range_shows bond_type_in ends_in configuration_in bond_numbers_show bond_line_shows bond_of sgroup_line_shows collection_line_shows
query_type = refl

second_key : first (with_third (codes "100 C 0 0 0 0 VAL=-1 VAL=2")) ≡ at BadField 11
unfolding element_of symbol_of has_prefix text_behind goes_on without_last words_of unsigned_of signed_of value_of atom_rule bond_rule key_shows keys_show between_blocks step_by passed_text number_in index_shows type_in place_in place_shows places_show number_shows charge_in isotope_in valence_in fields_show atom_line_shows atom_of type_range_shows bond_type_in ends_in configuration_in bond_numbers_show bond_line_shows bond_of sgroup_line_shows collection_line_shows
second_key = refl

plus_one : first (with_third (codes "100 C 0 0 0 0 VAL=+1")) ≡ at BadField 11
unfolding element_of symbol_of has_prefix text_behind goes_on without_last words_of unsigned_of signed_of value_of atom_rule bond_rule key_shows keys_show between_blocks step_by passed_text number_in index_shows type_in place_in place_shows places_show number_shows charge_in isotope_in valence_in fields_show atom_line_shows atom_of type_range_shows bond_type_in ends_in configuration_in bond_numbers_show bond_line_shows bond_of sgroup_line_shows collection_line_shows
plus_one = refl

racemic : first (header ++ (begin ++ (third ++ (bonds ++ (collection (codes "MDLV30/STERAC1 ATOMS=(1 7)") ++ end))))) ≡ at EnhancedStereo 17
unfolding element_of symbol_of has_prefix text_behind goes_on without_last words_of unsigned_of signed_of value_of atom_rule bond_rule key_shows keys_show between_blocks step_by passed_text number_in index_shows type_in place_in place_shows places_show number_shows charge_in isotope_in valence_in fields_show atom_line_shows atom_of type_range_shows bond_type_in ends_in configuration_in bond_numbers_show bond_line_shows bond_of sgroup_line_shows collection_line_shows
racemic = refl

unclosed : first (header ++ (begin ++ (third ++ (bonds ++ (collection (codes "MDLV30/STEABS ATOMS=(1 7") ++ end))))) ≡ at BadField 17
unfolding element_of symbol_of has_prefix text_behind goes_on without_last words_of unsigned_of signed_of value_of atom_rule bond_rule key_shows keys_show between_blocks step_by passed_text number_in index_shows type_in place_in place_shows places_show number_shows charge_in isotope_in valence_in fields_show atom_line_shows atom_of type_range_shows bond_type_in ends_in configuration_in bond_numbers_show bond_line_shows bond_of sgroup_line_shows collection_line_shows
unclosed = refl

link_node : first (header ++ (begin ++ (third ++ (bonds ++ (text (codes "LINKNODE 1 2") ∷ end))))) ≡ at Query 16
unfolding element_of symbol_of has_prefix text_behind goes_on without_last words_of unsigned_of signed_of value_of atom_rule bond_rule key_shows keys_show between_blocks step_by passed_text number_in index_shows type_in place_in place_shows places_show number_shows charge_in isotope_in valence_in fields_show atom_line_shows atom_of type_range_shows bond_type_in ends_in configuration_in bond_numbers_show bond_line_shows bond_of sgroup_line_shows collection_line_shows
link_node = refl

no_continuation : first (header ++ (begin ++ (third ++ (bonds ++ (text (codes "END CTAB -") ∷ codes "M  END" ∷ []))))) ≡ at BadField 17
unfolding element_of symbol_of has_prefix text_behind goes_on without_last words_of unsigned_of signed_of value_of atom_rule bond_rule key_shows keys_show between_blocks step_by passed_text number_in index_shows type_in place_in place_shows places_show number_shows charge_in isotope_in valence_in fields_show atom_line_shows atom_of type_range_shows bond_type_in ends_in configuration_in bond_numbers_show bond_line_shows bond_of sgroup_line_shows collection_line_shows
no_continuation = refl

no_end_of_table : first (header ++ (begin ++ (third ++ bonds))) ≡ at ShortRecord 15
unfolding element_of symbol_of has_prefix text_behind goes_on without_last words_of unsigned_of signed_of value_of atom_rule bond_rule key_shows keys_show between_blocks step_by passed_text number_in index_shows type_in place_in place_shows places_show number_shows charge_in isotope_in valence_in fields_show atom_line_shows atom_of type_range_shows bond_type_in ends_in configuration_in bond_numbers_show bond_line_shows bond_of sgroup_line_shows collection_line_shows
no_end_of_table = refl

words_in_brackets : words_of (codes "a  B=(1 2)x \"p q\"") ≡ Some (codes "a" ∷ codes "B=(1 2)x" ∷ codes "\"p q\"" ∷ [])
unfolding words_of
words_in_brackets = refl
