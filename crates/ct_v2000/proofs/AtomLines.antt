-- What an atom line shows, part by part.
use Rattle.std.proofs.Common.{◌≡◌, ℕ, List, Option, ap, sym, ◌∙◌, ℤ}
use Rattle.std.specs.Prelude.{unsigned_abs}
use Rattle.ct_sd.specs.declared.symbol.Symbol.{Symbol}
use Rattle.ct_sd.specs.declared.table.TableAtom.{TableAtom}
use Rattle.ct_sd.specs.declared.fault.Fault.{Fault}
use Rattle.ct_sd.specs.declared.field.Field.{Field}
use Rattle.ct_sd.specs.Faults.{first_of, faults_at}
use Rattle.ct_sd.specs.Fields.{after_fields, value}
use Rattle.ct_sd.specs.Symbols.{symbol_shows, element_said, isotope_said}
use Rattle.ct_sd.proofs.First.{line_first}
use Rattle.ct_v2000.specs.declared.atom_line.Parts.{Parts}
use Rattle.ct_v2000.specs.AtomParts.{atom_by}
use Rattle.ct_v2000.specs.declared.atom_line.AtomLine.{AtomLine}
use Rattle.ct_v2000.specs.AtomLines.{atom_line_of, charge_in, isotope_in, isotope_by, difference_field, atom_line_shows, atom_fields, place_fields, middle_fields, last_fields, symbol_in, atom_of, charge_of_code, valence_marked, code_field, mapping_field, valence_field, x_field, y_field, z_field}

-- the fields from left to right, and then the symbol
pub four_parts : (k : ℕ) (line : List ℕ) (symbol : Symbol) (f0 f1 f2 f3 f4 : Option Fault)
    → symbol ≡ symbol_in line
    → f1 ≡ after_fields k line f0 place_fields
    → f2 ≡ after_fields k line f1 middle_fields
    → f3 ≡ after_fields k line f2 last_fields
    → f4 ≡ first_of f3 (faults_at k (symbol_shows symbol))
    → f4 ≡ first_of f0 (faults_at k (atom_line_shows line))
unfolding atom_line_shows
four_parts k line symbol f0 f1 f2 f3 f4 is e1 e2 e3 e4 =
    e4 ∙ (ap (λ (s : Symbol). first_of f3 (faults_at k (symbol_shows s))) is ∙ (ap next (e3 ∙ ap (part last_fields) (e2 ∙ ap (part middle_fields) e1)) ∙ sym (line_first k line f0 atom_fields (symbol_shows (symbol_in line)))))
  where
    part : List Field → Option Fault → Option Fault
    part fields first = after_fields k line first fields

    next : Option Fault → Option Fault
    next first = first_of first (faults_at k (symbol_shows (symbol_in line)))

-- the atom, part by part
pub atom_is : (k : ℕ) (line : List ℕ) (parts : Parts) (atom : TableAtom) → atom ≡ atom_by parts k
    → parts.symbol ≡ symbol_in line
    → parts.class ≡ unsigned_abs (value mapping_field line) → parts.middle.valence ≡ unsigned_abs (value valence_field line)
    → parts.at.x ≡ value x_field line → parts.at.y ≡ value y_field line → parts.at.z ≡ value z_field line
    → atom ≡ atom_of k line
unfolding atom_of
atom_is k line parts atom is s cl v ex ey ez =
    is ∙ (ap (λ (t : Symbol). record (atom_by parts k) { element = element_said t; isotope = isotope_said t }) s
    ∙ (ap (λ (t : ℕ). record (atom_of k line) { class = t; valence = valence_marked parts.middle.valence; x = parts.at.x; y = parts.at.y; z = parts.at.z }) cl
    ∙ (ap (λ (t : ℕ). record (atom_of k line) { valence = valence_marked t; x = parts.at.x; y = parts.at.y; z = parts.at.z }) v
    ∙ (ap (λ (t : ℤ). record (atom_of k line) { x = t; y = parts.at.y; z = parts.at.z }) ex
    ∙ (ap (λ (t : ℤ). record (atom_of k line) { y = t; z = parts.at.z }) ey
    ∙ ap (λ (t : ℤ). record (atom_of k line) { z = t }) ez)))))

abbrev made : TableAtom → Option ℤ → Option ℕ → AtomLine
made atom charge isotope = record { atom = atom; charge = charge; isotope = isotope }

-- the line, part by part
pub line_is : (k : ℕ) (line : List ℕ) (parts : Parts) (atom : TableAtom) (charge : Option ℤ) (isotope : Option ℕ)
    → atom ≡ atom_of k line
    → charge ≡ charge_of_code parts.middle.code → parts.middle.code ≡ unsigned_abs (value code_field line)
    → isotope ≡ isotope_by parts.symbol parts.middle.difference → parts.symbol ≡ symbol_in line → parts.middle.difference ≡ value difference_field line
    → made atom charge isotope ≡ atom_line_of k line
unfolding atom_line_of charge_in isotope_in
line_is k line parts atom charge isotope a c code i symbol difference =
    ap (λ (t : TableAtom). made t charge isotope) a
    ∙ (ap (λ (t : Option ℤ). made (atom_of k line) t isotope) (c ∙ ap charge_of_code code)
    ∙ ap (λ (t : Option ℕ). made (atom_of k line) (charge_in line) t)
    (i ∙ (ap (λ (t : Symbol). isotope_by t parts.middle.difference) symbol ∙ ap (λ (t : ℤ). isotope_by (symbol_in line) t) difference)))
