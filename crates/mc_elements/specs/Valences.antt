-- The tables of valences, and the hydrogens that a list of valences implies.
use Rattle.std.specs.Prelude.{ℕ, zero, suc, ◌-◌, ◌≤◌, nat_le, if◌then◌else◌, List, [], ◌∷◌, Option, Some, None, ℤ, pos, negsuc, Contains}
use Rattle.mc_elements.specs.declared.element.Element.{Element}
use Rattle.mc_elements.specs.declared.element.Element.TheVariants.{H, B, C, N, O, F, Si, P, S, Cl, Ge, As, Se, Br, I}

-- the normal valences of the organic subset (OpenSMILES 1.0, section 3.1.5)
abbrev pub smiles_valences : Element → List ℕ
smiles_valences B = 3 ∷ []
smiles_valences C = 4 ∷ []
smiles_valences N = 3 ∷ 5 ∷ []
smiles_valences O = 2 ∷ []
smiles_valences P = 3 ∷ 5 ∷ []
smiles_valences S = 2 ∷ 4 ∷ 6 ∷ []
smiles_valences F = 1 ∷ []
smiles_valences Cl = 1 ∷ []
smiles_valences Br = 1 ∷ []
smiles_valences I = 1 ∷ []
smiles_valences _ = []

-- a list for no charge, one for the charge +1 and one for -1; any other charge has none
abbrev pub by_charge : ℤ → List ℕ → List ℕ → List ℕ → List ℕ
by_charge (pos zero) neutral cation anion = neutral
by_charge (pos (suc zero)) neutral cation anion = cation
by_charge (pos (suc (suc n))) neutral cation anion = []
by_charge (negsuc zero) neutral cation anion = anion
by_charge (negsuc (suc n)) neutral cation anion = []

-- the valences of an atom in lower case (this project's own)
abbrev pub aromatic_valences : Element → ℤ → List ℕ
aromatic_valences B charge = by_charge charge (3 ∷ []) [] (4 ∷ [])
aromatic_valences C charge = by_charge charge (4 ∷ []) (3 ∷ []) (3 ∷ [])
aromatic_valences N charge = by_charge charge (3 ∷ 5 ∷ []) (4 ∷ []) (2 ∷ [])
aromatic_valences P charge = by_charge charge (3 ∷ 5 ∷ []) (4 ∷ []) (2 ∷ [])
aromatic_valences As charge = by_charge charge (3 ∷ 5 ∷ []) (4 ∷ []) (2 ∷ [])
aromatic_valences O charge = by_charge charge (2 ∷ []) (3 ∷ []) (1 ∷ [])
aromatic_valences S charge = by_charge charge (2 ∷ 4 ∷ 6 ∷ []) (3 ∷ 5 ∷ []) (1 ∷ [])
aromatic_valences Se charge = by_charge charge (2 ∷ 4 ∷ 6 ∷ []) (3 ∷ 5 ∷ []) (1 ∷ [])
aromatic_valences _ charge = []

-- the valences of an atom of a CTfile: those of a lower-case atom, and some more without charge
-- (this project's own)
abbrev pub ct_valences : Element → ℤ → List ℕ
ct_valences F charge = by_charge charge (1 ∷ []) [] []
ct_valences Cl charge = by_charge charge (1 ∷ []) [] []
ct_valences Br charge = by_charge charge (1 ∷ []) [] []
ct_valences I charge = by_charge charge (1 ∷ []) [] []
ct_valences Si charge = by_charge charge (4 ∷ []) [] []
ct_valences Ge charge = by_charge charge (4 ∷ []) [] []
ct_valences e charge = aromatic_valences e charge

-- the least valence of the list at or above the sum
pub record IsLeastValence (list : List ℕ) (sum valence : ℕ) : Type 0 where
  pub listed : Contains list valence
  pub enough : sum ≤ valence
  pub least : (other : ℕ) → Contains list other → sum ≤ other → valence ≤ other

-- the first valence at or above the sum, less the sum; of a rising list it is the least
abbrev pub implied : List ℕ → ℕ → ℕ
implied [] sum = 0
implied (valence ∷ list) sum = if nat_le sum valence then valence - sum else implied list sum

-- the mass from which a mass difference of a CTfile counts (this project's own; the masses are those
-- of the most abundant isotope)
abbrev pub reference_mass : Element → Option ℕ
reference_mass H = Some 1
reference_mass C = Some 12
reference_mass N = Some 14
reference_mass O = Some 16
reference_mass F = Some 19
reference_mass P = Some 31
reference_mass S = Some 32
reference_mass I = Some 127
reference_mass _ = None
