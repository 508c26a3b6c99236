-- Where no atom needs a double bond, none is placed; and the bonds of a placement.
use Rattle.std.proofs.Common.{arith, ◌≡◌, ◌∙◌, ℕ, zero, suc, ◌+◌, ◌≤◌, List, [], ◌∷◌, length, get_or, Bool, true, false, refl, ap, sym, inl, inr}
use Rattle.std.specs.Prelude.{map, ◌&&◌, ◌||◌, ◌==◌, if◌then◌else◌}
use Rattle.std.proofs.lemmas.Bool.{false≢true}
use Rattle.std.proofs.lemmas.List.{length-map}
use Rattle.mc_base.specs.declared.ids.AtomId.{AtomId}
use Rattle.mc_base.specs.declared.kind.Kind.TheVariants.{NoPlacement}
use Rattle.mc_base.specs.declared.refusal.Stop.{Stop}
use Rattle.mc_base.specs.declared.refusal.Stop.TheVariants.{Refused, NoMemory}
use Rattle.mc_mol.specs.Limits.{overvalent_at, hydrogen_on_hydrogen_at}
use Rattle.mc_mol.specs.declared.parts.Bond as bond
use Rattle.mc_mol.specs.Molecule.{Molecule, joins, touches}
use Rattle.mc_mol.specs.WellFormed.{IsBond}
use Rattle.mc_mol.proofs.Halves.{same_test}
use Rattle.smi_graph.specs.declared.skel_atom.SkelAtom.{SkelAtom}
use Rattle.smi_graph.specs.declared.text_bond.TextBond.{TextBond}
use Rattle.smi_graph.specs.Candidates.{marked}
use Rattle.smi_graph.specs.Links.{bond_of}
use Rattle.smi_graph.specs.Rules.{atoms_in, bonds_in, text_bonds_in}
use Rattle.smi_graph.specs.Skeletons.{TextGraph, AreBonds}
use Rattle.smi_mean.specs.Meaning.{atoms_with, without_stereo, with_centres, meaning_of, meaning}
use Rattle.smi_mean.specs.Meant.{AreRightMarks, CantBeMarked, CantBePlaced, IsBarred, IsFaulty, IsMeantBy, IsRefusedBy, IsUnmarkedBy, IsUnmarkedUnder, IsUnplaced}
use Rattle.smi_mean.specs.MeantCentres.{centres_in, text_centres}
use Rattle.smi_mean.specs.Needs.{needs}
use Rattle.smi_mean.specs.Placements.{placed_at, IsPlacement, raised_bond, raised, meaning_under, IsMoleculeOf}

-- The empty placement

abbrev pub none_placed : List TextBond → List Bool
none_placed bonds = map (λ b. false) bonds

none_marked : (bonds : List TextBond) (k : ℕ) → marked (none_placed bonds) k ≡ false
none_marked [] k = refl
none_marked (b ∷ bonds) zero = refl
none_marked (b ∷ bonds) (suc k) = none_marked bonds k

none_at : (bonds : List TextBond) (a : ℕ) → placed_at (map bond_of bonds) (none_placed bonds) a ≡ 0
none_at [] a = refl
none_at (b ∷ bonds) a = let rest = none_at bonds a in omega arith

none_raised : (bonds : List TextBond) → raised (none_placed bonds) (map bond_of bonds) ≡ map bond_of bonds
none_raised [] = refl
none_raised (b ∷ bonds) = ap (λ (rest : List bond.Bond). bond_of b ∷ rest) (none_raised bonds)

pub nothing_placed : (atoms : List SkelAtom) (bonds : List TextBond) → ((k : ℕ) → needs atoms (map bond_of bonds) k ≡ false) → IsPlacement atoms bonds (none_placed bonds)
nothing_placed atoms bonds none = record {
  count = length-map bonds (λ b. false);
  candidates = λ k b is placed. absurd (false≢true (sym (none_marked bonds k) ∙ placed));
  once = λ a. none_at bonds a ∙ sym (ap (λ (t : Bool). if t then 1 else 0) (none a));
}

pub meaning_of_text : (text : List ℕ) → ((k : ℕ) → needs (atoms_in text) (bonds_in text) k ≡ false) → IsMoleculeOf text (meaning text)
meaning_of_text text none = record {
  placed = none_placed (text_bonds_in text);
  placement = nothing_placed (atoms_in text) (text_bonds_in text) none;
  molecule = sym (ap (λ (bonds : List bond.Bond). with_centres (text_centres text) (without_stereo (atoms_with (bonds_in text) 0 (atoms_in text)) bonds)) (none_raised (text_bonds_in text)));
}

-- It is the only one

raised_none : (bonds : List bond.Bond) (placed : List Bool) → ((a : ℕ) → placed_at bonds placed a ≡ 0) → raised placed bonds ≡ bonds
raised_none [] placed none = refl
raised_none (b ∷ bonds) [] none = refl
raised_none (b ∷ bonds) (is_placed ∷ placed) none = by_test is_placed (none b.first.0) (raised_none bonds placed (λ a. rest is_placed a (none a)))
  where
    never : (t : Bool) (n : ℕ) → t ≡ true → (if true && t then 1 else 0) + n ≡ 0 → ⊥
    never true n h e = omega arith
    never false n h e = cc

    touched : touches b b.first.0 ≡ true
    touched = ap (λ (t : Bool). t || b.second.0 == b.first.0) (same_test b.first.0)

    rest : (t : Bool) (a : ℕ) → (if t && touches b a then 1 else 0) + placed_at bonds placed a ≡ 0 → placed_at bonds placed a ≡ 0
    rest t a e = omega arith

    by_test : (t : Bool) → (if t && touches b b.first.0 then 1 else 0) + placed_at bonds placed b.first.0 ≡ 0 → raised placed bonds ≡ bonds
        → raised_bond t b ∷ raised placed bonds ≡ b ∷ bonds
    by_test true e same = absurd (never (touches b b.first.0) (placed_at bonds placed b.first.0) touched e)
    by_test false e same = ap (λ (x : List bond.Bond). b ∷ x) same

pub only_meaning : (text : List ℕ) (m : Molecule) → ((k : ℕ) → needs (atoms_in text) (bonds_in text) k ≡ false) → IsMoleculeOf text m → m ≡ meaning text
only_meaning text m none is =
    is.molecule ∙ ap (λ (bonds : List bond.Bond). with_centres (text_centres text) (without_stereo (atoms_with (bonds_in text) 0 (atoms_in text)) bonds))
    (raised_none (bonds_in text) is.placed (λ a. is.placement.once a ∙ ap (λ (t : Bool). if t then 1 else 0) (none a)))

-- Bonds stay bonds

pub length_raised : (placed : List Bool) (bonds : List bond.Bond) → length (raised placed bonds) ≡ length bonds
length_raised placed [] = refl
length_raised [] (b ∷ bonds) = refl
length_raised (is_placed ∷ placed) (b ∷ bonds) = ap suc (length_raised placed bonds)

-- a bond of the same atoms, of its own order or 2
pub record IsRaised (b new : bond.Bond) : Type 0 where
  pub first : new.first ≡ b.first
  pub second : new.second ≡ b.second
  pub low : 1 ≤ b.order → 1 ≤ new.order
  pub high : b.order ≤ 4 → new.order ≤ 4

raised_is : (t : Bool) (b : bond.Bond) → IsRaised b (raised_bond t b)
raised_is true b = record { first = refl; second = refl; low = λ h. omega arith; high = λ h. omega arith }
raised_is false b = record { first = refl; second = refl; low = λ h. h; high = λ h. h }

raised_at : (placed : List Bool) (bonds : List bond.Bond) (k : ℕ) (d : bond.Bond) → IsRaised (get_or bonds k d) (get_or (raised placed bonds) k d)
raised_at placed [] k d = record { first = refl; second = refl; low = λ h. h; high = λ h. h }
raised_at [] (b ∷ bonds) k d = record { first = refl; second = refl; low = λ h. h; high = λ h. h }
raised_at (is_placed ∷ placed) (b ∷ bonds) zero d = raised_is is_placed b
raised_at (is_placed ∷ placed) (b ∷ bonds) (suc k) d = raised_at placed bonds k d

raised_bond_is : (n : ℕ) (b new : bond.Bond) → IsRaised b new → IsBond n b → IsBond n new
raised_bond_is n b new same is =
    let first = ap (λ x. x.0) same.first in
    let second = ap (λ x. x.0) same.second in
    let low = is.first in
    let low' = is.second in
    record {
      first = omega arith;
      second = omega arith;
      different = λ e. is.different (sym first ∙ (e ∙ second));
      order_low = same.low is.order_low;
      order_high = same.high is.order_high;
    }

pub raised_sound : (n : ℕ) (placed : List Bool) (bonds : List bond.Bond) → AreBonds n bonds → AreBonds n (raised placed bonds)
raised_sound n placed bonds sound =
    let size = length_raised placed bonds in
    record {
      each = λ k d less. raised_bond_is n (get_or bonds k d) (get_or (raised placed bonds) k d) (raised_at placed bonds k d) (sound.each k d (omega arith));
      once = λ i j d less inside.
          let x = raised_at placed bonds i d in
          let y = raised_at placed bonds j d in
          same_joins (get_or bonds i d) (get_or (raised placed bonds) i d) (get_or bonds j d) (get_or (raised placed bonds) j d) x y (sound.once i j d less (omega arith));
    }
  where
    same_joins : (b b' c c' : bond.Bond) → IsRaised b b' → IsRaised c c' → joins b c.first.0 c.second.0 ≡ false → joins b' c'.first.0 c'.second.0 ≡ false
    same_joins b b' c c' x y h = rw (x.first, x.second, y.first, y.second) h

-- What is placed is a molecule of the skeleton

pub is_under : (skeleton : TextGraph) (m : Molecule) (placed : List Bool) → IsPlacement skeleton.atoms skeleton.bonds placed
    → m ≡ meaning_under skeleton.atoms (map bond_of skeleton.bonds) placed → IsUnmarkedUnder skeleton m
is_under skeleton m placed placement molecule = record { placed = placed; placement = placement; molecule = molecule }

pub cant_be_placed : (skeleton : TextGraph) (barrier : List AtomId) (odd : ℕ) → IsBarred skeleton barrier odd
    → IsUnplaced skeleton (record { kind = NoPlacement; place = 0; barrier = barrier; odd = odd })
cant_be_placed skeleton barrier odd barred = record { kind = refl; place = refl; barred = barred }

-- with no need, the molecule in which nothing is placed
pub meant_alone : (skeleton : TextGraph) (m : Molecule) → ((k : ℕ) → overvalent_at (meaning_of skeleton.atoms (map bond_of skeleton.bonds)) k ≡ false)
    → ((k : ℕ) → hydrogen_on_hydrogen_at (meaning_of skeleton.atoms (map bond_of skeleton.bonds)) k ≡ false)
    → ((k : ℕ) → needs skeleton.atoms (map bond_of skeleton.bonds) k ≡ false) → m ≡ meaning_of skeleton.atoms (map bond_of skeleton.bonds) → IsUnmarkedBy skeleton m
meant_alone skeleton m valences hydrogens none is = record {
  right = record { valences = valences; hydrogens = hydrogens };
  under = record {
    placed = none_placed skeleton.bonds;
    placement = nothing_placed skeleton.atoms skeleton.bonds none;
    molecule = is ∙ sym (ap (without_stereo (atoms_with (map bond_of skeleton.bonds) 0 skeleton.atoms)) (none_raised skeleton.bonds));
  };
}

pub meant_placed : (skeleton : TextGraph) (m : Molecule) → ((k : ℕ) → overvalent_at (meaning_of skeleton.atoms (map bond_of skeleton.bonds)) k ≡ false)
    → ((k : ℕ) → hydrogen_on_hydrogen_at (meaning_of skeleton.atoms (map bond_of skeleton.bonds)) k ≡ false) → IsUnmarkedUnder skeleton m → IsUnmarkedBy skeleton m
meant_placed skeleton m valences hydrogens under = record { right = record { valences = valences; hydrogens = hydrogens }; under = under }

pub faulty_placed : (skeleton : TextGraph) (stop : Stop) → ((k : ℕ) → overvalent_at (meaning_of skeleton.atoms (map bond_of skeleton.bonds)) k ≡ false)
    → ((k : ℕ) → hydrogen_on_hydrogen_at (meaning_of skeleton.atoms (map bond_of skeleton.bonds)) k ≡ false) → CantBePlaced skeleton stop → IsFaulty skeleton stop
faulty_placed skeleton (Refused refusal) valences hydrogens unplaced = inr (record { right = record { valences = valences; hydrogens = hydrogens }; unplaced = unplaced })
faulty_placed skeleton NoMemory valences hydrogens unplaced = tt

-- With its marks

pub meant_marked : (skeleton : TextGraph) (m new : Molecule) → IsUnmarkedBy skeleton m → new ≡ with_centres (centres_in skeleton) m → AreRightMarks skeleton new → IsMeantBy skeleton new
meant_marked skeleton m new is same right = record {
  right = is.right;
  under = record { placed = is.under.placed; placement = is.under.placement; molecule = same ∙ ap (with_centres (centres_in skeleton)) is.under.molecule };
  marks = right;
}

pub refused_marked : (skeleton : TextGraph) (m : Molecule) (stop : Stop) → IsUnmarkedBy skeleton m → CantBeMarked skeleton m stop → IsRefusedBy skeleton stop
refused_marked skeleton m (Refused refusal) is marked = inr (record { m = m; unmarked = is; marked = marked })
refused_marked skeleton m NoMemory is marked = tt

pub refused_early : (skeleton : TextGraph) (stop : Stop) → IsFaulty skeleton stop → IsRefusedBy skeleton stop
refused_early skeleton (Refused refusal) faulty = inl faulty
refused_early skeleton NoMemory faulty = tt
