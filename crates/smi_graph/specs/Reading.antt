-- What a reader keeps of the tokens so far.
use Rattle.std.specs.List.{list_all}
use Rattle.std.specs.Prelude.{◌≡◌, ◌≤◌, ℕ, Bool, true, List, [], ◌∷◌, Option, Some, None, length, map, take, min, All, AllPairs, not, ◌||◌, ◌&&◌}
use Rattle.smi_graph.specs.declared.skel_atom.SkelAtom.{SkelAtom}
use Rattle.smi_lex.specs.declared.token.BondMark.{BondMark}
use Rattle.smi_lex.specs.declared.token.Token.{Token}
use Rattle.smi_graph.specs.declared.role.Role.{Role}
use Rattle.smi_graph.specs.declared.role.Role.TheVariants.{Atom, Bond, Ring, Enter, Leave, Dot}
use Rattle.smi_graph.specs.declared.text_bond.TextBond.{TextBond}
use Rattle.smi_graph.specs.declared.token_order.TokenOrder.{TokenOrder}
use Rattle.smi_graph.specs.declared.structure.Structure.{Structure}
use Rattle.smi_graph.specs.declared.reader.Reader.{Reader}
use Rattle.smi_graph.specs.Branches.{AreOpen}
use Rattle.smi_graph.specs.RingTables.{HoldsEnds}
use Rattle.smi_graph.specs.RingSlots.{HoldsNeighbours}
use Rattle.smi_graph.specs.Firsts.{AreFirst}
use Rattle.smi_graph.specs.Order.{latest, is_stray_bond, depth, tokens_before}
use Rattle.smi_graph.specs.Bonds.{atom_count, text_bonds}
use Rattle.smi_graph.specs.Candidates.{is_aromatic}
use Rattle.smi_graph.specs.Roles.{roles, atoms_of}
use Rattle.smi_graph.specs.Rules.{is_built_kind, has_high_isotope, has_high_class, has_high_charge}

-- what decides, beside the latest token, which token may stand behind these, the latest first
pub record IsBehind (order : TokenOrder) (before : List Role) : Type 0 where
  pub stray : order.stray ≡ is_stray_bond before
  pub depth : depth before ≡ Some order.depth

-- the bond symbol that a token is
abbrev pub mark_in : Option Role → Option BondMark
mark_in (Some (Bond mark)) = Some mark
mark_in other = None

-- No bond is to a later atom than the bond behind it, and none of them to one behind this atom; each goes
-- back, or stays where it is. So the bonds of this atom are the last ones.
pub record RisesTo (atom : ℕ) (bonds : List TextBond) : Type 0 where
  pub back : All (λ (b : TextBond). b.first.0 ≤ b.second.0) bonds
  pub below : All (λ (b : TextBond). b.second.0 ≤ atom) bonds
  pub rise : AllPairs (λ (b c : TextBond). b.second.0 ≤ c.second.0) bonds

-- a bond that is completed at this atom, if there is one
abbrev pub IsTo : ℕ → Option TextBond → Type 0
IsTo atom None = Unit {0}
IsTo atom (Some b) = b.second.0 ≡ atom

-- an atom as 16 bits hold its isotope and class
abbrev pub held_atom : SkelAtom → SkelAtom
held_atom atom = record atom { isotope = min atom.isotope 65535; class = min atom.class 65535 }

-- the values of an atom are within their limits
abbrev pub is_within_limits : SkelAtom → Bool
is_within_limits atom = not (has_high_isotope atom || (has_high_class atom || has_high_charge atom))

-- no lower-case atom and no `:`
abbrev pub is_plain : Role → Bool
is_plain (Atom lower) = not lower
is_plain (Bond mark) = not (is_aromatic (Some mark))
is_plain (Ring number) = true
is_plain Enter = true
is_plain Leave = true
is_plain Dot = true

abbrev pub all_plain : List Role → Bool
all_plain [] = true
all_plain (k ∷ before) = all_plain before && is_plain k

-- The structure has the bonds of these tokens, the latest first, and what is open behind them.
pub record Reads (s : Structure) (before : List Role) : Type 0 where
  pub bonds : s.bonds.items ≡ text_bonds before
  pub tokens : s.tokens ≡ length before
  pub count : s.count ≡ atom_count before
  pub latest : s.latest ≡ latest before
  pub branches : AreOpen s.branches before
  pub rings : HoldsEnds s.rings before
  pub neighbours : HoldsNeighbours s.neighbours before

-- the structure is that of the first tokens of these
pub record Follows (ks : List Role) (s : Structure) : Type 0 where
  pub reads : Reads s (tokens_before ks s.tokens)
  pub order : s.faults.misplaced ≡ None → IsBehind s.order (tokens_before ks s.tokens)
  pub faults : AreFirst ks s.tokens s.faults

-- no more atoms and no more open branches than tokens
pub record IsBounded (s : Structure) : Type 0 where
  pub count : s.count ≤ s.tokens
  pub depth : s.order.depth ≤ s.tokens

-- the reader has the atoms of the first tokens of these, and their structure
pub record HasRead (ts : List Token) (r : Reader) : Type 0 where
  pub within : r.structure.tokens ≤ length ts
  pub atoms : r.atoms.items ≡ map held_atom (atoms_of (take r.structure.tokens ts))
  pub within_limits : r.all_within_limits ≡ list_all is_within_limits r.atoms.items
  pub built : r.all_built ≡ list_all (λ token. is_built_kind token.kind) (take r.structure.tokens ts)
  pub plain : r.all_plain ≡ all_plain (tokens_before (roles ts) r.structure.tokens)
  pub follows : Follows (roles ts) r.structure
