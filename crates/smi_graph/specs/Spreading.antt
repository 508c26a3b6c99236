-- How the candidates of a text are found: by the marks of its lower-case bonds alone.
use Rattle.std.specs.Prelude.{◌≡◌, ◌↔◌, ◌+◌, ℕ, Bool, true, ◌&&◌, List, [], ◌∷◌, Some, slice_get, length, if◌then◌else◌}
use Rattle.mc_mol.specs.declared.parts.Bond.{Bond}
use Rattle.mc_mol.specs.ClosedPaths.{LiesOnClosedPath}
use Rattle.smi_graph.specs.declared.text_bond.TextBond.{TextBond}
use Rattle.smi_graph.specs.Candidates.{marked}

-- The marks of the bonds that pass, from the given one on, at the places that these have among all bonds. Bonds that don't
-- pass aren't marked.
abbrev pub spread : (TextBond → Bool) → List TextBond → List Bool → ℕ → List Bool
spread passes [] marks next = []
spread passes (b ∷ bonds) marks next = (passes b && marked marks next) ∷ spread passes bonds marks (next + (if passes b then 1 else 0))

-- marks, one for each bond, say which bonds lie on closed paths
pub record AreOnPaths (bonds : List Bond) (marks : List Bool) : Type 0 where
  pub count : length marks ≡ length bonds
  pub each : (k : ℕ) (bond : Bond) (lies : Bool) → slice_get bonds k ≡ Some bond → slice_get marks k ≡ Some lies → (lies ≡ true) ↔ LiesOnClosedPath bonds bond
