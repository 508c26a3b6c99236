-- Examples, which close by computing.
use Rattle.std.proofs.Common.{◌≡◌, [], ◌∷◌, refl}
use Rattle.std.specs.Prelude.{codes}
use Rattle.mc_elements.specs.Elements.{element_of}
use Rattle.smi_lex.specs.Tokens.{kinds}
use Rattle.smi_mean.specs.Meaning.{meaning}
use Rattle.smi_mean.specs.Written.{written_order, written_text, written_tokens}

-- a molecule without atoms
none : written_text (meaning []) ≡ []
none = refl

-- all children of an atom but the last are branches
branch : written_tokens (meaning (codes "OC(=O)C")) ≡ kinds (codes "OC(=O)C")
branch = refl

text : written_text (meaning (codes "C(C)(=O)[OH]")) ≡ codes "C(C)(=O)O"
unfolding element_of
text = refl

last_in_a_branch : written_tokens (meaning (codes "C(C)(C)")) ≡ kinds (codes "C(C)C")
last_in_a_branch = refl

ring : written_tokens (meaning (codes "C1CC1")) ≡ kinds (codes "C1CC1")
ring = refl

-- the least number that is free
least_number : written_tokens (meaning (codes "C%12CC%12")) ≡ kinds (codes "C1CC1")
least_number = refl

number_again : written_tokens (meaning (codes "C1CC1C2CC2")) ≡ kinds (codes "C1CC1C1CC1")
number_again = refl

-- the symbol of a ring bond stands at the opening number
double_ring : written_tokens (meaning (codes "C1CC=1.[13CH4]")) ≡ kinds (codes "C=1CC1.[13CH4]")
unfolding element_of
double_ring = refl

two_rings_open : written_tokens (meaning (codes "C12(CC1)CC2")) ≡ kinds (codes "C12(CC1)CC2")
two_rings_open = refl

-- a number that closes at an atom isn't opened at it again
one_closes_one_opens : written_tokens (meaning (codes "C1CC12CC2")) ≡ kinds (codes "C1CC12CC2")
one_closes_one_opens = refl

-- brackets only where they say something
brackets : written_tokens (meaning (codes "[CH4].[OH-].[NH4+].[CH3:7][CH3]")) ≡ kinds (codes "C.[OH-].[NH4+].[CH3:7]C")
unfolding element_of
brackets = refl

-- an atom stands behind the latest one that has an unwritten neighbour
behind_latest : written_order (meaning (codes "C(C(O)N)O")) ≡
    record { 0 = 0 } ∷ record { 0 = 1 } ∷ record { 0 = 2 } ∷ record { 0 = 3 } ∷ record { 0 = 4 } ∷ []
behind_latest = refl

other_order : written_order (meaning (codes "C1.O.C1N")) ≡ record { 0 = 0 } ∷ record { 0 = 2 } ∷ record { 0 = 3 } ∷ record { 0 = 1 } ∷ []
other_order = refl
