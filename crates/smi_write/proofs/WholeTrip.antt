-- What is written of a molecule within the limits is read back.
use Rattle.std.proofs.Common.{arith, map, reverse}
use Rattle.mc_mol.specs.Molecule.{Molecule}
use Rattle.mc_mol.specs.WellFormed.{IsMolecule}
use Rattle.smi_lex.specs.declared.token.TokenKind.TheVariants.{Ring}
use Rattle.smi_graph.specs.Links.{bonds_of}
use Rattle.smi_graph.specs.Roles.{role_of}
use Rattle.smi_mean.specs.Sound.{IsSound}
use Rattle.std.specs.Prelude.{ℕ, Option}
use Rattle.smi_lex.specs.declared.token.BondMark.{BondMark}
use Rattle.smi_mean.specs.Order.{graph_of}
use Rattle.smi_write.proofs.BondSums.{symbols_say}
use Rattle.smi_mean.specs.Written.{atom_token, bond_symbol, written_text, written_order, written_tokens}
use Rattle.smi_write.specs.ReadBack.{IsReadBack}
use Rattle.smi_write.specs.Structure.{ReadsAs}
use Rattle.smi_write.proofs.OrderLaw.{is_order}
use Rattle.smi_write.proofs.StructureLaw.{structure}
use Rattle.smi_write.proofs.PartsLow.{rings_low}
use Rattle.smi_write.proofs.NumbersLow.{numbers_low}
use Rattle.smi_write.proofs.TokensWritten.{role_of_atom}
use Rattle.smi_write.proofs.Structured.{Structured}
use Rattle.smi_write.proofs.RoundTrip.{round_trip}

pub structured_of : (m : Molecule) → IsMolecule m → IsSound m → Structured m
structured_of m is sound =
    let symbols : ℕ → ℕ → Option BondMark = λ j l. bond_symbol (graph_of m) j l in
    let reads : ReadsAs m symbols (map role_of (written_tokens m)) = structure m symbols is (symbols_say m is) (atom_token m) (role_of_atom m) in
    let fewer = rings_low m is (bonds_of (reverse (map role_of (written_tokens m)))) reads.count reads.joined in
    let few = sound.within.rings in
    record {
      reads = reads;
      order = is_order m;
      numbers = λ n inside. (numbers_low m symbols is few (atom_token m) (role_of_atom m) (Ring n) inside).1;
      rings = omega arith;
    }

pub read_back : (m : Molecule) → IsMolecule m → IsSound m → IsReadBack m (written_text m) (written_order m)
read_back m is sound = round_trip m is sound (structured_of m is sound)
