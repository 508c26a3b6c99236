-- The answer to a record that is accepted.
use Rattle.std.specs.List.{list_all}
use Rattle.std.specs.Prelude.{◌≡◌, ℕ, List, true, false, nat_le}
use Rattle.mc_mol.specs.Molecule.{Molecule}
use Rattle.mc_report.specs.Report.{ok_line}
use Rattle.smi_mean.specs.Written.{written_text, written_order}
use Rattle.smi_write.specs.ReadBack.{IsReadBack}
use Rattle.mc_convert.specs.declared.answer.Answer.{Answer}
use Rattle.mc_convert.specs.declared.formats.Target.{Target}
use Rattle.mc_convert.specs.declared.formats.Target.TheVariants.{Smi}
use Rattle.mc_convert.specs.Records.{line, with_name}

-- in SMILES: the written form with this name, and its report line with the number of headers, and that it is read back
pub record IsSmiles (k : ℕ) (m : Molecule) (name : List ℕ) (headers : ℕ) (answer : Answer) : Type 0 where
  pub out : answer.out ≡ line (with_name (written_text m) name)
  pub report : answer.report ≡ ok_line k (written_order m) 0 0 headers
  pub accepted : answer.refused ≡ false
  pub no_blanks : list_all (λ byte. nat_le 33 byte) (written_text m) ≡ true
  pub reads : IsReadBack m (written_text m) (written_order m)

abbrev pub IsAccepted : Target → ℕ → Molecule → List ℕ → ℕ → Answer → Type 0
IsAccepted Smi k m name headers answer = IsSmiles k m name headers answer
