-- What line 4 shows, field by field.
use Rattle.std.proofs.Common.{◌≡◌, ℕ, List, Option, sym, ◌∙◌}
use Rattle.ct_sd.specs.declared.fault.Fault.{Fault}
use Rattle.ct_sd.specs.Faults.{first_of, faults_at}
use Rattle.ct_sd.specs.Fields.{after_fields, fields_show}
use Rattle.ct_sd.proofs.First.{fields_first}
use Rattle.ct_v2000.specs.Counts.{counts_fields}

pub four_fields : (k : ℕ) (line : List ℕ) (first last : Option Fault) → last ≡ after_fields k line first counts_fields → last ≡ first_of first (faults_at k (fields_show counts_fields line))
four_fields k line first last is = is ∙ sym (fields_first k line first counts_fields)
