-- How a check ends.
use Rattle.std.proofs.Common.{arith, ◌≡◌, ℕ, ◌<◌, List, ◌++◌, length, true, false, Option, Some, refl, ap, sym, ◌∙◌, subst, inr}
use Rattle.std.specs.Prelude.{◌⊎◌, ◌↔◌, IsTrue}
use Rattle.std.specs.Io.KnownBytes.{Appends}
use Rattle.std.proofs.lemmas.Bool.{false≢true}
use Rattle.std.proofs.lemmas.List.{length-append}
use Rattle.mc_io.specs.Outside.{Input, Outputs}
use Rattle.mc_convert.specs.declared.formats.Formats.{Formats}
use Rattle.mc_convert.specs.declared.status.Halt.{Halt}
use Rattle.mc_convert.specs.declared.status.Halt.TheVariants.{ReadFault as ReadHalt, InputLimit as LimitHalt, WriteFault as WriteHalt, NoMemory as MemoryHalt}
use Rattle.mc_convert.specs.declared.status.Status.TheVariants.{Memory}
use Rattle.mc_convert.specs.Runs.{IsWhole}
use Rattle.mc_convert.specs.Statuses.{status_of}
use Rattle.mc_convert.specs.Checks.{IsAllTrue}
use Rattle.mc_convert.specs.CheckRuns.{AllIsChecked, ChecksLess, CheckStopped, GrownBy, IfKnown, IsLessThanText}
use Rattle.mc_convert.proofs.Checking.{if_known}

same_growth : (old new : Option (List ℕ)) (before text more : List ℕ) → old ≡ Some before → new ≡ Some (before ++ text) → Appends old new more → length text ≡ length more
same_growth old new before text more was is h =
    let one : Appends (Some before) new more = subst (λ (o : Option (List ℕ)). Appends o new more) was h in
    let two : before ++ text ≡ before ++ more = subst (λ (o : Option (List ℕ)). Appends (Some before) o more) is one in
    let a = length-append before text in
    let b = length-append before more in
    let c = ap (λ (x : List ℕ). length x) two in omega arith

-- less than the whole text and all of it aren't held both
not_all : (formats : Formats) (o c r old new : Option (List ℕ)) → ChecksLess formats o c r old new → AllIsChecked formats o c r old new → ⊥
not_all formats o c r old new some all =
    let P : Option (List ℕ) → Type 0 = λ x. ChecksLess formats x c r old new in
    let Q : Option (List ℕ) → Type 0 = λ x. ChecksLess formats (Some all.o) x r old new in
    let R : Option (List ℕ) → Type 0 = λ x. ChecksLess formats (Some all.o) (Some all.c) x old new in
    let less : GrownBy old new (IsLessThanText formats all.o all.c all.r) = subst R all.report_is (subst Q all.converted_are (subst P all.originals_are some)) in
    let bound = less.holds all.text all.whole in
    let same = same_growth old new all.before all.text less.more all.old_is all.new_is less.out in omega arith

abbrev AllEnded : (ℕ → Input) → Type 0
AllEnded after = (i : ℕ) → i < 3 → IsTrue (after i).ended

-- no stop but want of memory comes where all is held
pub only_memory : (formats : Formats) (halt : Halt) (before after : ℕ → Input) (old new : Outputs) → CheckStopped formats halt before after old new → AllEnded after
    → AllIsChecked formats (before 0).left (before 1).left (before 2).left (old.held 0) (new.held 0) → IsWhole (status_of halt) ⊎ (status_of halt ≡ Memory)
only_memory formats ReadHalt before after old new h ended all = absurd (false≢true (sym h.not_ended ∙ ended h.input h.is_input))
only_memory formats LimitHalt before after old new h ended all = absurd (false≢true (sym h.not_ended ∙ ended h.input h.is_input))
only_memory formats WriteHalt before after old new h ended all = absurd (not_all formats (before 0).left (before 1).left (before 2).left (old.held 0) (new.held 0) h.1 all)
only_memory formats MemoryHalt before after old new h ended all = inr refl

pub is_true : (formats : Formats) (o c r : Option (List ℕ)) → IfKnown o c r (λ x y z. IsTrue true ↔ IsAllTrue formats x y z) → IfKnown o c r (IsAllTrue formats)
is_true formats o c r h = if_known o c r (λ x y z. IsTrue true ↔ IsAllTrue formats x y z) (IsAllTrue formats) (λ x y z both. both.0 refl) h

pub is_not_true : (formats : Formats) (o c r : Option (List ℕ)) → IfKnown o c r (λ x y z. IsTrue false ↔ IsAllTrue formats x y z) → IfKnown o c r (λ x y z. IsAllTrue formats x y z → ⊥)
is_not_true formats o c r h = if_known o c r (λ x y z. IsTrue false ↔ IsAllTrue formats x y z) (λ x y z. IsAllTrue formats x y z → ⊥) (λ x y z both all. false≢true (both.1 all)) h
