use Rattle.std.proofs.Common.{◌≡◌, ◌∙◌, ◌+◌, ◌<◌, ℕ, suc, List, Option, Some, None, true, length, get_or, slice_get, subst, sym, ap, arith, refl}
use Rattle.mc_mol.proofs.Forests.{placed_here}
use Rattle.mc_mol.proofs.Twins.{joins_first}
use Rattle.std.proofs.lemmas.Option.{slice_get-get_or, same_Some}
use Rattle.mc_mol.specs.declared.parts.Bond.{Bond}
use Rattle.mc_mol.specs.ClosedPaths.{IsRingOf}
use Rattle.mc_rings.specs.RingSizes.{IsRingSize}
use Rattle.mc_mol.specs.Numbered.{Mark}
use Rattle.mc_mol.proofs.Neighbours.{joined_at}
use Rattle.mc_rings.proofs.RingSizes.{ring_size_found, ring_size_none}
use Rattle.mc_rings.proofs.sizes.ring_size_of.Goals as goal

pub returns-in-None : goal.returns-in-None
returns-in-None c bond at path ring =
    let marks = c.in_ok-marks.marks.items in
    let b = c.bond-bond.result in
    let same : b ≡ bond = same_Some b bond (sym c.bond-bond.ensures.value ∙ at) in
    let fits = c.bond-bond.ensures.well_formed in
    let within : b.second.0 < length marks = omega (arith, fits.second, c.in_ok-marks.ensures.count) in
    let free : slice_get marks b.second.0 ≡ Some None = slice_get-get_or marks b.second.0 c.index.result.now within ∙ ap (λ (m : Option ℕ). Some m) (sym c.index.ensures ∙ c.in-None.is) in
    subst (λ (x : Bond). IsRingOf c.args.mol.now.bonds x path → ⊥) same (ring_size_none c.args.mol.now.bonds b marks c.in_ok-marks.ensures.distances free path) ring

pub overflow_add-result : goal.overflow_add-result
overflow_add-result c =
    let marks = c.in_ok-marks.marks.items in
    let fits = c.bond-bond.ensures.well_formed in
    let within : c.bond-bond.result.second.0 < length marks = omega (arith, fits.second, c.in_ok-marks.ensures.count) in
    let at = placed_here marks c.bond-bond.result.second.0 c.in-Some.steps c.index.result.now within c.index.ensures c.in-Some.is in
    omega (arith, c.in_ok-marks.ensures.few c.bond-bond.result.second.0 c.in-Some.steps at)

pub returns : goal.returns
returns c bond at =
    let marks = c.in_ok-marks.marks.items in
    let b = c.bond-bond.result in
    let same : b ≡ bond = same_Some b bond (sym c.bond-bond.ensures.value ∙ at) in
    let fits = c.bond-bond.ensures.well_formed in
    let within : b.second.0 < length marks = omega (arith, fits.second, c.in_ok-marks.ensures.count) in
    let mark = placed_here marks b.second.0 c.in-Some.steps c.index.result.now within c.index.ensures c.in-Some.is in
    let joined = joined_at c.args.mol.now.bonds c.args.b.0 b b.first.0 b.second.0 c.bond-bond.ensures.value (joins_first b) in
    let size = ring_size_found c.args.mol.now.bonds b marks c.in_ok-marks.ensures.distances fits.different joined c.in-Some.steps mark in
    let one : suc c.in-Some.steps ≡ c.in-Some.steps + 1 = omega arith in
    subst (λ (x : Bond). IsRingSize c.args.mol.now.bonds x (c.in-Some.steps + 1)) same (subst (λ (k : ℕ). IsRingSize c.args.mol.now.bonds b k) one size)
