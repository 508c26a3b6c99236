use Rattle.std.proofs.Common.{◌%◌, ◌==◌, ◌∙◌, ℕ, ap}
use Rattle.mc_mol.proofs.Evenness.{inversions_of}
use Rattle.mc_mol.proofs.permutation.is_even_permutation.Goals as goal

pub returns : goal.returns
returns c =
    ap (λ (n : ℕ). (n % 2) == 0) (c.inversions.ensures
    ∙ inversions_of c.args.p.now c.args.q.now _ _ _ _ _ c.told-q c.place_in-first.ensures c.place_in-second.ensures c.place_in-third.ensures c.place_in-fourth.ensures)
