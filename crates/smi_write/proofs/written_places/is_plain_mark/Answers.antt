use Rattle.std.proofs.Common.{ap, ◌∙◌}
use Rattle.mc_mol.specs.Permutations.{is_even_permutation}
use Rattle.smi_write.proofs.FourPlaces.{four_of}
use Rattle.smi_write.proofs.written_places.is_plain_mark.Goals as goal

pub returns-in-len4 : goal.returns-in-len4
returns-in-len4 c = λ four. c.is_even_permutation.ensures ∙ ap (is_even_permutation c.args.centre.now) (four_of c.args.places.now _ _ _ _ four)
