use Rattle.std.proofs.Common.{arith, refl, ◌∙◌, ◌*◌}
use Rattle.omf_cmd.proofs.Hexadecimal.{text_and_space}
use Rattle.omf_cmd.proofs.digits.write_byte_and_space.Goals as goal

pub returns : goal.returns
returns c = c.copy_from_slice.ensures.after ∙ text_and_space c.args.byte c.from-at.result (4 * c.from-at.result) (omega arith) c.from-at.ensures refl
