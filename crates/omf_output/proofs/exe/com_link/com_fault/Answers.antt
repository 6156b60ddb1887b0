use Rattle.std.proofs.Common.{◌∙◌, sym}
use Rattle.omf_output.proofs.ComLaws.{no-exe}
use Rattle.omf_output.proofs.LinkedLaws.{reached-of}
use Rattle.omf_output.proofs.exe.com_link.com_fault.Goals as goal

pub start_fault-requires : goal.start_fault-requires
start_fault-requires c = let ms = c.args.members.now in reached-of ms (no-exe ms (sym c.exe_part.ensures ∙ c.in_default.is))
