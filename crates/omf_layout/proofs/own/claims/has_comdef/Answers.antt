use Rattle.std.proofs.Common.{ap, ◌∙◌}
use Rattle.omf_check.specs.Module.{records_in}
use Rattle.omf_layout.proofs.ComdefLaws.{comdefs-by, comdefs-all}
use Rattle.omf_layout.proofs.own.claims.has_comdef.Goals as goal

pub loop-rec-init : goal.loop-rec-init
loop-rec-init c = ap comdefs-by (c.into_iter-rec-iterator.ensures.into_iter_gives ∙ c.undecoded-rec-items.ensures.listed) ∙ comdefs-all 0 0 (records_in c.args.«module».now.bytes)
