use Rattle.std.proofs.Common.{false, refl}
use Rattle.omf_placement.proofs.SourceLaws.{sources-empty}
use Rattle.omf_placement.proofs.several.sources.SourceTable.of_locals.Goals as goal

pub returns : goal.returns
returns c = sources-empty (record { by_name = c.new.result; repeats = false }) c.add_module.new.self _ c.new.ensures.empty refl c.in_ok-add_module.ensures.more
