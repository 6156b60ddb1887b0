use Rattle.std.proofs.Common.{false}
use Rattle.omf_externals.proofs.NameLaws.{fill-empty}
use Rattle.omf_externals.proofs.names.NameTable.of_locals.Goals as goal

pub returns : goal.returns
returns c = fill-empty (record { names = c.new.result; repeats = false }) c.add_module.new.self _ c.new.ensures.empty c.in_ok-add_module.ensures
