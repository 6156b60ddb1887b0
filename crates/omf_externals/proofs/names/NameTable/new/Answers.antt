use Rattle.std.proofs.Common.{[], refl, false}
use Rattle.omf_externals.proofs.NameLaws.{fill-empty, none_more}
use Rattle.omf_externals.proofs.names.NameTable.new.Goals as goal

pub returns : goal.returns
returns c = fill-empty (record { names = c.new.result; repeats = false }) (record { names = c.new.result; repeats = false }) [] c.new.ensures.empty (none_more (record { names = c.new.result; repeats = false }) [] refl)
