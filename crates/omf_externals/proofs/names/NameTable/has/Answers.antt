use Rattle.std.proofs.Common.{◌∙◌}
use Rattle.omf_names.proofs.NameTables.{is_there}
use Rattle.omf_externals.proofs.names.NameTable.has.Goals as goal

pub returns : goal.returns
returns c names h = is_there c.args.name c.of.result c.of.ensures c.args.self.now.names c.contains_key.result c.contains_key.ensures ∙ h.found c.args.name.now
