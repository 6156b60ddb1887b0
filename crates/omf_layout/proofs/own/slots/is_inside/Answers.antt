use Rattle.std.proofs.Common.{◌∙◌}
use Rattle.omf_names.proofs.NameTables.{is_there}
use Rattle.omf_layout.proofs.own.slots.is_inside.Goals as goal

pub returns : goal.returns
returns c names h = is_there c.args.class c.of.result c.of.ensures c.args.inside.now c.contains_key.result c.contains_key.ensures ∙ h c.args.class.now
