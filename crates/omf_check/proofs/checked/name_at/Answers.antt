use Rattle.omf_check.proofs.NameLaws.{never_none, spelled_name}
use Rattle.omf_check.proofs.checked.name_at.Goals as goal

pub unreachable-requires : goal.unreachable-requires
unreachable-requires c = never_none c.args.bytes.now c.args.place c.requires c.in-None.ensures.none

pub returns : goal.returns
returns c = spelled_name c.args.bytes.now c.args.place c.in-Some.field-0-1 c.in-Some.name c.in-Some.ensures.found
