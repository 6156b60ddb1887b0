use Rattle.std.proofs.Common.{ap, sym, ◌∙◌}
use Rattle.omf_check.specs.Module.{records_in}
use Rattle.omf_linking.proofs.NamingLaws.{first_name, name_in}
use Rattle.omf_linking.proofs.locator.keys.module_name.Goals as goal

pub returns-in-Some : goal.returns-in-Some
returns-in-Some c = c.header_name.ensures ∙ sym (first_name (records_in c.args.«module».now.bytes) c.records.result c.records.ensures.listed ∙ ap name_in c.in-Some.ensures.steps)
