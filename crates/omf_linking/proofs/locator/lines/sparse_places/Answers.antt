use Rattle.omf_check.specs.Module.{typed_modules}
use Rattle.omf_linking.specs.Locator.Items.{items_after}
use Rattle.omf_linking.specs.Locator.LinkEntries.{link_lines}
use Rattle.std.proofs.Common.{[]}
use Rattle.omf_linking.proofs.EachLaws.{each_of}
use Rattle.omf_linking.proofs.locator.lines.sparse_places.Goals as goal

pub returns-clause-each : goal.returns-clause-each
returns-clause-each c = each_of c.args.modules.now (items_after (typed_modules c.args.modules.now) [] (link_lines c.args.text.now)) c.taken.result c.taken.ensures
