use Rattle.std.proofs.Common.{sym}
use Rattle.omf_linking.specs.Inner.LineParsing.{key_seen}
use Rattle.omf_placement.specs.Inner.EntryReading.{words_of}
use Rattle.omf_linking.proofs.NamingLaws.{no_opens_more, words_some}
use Rattle.omf_linking.proofs.locator.entry.opens.Goals as goal

pub returns-in-Some : goal.returns-in-Some
returns-in-Some c = rw c.in-Some.is (sym (no_opens_more (key_seen c.args.key) (words_of c.in-Some.field-0.now) _ (words_some c.in-Some.field-0.now)))
