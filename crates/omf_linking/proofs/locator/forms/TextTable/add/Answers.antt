use Rattle.std.proofs.Common.{Some}
use Rattle.omf_names.proofs.NameTables.{is_there, is_updated}
use Rattle.omf_linking.proofs.KeyLaws.{text-more}
use Rattle.omf_linking.proofs.locator.forms.TextTable.add.Goals as goal

pub returns : goal.returns
returns c =
    let m = c.args.self.now.repeated in
    text-more m c.insert.new.self c.args.text.now c.contains_key-again.result (is_there c.args.text c.of.result c.of.ensures m c.contains_key-again.result c.contains_key-again.ensures)
    (is_updated c.args.text c.of-2.result c.of-2.ensures m c.insert.new.self (Some c.contains_key-again.result) c.in_ok-insert.ensures.updates)
