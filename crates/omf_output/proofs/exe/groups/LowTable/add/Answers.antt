use Rattle.std.proofs.Common.{◌∙◌, ap, Some}
use Rattle.omf_names.proofs.NameTables.{is_updated, was_at}
use Rattle.omf_placement.specs.Inner.Lowest.{lower_than}
use Rattle.omf_output.proofs.LowLaws.{low-more}
use Rattle.omf_output.proofs.exe.groups.LowTable.add.Goals as goal

pub returns : goal.returns
returns c =
    let m = c.args.self.now.by_name in
    low-more m c.insert.new.self c.args.name.now c.args.place c.lower-low.result
    (c.lower-low.ensures ∙ ap (λ o. lower_than o c.args.place) (was_at c.args.name c.of.result c.of.ensures m c.copied.result (c.copied.ensures ∙ c.get.ensures.value)))
    (is_updated c.args.name c.of-2.result c.of-2.ensures m c.insert.new.self (Some c.lower-low.result) c.in_ok-insert.ensures.updates)
