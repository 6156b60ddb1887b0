use Rattle.std.proofs.Common.{◌≡◌, ap, ◌∙◌}
use Rattle.omf_linking.specs.Inner.KeyTables.{holder_after, kept}
use Rattle.omf_linking.proofs.KeyTableLaws.{one-more}
use Rattle.omf_linking.proofs.locator.tables.KeyTable.put.Goals as goal

pub returns : goal.returns
returns c = λ texts numbers own table.
    let m = c.args.self.now.by_text in
    let t = c.args.text.items in
    let x = c.args.number in
    let e : c.with_one_more-holder.result ≡ holder_after x (kept m t) = c.with_one_more-holder.ensures ∙ ap (holder_after x) (c.copied.ensures ∙ c.get.ensures.value ∙ ap (kept m) c.as_slice.ensures.value) in
    one-more texts numbers x t m c.insert.new.self c.with_one_more-holder.result own e c.in_ok-insert.ensures.updates table
