use Rattle.std.proofs.Common.{◌≡◌, ◌∙◌, ◌<◌, ◌++◌, length, get_or, ap, rules}
use Rattle.omf_frame.specs.Framing.{raw_bytes}
use Rattle.omf_records.specs.Values.{At}
use Rattle.omf_virtual.specs.Values.{EntryItem}
use Rattle.omf_virtual.specs.Virtual.{entry_record}
use Rattle.omf_virtual.proofs.WalkLaws.{entries_more}
use Rattle.omf_virtual.proofs.writing.put_entries.Goals as goal

pub loop-entry-preserved : goal.loop-entry-preserved
loop-entry-preserved c =
    let t = c.args.table.now in
    let es = c.args.entries.now in
    let l = c.loop-entry in
    let e = c.entry-item.result in
    let low : l.entry-index < length es = search rules in
    let here : e ≡ get_or es l.entry-index e = search rules in
    let item : c.entry.inside.item ≡ e.item = ap (λ (x : At EntryItem). x.item) c.entry.view_is in
    let more = c.in_ok-put_entry_record.ensures ∙ ap (λ x. l.out.items ++ raw_bytes (entry_record t c.in_ok-index.index x)) item in
    entries_more t l.out.items _ _ es l.entry-index l.index c.in_ok-index.index e e low here c.in_ok-index.ensures more l.invariant
