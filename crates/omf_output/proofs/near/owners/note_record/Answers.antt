use Rattle.std.proofs.Common.{ℕ, List, map, sym, subst}
use Rattle.omf_records.specs.Inner.Seen.{contents_seen}
use Rattle.omf_records.specs.Values.{At}
use Rattle.omf_output.specs.Inner.Owners.{HasTaken, group_pairs}
use Rattle.omf_output.proofs.near.owners.note_record.Goals as goal

pub returns-in-Group : goal.returns-in-Group
returns-in-Group c =
    let g = c.args.group in
    let old = c.args.table.now.items in
    let new = c.note_members.new.table.items in
    subst (λ r. HasTaken old new (group_pairs g (contents_seen r))) (sym c.in-Group.is) (subst (λ (ms : List (At (At ℕ))). HasTaken old new (map (λ x. (x.item.item, g)) ms)) c.iter.ensures c.note_members.ensures)
