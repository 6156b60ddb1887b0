use Rattle.std.proofs.Common.{◌≡◌, ◌∙◌, ◌<◌, length, get_or, ap, rules}
use Rattle.omf_virtual.specs.Inner.Writing.{up_to_next}
use Rattle.omf_virtual.proofs.WalkLaws.{folds_more, state_more}
use Rattle.omf_virtual.proofs.writing.put_all.Goals as goal

pub loop-record-preserved : goal.loop-record-preserved
loop-record-preserved c =
    let rs = c.args.records.now in
    let t = c.args.table.now in
    let l = c.loop-record in
    let d = c.record-item.result in
    let low : l.record-index < length rs = search rules in
    let here : d ≡ get_or rs l.record-index d = search rules in
    let externals : c.deref.result.now ≡ t.virtuals = search rules in
    let up : c.take_record.new.before ≡ up_to_next t.virtuals l.before d = c.in_ok-take_record.ensures ∙ ap (λ xs. up_to_next xs l.before d) externals in
    record {
      bytes = state_more t l.out.items _ _ rs l.record-index d d l.before _ low here c.in_ok-put_in_place.ensures up l.invariant.bytes;
      state = folds_more t _ rs l.record-index d d l.before _ low here up l.invariant.state;
    }
