use Rattle.std.proofs.Common.{ℕ, List, sym, subst, ap, ◌∙◌}
use Rattle.omf_frame.specs.Framing.{front_record, present}
use Rattle.omf_image.specs.Limits.{profile_limits}
use Rattle.omf_check.specs.Module.{recs_of}
use Rattle.omf_check.proofs.ListedLaws.{front_of, front_short, front_taken, not_empty, well_read}
use Rattle.omf_linking.specs.Folded.{folded}
use Rattle.omf_linking.proofs.FoldLaws.{AreReadable, folds-more, readable-less, readable-module, readable-rest, readable-starts, typed-folds}
use Rattle.omf_linking.proofs.folding.comparing.is_folded.Goals as goal

pub records-init : goal.records-init
records-init c = record {
  left = subst AreReadable (sym c.bytes-left.ensures.bytes) (readable-module c.args.module.now.profile profile_limits c.args.module.now.bytes c.bytes-left.ensures.well_formed);
  right = subst AreReadable (sym c.bytes-right.ensures.bytes) (readable-module c.args.lower.now.profile profile_limits c.args.lower.now.bytes c.bytes-right.ensures.well_formed);
  so_far = λ e. sym (ap recs_of c.bytes-right.ensures.bytes) ∙ (e ∙ ap (λ (b : List ℕ). folded (recs_of b)) c.bytes-left.ensures.bytes);
}

pub split_record-requires : goal.split_record-requires
split_record-requires c =
    let left = c.records.left.now in
    readable-starts left c.records.invariant.left (not_empty left c.is_empty.result c.is_empty.ensures c.records-test.true)

pub split_record-requires-in-records : goal.split_record-requires-in-records
split_record-requires-in-records c =
    let right = c.records.right.now in
    readable-starts right c.records.invariant.right (not_empty right c.is_empty-in-records.result c.is_empty-in-records.ensures c.if-is_empty.false)

pub record_folds-requires-clause-taken : goal.record_folds-requires-clause-taken
record_folds-requires-clause-taken c =
    let left = c.records.left.now in
    let starts = readable-starts left c.records.invariant.left (not_empty left c.is_empty.result c.is_empty.ensures c.records-test.true) in
    front_taken left c.split_record.result.0.kind starts c.split_record.ensures.kind

pub record_folds-requires-clause-short : goal.record_folds-requires-clause-short
record_folds-requires-clause-short c =
    let left = c.records.left.now in
    let starts = readable-starts left c.records.invariant.left (not_empty left c.is_empty.result c.is_empty.ensures c.records-test.true) in
    front_short left c.split_record.result.0.body.now starts c.split_record.ensures.body

pub record_folds-requires-clause-read : goal.record_folds-requires-clause-read
record_folds-requires-clause-read c =
    let left = c.records.left.now in
    let starts = readable-starts left c.records.invariant.left (not_empty left c.is_empty.result c.is_empty.ensures c.records-test.true) in
    let raw = c.split_record.result.0 in
    well_read raw.kind raw.body.now (front_record (present left)) (front_of left starts) c.split_record.ensures.kind c.split_record.ensures.body

pub record_folds-requires-clause-lower_taken : goal.record_folds-requires-clause-lower_taken
record_folds-requires-clause-lower_taken c =
    let right = c.records.right.now in
    let starts = readable-starts right c.records.invariant.right (not_empty right c.is_empty-in-records.result c.is_empty-in-records.ensures c.if-is_empty.false) in
    front_taken right c.split_record-in-records.result.0.kind starts c.split_record-in-records.ensures.kind

pub record_folds-requires-clause-lower_short : goal.record_folds-requires-clause-lower_short
record_folds-requires-clause-lower_short c =
    let right = c.records.right.now in
    let starts = readable-starts right c.records.invariant.right (not_empty right c.is_empty-in-records.result c.is_empty-in-records.ensures c.if-is_empty.false) in
    front_short right c.split_record-in-records.result.0.body.now starts c.split_record-in-records.ensures.body

pub record_folds-requires-clause-lower_read : goal.record_folds-requires-clause-lower_read
record_folds-requires-clause-lower_read c =
    let right = c.records.right.now in
    let starts = readable-starts right c.records.invariant.right (not_empty right c.is_empty-in-records.result c.is_empty-in-records.ensures c.if-is_empty.false) in
    let raw = c.split_record-in-records.result.0 in
    well_read raw.kind raw.body.now (front_record (present right)) (front_of right starts) c.split_record-in-records.ensures.kind c.split_record-in-records.ensures.body

pub records-smaller : goal.records-smaller
records-smaller c =
    let left = c.records.left.now in
    readable-less left c.records.invariant.left (not_empty left c.is_empty.result c.is_empty.ensures c.records-test.true) c.split_record.result.1.now c.split_record.ensures.rest

pub records-preserved : goal.records-preserved
records-preserved c =
    let left = c.records.left.now in
    let right = c.records.right.now in
    let low = not_empty left c.is_empty.result c.is_empty.ensures c.records-test.true in
    let some = not_empty right c.is_empty-in-records.result c.is_empty-in-records.ensures c.if-is_empty.false in
    let one = c.split_record in
    let two = c.split_record-in-records in
    let front = typed-folds (front_record (present left)) (front_record (present right)) one.result.0.kind two.result.0.kind one.result.0.body.now two.result.0.body.now
    (front_of left (readable-starts left c.records.invariant.left low)) (front_of right (readable-starts right c.records.invariant.right some))
    one.ensures.kind one.ensures.body two.ensures.kind two.ensures.body (c.record_folds.ensures c.if-not-record_folds.false) in
    record {
      left = readable-rest left c.records.invariant.left low one.result.1.now one.ensures.rest;
      right = readable-rest right c.records.invariant.right some two.result.1.now two.ensures.rest;
      so_far = λ e. c.records.invariant.so_far (folds-more left right one.result.1.now two.result.1.now c.records.invariant.left c.records.invariant.right low some one.ensures.rest two.ensures.rest front e);
    }
