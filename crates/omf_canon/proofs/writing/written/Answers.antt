use Rattle.std.proofs.Common.{◌∙◌, length, subst, sym}
use Rattle.std.proofs.lemmas.Bool.{eqb-true}
use Rattle.std.proofs.lemmas.List.{nil_from_length}
use Rattle.omf_image.specs.Limits.{profile_limits}
use Rattle.omf_check.specs.Module.{records_in}
use Rattle.omf_check.specs.WellFormed.{recs}
use Rattle.omf_check.proofs.ListedLaws.{front_taken, front_short, not_empty}
use Rattle.omf_canon.proofs.TakingLaws.{IsLeft, left-first, left-last, left-starts, left-less, left-read, left-ok, left-set, left-short, left-values, left-next}
use Rattle.omf_canon.proofs.WritingLaws.{write-last}
use Rattle.omf_canon.proofs.writing.written.Goals as goal

pub records-init : goal.records-init
records-init c =
    let w = c.in_ok-walk.walk in
    let b = c.args.module.now.bytes in
    subst (λ left. IsLeft (recs (records_in b)) w.out.items w.group w.threads left) (sym c.bytes-left.ensures.bytes)
    (left-first c.args.module.now.profile profile_limits b c.bytes-left.ensures.well_formed w.out.items w.group w.threads
    (c.modules_hold.ensures c.args.module.now.profile profile_limits b (records_in b) c.bytes-left.ensures.well_formed) c.requires c.in_ok-walk.ensures.out c.in_ok-walk.ensures.group c.in_ok-walk.ensures.threads)

pub split_record-requires : goal.split_record-requires
split_record-requires c =
    let w = c.records.walk in
    let left = c.records.left.now in
    left-starts (recs (records_in c.args.module.now.bytes)) w.out.items w.group w.threads left c.records.invariant (not_empty left c.is_empty.result c.is_empty.ensures c.records-test.true)

pub take-requires-clause-taken : goal.take-requires-clause-taken
take-requires-clause-taken c =
    let w = c.records.walk in
    let left = c.records.left.now in
    front_taken left c.split_record.result.0.kind
    (left-starts (recs (records_in c.args.module.now.bytes)) w.out.items w.group w.threads left c.records.invariant (not_empty left c.is_empty.result c.is_empty.ensures c.records-test.true))
    c.split_record.ensures.kind

pub take-requires-clause-body : goal.take-requires-clause-body
take-requires-clause-body c =
    let w = c.records.walk in
    let left = c.records.left.now in
    front_short left c.split_record.result.0.body.now
    (left-starts (recs (records_in c.args.module.now.bytes)) w.out.items w.group w.threads left c.records.invariant (not_empty left c.is_empty.result c.is_empty.ensures c.records-test.true))
    c.split_record.ensures.body

pub take-requires-clause-read : goal.take-requires-clause-read
take-requires-clause-read c =
    let w = c.records.walk in
    let left = c.records.left.now in
    let raw = c.split_record.result.0 in
    left-ok (recs (records_in c.args.module.now.bytes)) w.out.items w.group w.threads left c.records.invariant (not_empty left c.is_empty.result c.is_empty.ensures c.records-test.true)
    raw.kind raw.body.now c.split_record.ensures.kind c.split_record.ensures.body

pub take-requires-clause-set : goal.take-requires-clause-set
take-requires-clause-set c d e =
    let w = c.records.walk in
    let left = c.records.left.now in
    let raw = c.split_record.result.0 in
    left-set (recs (records_in c.args.module.now.bytes)) w.out.items w.group w.threads left c.records.invariant (not_empty left c.is_empty.result c.is_empty.ensures c.records-test.true)
    raw.kind raw.body.now c.split_record.ensures.kind c.split_record.ensures.body d e

pub take-requires-clause-values : goal.take-requires-clause-values
take-requires-clause-values c d e =
    let w = c.records.walk in
    let left = c.records.left.now in
    let raw = c.split_record.result.0 in
    left-values (recs (records_in c.args.module.now.bytes)) w.out.items w.group w.threads left c.records.invariant (not_empty left c.is_empty.result c.is_empty.ensures c.records-test.true)
    raw.kind raw.body.now c.split_record.ensures.kind c.split_record.ensures.body c.typed_have_values.ensures d e

pub take-requires-clause-short : goal.take-requires-clause-short
take-requires-clause-short c d e =
    let w = c.records.walk in
    let left = c.records.left.now in
    let raw = c.split_record.result.0 in
    left-short (recs (records_in c.args.module.now.bytes)) w.out.items w.group w.threads left c.records.invariant (not_empty left c.is_empty.result c.is_empty.ensures c.records-test.true)
    raw.kind raw.body.now c.split_record.ensures.kind c.split_record.ensures.body d e

pub records-smaller : goal.records-smaller
records-smaller c =
    let w = c.records.walk in
    let left = c.records.left.now in
    left-less (recs (records_in c.args.module.now.bytes)) w.out.items w.group w.threads left c.records.invariant (not_empty left c.is_empty.result c.is_empty.ensures c.records-test.true)
    c.split_record.result.1.now c.split_record.ensures.rest

pub records-preserved : goal.records-preserved
records-preserved c =
    let m = recs (records_in c.args.module.now.bytes) in
    let w = c.records.walk in
    let n = c.take.new.self in
    let left = c.records.left.now in
    let raw = c.split_record.result.0 in
    let low = not_empty left c.is_empty.result c.is_empty.ensures c.records-test.true in
    let read = left-read m w.out.items w.group w.threads left c.records.invariant low raw.kind raw.body.now c.split_record.ensures.kind c.split_record.ensures.body in
    left-next m w.out.items w.group w.threads left c.records.invariant low raw.kind raw.body.now c.split_record.ensures.kind c.split_record.ensures.body
    c.split_record.result.1.now c.split_record.ensures.rest n.out.items n.group n.threads (c.in_ok-take.ensures.put _ read) (c.in_ok-take.ensures.threads _ read)

pub returns : goal.returns
returns c =
    let m = recs (records_in c.args.module.now.bytes) in
    let w = c.records.walk in
    let left = c.records.left.now in
    write-last m w.out.items w.group
    (left-last m w.out.items w.group w.threads left c.records.invariant (nil_from_length left (eqb-true (length left) 0 (sym c.is_empty.ensures ∙ c.records-test.false))))
    c.finish.result c.finish.ensures
