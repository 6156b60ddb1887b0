use Rattle.std.proofs.Common.{◌∙◌, List, ℕ, ap, subst, sym}
use Rattle.omf_frame.specs.Framing.{Raw, front_record, present}
use Rattle.omf_image.specs.Limits.{profile_limits}
use Rattle.omf_records.specs.Inner.Reading.{typed}
use Rattle.omf_records.specs.Inner.Seen.{contents_seen, kind_seen}
use Rattle.omf_records.specs.Values.{Rec}
use Rattle.omf_check.specs.Module.{records_in}
use Rattle.omf_check.specs.WellFormed.{IsWellFormed}
use Rattle.omf_check.proofs.ListedLaws.{front_of, front_short, front_taken, well_read}
use Rattle.omf_trimming.specs.Inner.Rest.{RestSoFar, rest_after}
use Rattle.omf_trimming.specs.Without.{records_without}
use Rattle.omf_trimming.proofs.AcceptedLaws.{well-formed-rest}
use Rattle.omf_trimming.proofs.RestLaws.{bytes-are, first, rec-is, rest-ends, rest-goes-on, rest-starts, starts-rest}
use Rattle.omf_trimming.proofs.without.without_bytes.Goals as goal

pub loop-number-init : goal.loop-number-init
loop-number-init c = rest-starts c.args.publics c.args.gone.now c.args.«module».now.profile profile_limits c.args.«module».now.bytes c.bytes-left.result.now c.new-rest.result c.bytes-left.ensures.well_formed c.bytes-left.ensures.bytes c.new-rest.ensures

pub split_record-requires : goal.split_record-requires
split_record-requires c =
    let l = c.loop-number in
    starts-rest c.args.publics c.args.gone.now c.args.«module».now.bytes l.number l.rest l.left.now l.invariant c.record_count-number-end.result c.record_count-number-end.ensures c.loop-number-test.true

pub view_known-requires-clause-taken : goal.view_known-requires-clause-taken
view_known-requires-clause-taken c =
    let l = c.loop-number in
    let starts = starts-rest c.args.publics c.args.gone.now c.args.«module».now.bytes l.number l.rest l.left.now l.invariant c.record_count-number-end.result c.record_count-number-end.ensures c.loop-number-test.true in
    front_taken l.left.now c.split_record.result.0.kind starts c.split_record.ensures.kind

pub view_known-requires-clause-short : goal.view_known-requires-clause-short
view_known-requires-clause-short c =
    let l = c.loop-number in
    let starts = starts-rest c.args.publics c.args.gone.now c.args.«module».now.bytes l.number l.rest l.left.now l.invariant c.record_count-number-end.result c.record_count-number-end.ensures c.loop-number-test.true in
    front_short l.left.now c.split_record.result.0.body.now starts c.split_record.ensures.body

pub view_known-requires-clause-spelled : goal.view_known-requires-clause-spelled
view_known-requires-clause-spelled c =
    let l = c.loop-number in
    let starts = starts-rest c.args.publics c.args.gone.now c.args.«module».now.bytes l.number l.rest l.left.now l.invariant c.record_count-number-end.result c.record_count-number-end.ensures c.loop-number-test.true in
    let raw = c.split_record.result.0 in
    well_read raw.kind raw.body.now (front_record (present l.left.now)) (front_of l.left.now starts) c.split_record.ensures.kind c.split_record.ensures.body

pub loop-number-preserved : goal.loop-number-preserved
loop-number-preserved c =
    let l = c.loop-number in
    let gone = c.args.gone.now in
    let m = c.args.«module».now.bytes in
    let count = c.record_count-number-end.result in
    let few = c.record_count-number-end.ensures in
    let low = c.loop-number-test.true in
    let raw = c.split_record.result.0 in
    let after = c.split_record.result.1.now in
    let record_is = rec-is c.args.publics gone m l.number l.rest l.left.now l.invariant count few low raw.kind (kind_seen c.view_known.result) raw.body.now (contents_seen c.view_known.result) c.split_record.ensures.kind c.split_record.ensures.body
    c.view_known.ensures.kind c.view_known.ensures.read in
    let own = bytes-are c.args.publics gone m l.number l.rest l.left.now l.invariant count few low after c.split_at.result.0.now c.split_record.ensures.rest c.split_at.ensures.front in
    let r : Raw = first c.args.publics gone m l.number l.rest l.left.now l.invariant count few low in
    rest-goes-on c.args.publics gone m l.number l.rest l.left.now l.invariant count few low c.put.new.self after c.split_record.ensures.rest
    (c.in_ok-put.ensures ∙ ap (λ (x : Rec). rest_after l.rest c.split_at.result.0.now x.kind x.contents) record_is ∙ ap (λ (b : List ℕ). rest_after l.rest b r.kind (typed r).contents) own)

pub returns-clause-bytes : goal.returns-clause-bytes
returns-clause-bytes c =
    let l = c.loop-number in
    ap (λ (x : RestSoFar). x.bytes) c.rest-2.view_is
    ∙ rest-ends c.args.publics c.args.gone.now c.args.«module».now.bytes l.number c.record_count-number-end.result l.rest l.left.now l.invariant c.record_count-number-end.ensures c.loop-number-test.false

pub returns-clause-well_formed : goal.returns-clause-well_formed
returns-clause-well_formed c =
    let l = c.loop-number in
    let m = c.args.«module».now in
    let gone = c.args.gone.now in
    let well = well-formed-rest c.args.publics gone m.profile profile_limits m.bytes c.bytes-left.ensures.well_formed in
    let all = ap (λ (x : RestSoFar). x.bytes) c.rest-2.view_is ∙ rest-ends c.args.publics gone m.bytes l.number c.record_count-number-end.result l.rest l.left.now l.invariant c.record_count-number-end.ensures c.loop-number-test.false in
    subst (λ (b : List ℕ). IsWellFormed m.profile profile_limits b (records_without c.args.publics gone (records_in m.bytes))) (sym all) well
