use Rattle.std.proofs.Common.{◌-◌, ap, length, sym, subst}
use Rattle.omf_image.specs.Limits.{profile_limits}
use Rattle.omf_check.proofs.ListedLaws.{not_empty}
use Rattle.omf_aliases.proofs.AliasLaws.{IsAtRecord, at-end, at-first, at-next, at-starts, is-empty}
use Rattle.omf_aliases.proofs.records.last_at.Goals as goal

pub records-init : goal.records-init
records-init c =
    let m = c.args.«module».now in
    subst (IsAtRecord m.bytes) (sym c.bytes-bytes.ensures.bytes) (at-first m.profile profile_limits m.bytes c.bytes-bytes.ensures.well_formed)

pub split_record-requires : goal.split_record-requires
split_record-requires c =
    let rest = c.records.rest.now in
    at-starts c.args.«module».now.bytes rest c.records.invariant (not_empty rest c.is_empty.result c.is_empty.ensures c.records-test.true)

pub returns-then-is_empty-clause-split : goal.returns-then-is_empty-clause-split
returns-then-is_empty-clause-split c =
    let rest = c.records.rest.now in
    let next = c.split_record.result.1.now in
    at-end c.args.«module».now.bytes rest c.records.invariant (not_empty rest c.is_empty.result c.is_empty.ensures c.records-test.true) next c.split_record.ensures.rest
    (is-empty next c.is_empty-in-records.result c.is_empty-in-records.ensures c.if-is_empty.true) _ (ap (λ b. length b - length rest) c.bytes-bytes.ensures.bytes)

pub records-preserved : goal.records-preserved
records-preserved c =
    let rest = c.records.rest.now in
    at-next c.args.«module».now.bytes rest c.records.invariant (not_empty rest c.is_empty.result c.is_empty.ensures c.records-test.true) c.split_record.result.1.now c.split_record.ensures.rest
