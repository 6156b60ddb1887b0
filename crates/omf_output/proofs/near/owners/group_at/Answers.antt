use Rattle.std.proofs.Common.{◌≡◌, ◌<◌, ◌-◌, ◌∙◌, arith, length}
use Rattle.omf_check.specs.Module.{records_in}
use Rattle.omf_check.specs.Tables.{segments}
use Rattle.omf_check.specs.WellFormed.{recs}
use Rattle.omf_output.proofs.OwnerLaws.{none-found, some-found}
use Rattle.omf_output.proofs.near.owners.group_at.Goals as goal

pub returns-then-group-eq0 : goal.returns-then-group-eq0
returns-then-group-eq0 c =
    let m = recs (records_in c.args.module.now.bytes) in
    let before = c.in_ok-before.ensures in
    let count = c.segments.ensures.count in
    let from = c.from.ensures in
    let low = c.if-before-segments.false in
    none-found m c.args.table.now c.args.segment c.from.result c.requires before.0 (from ∙ before.1) (omega (arith, from, low, count)) c.if-group-eq0.true

pub returns : goal.returns
returns c =
    let m = recs (records_in c.args.module.now.bytes) in
    let before = c.in_ok-before.ensures in
    let count = c.segments.ensures.count in
    let from = c.from.ensures in
    let low = c.if-before-segments.false in
    some-found m c.args.table.now c.args.segment c.from.result c.requires before.0 (from ∙ before.1) (omega (arith, from, low, count)) c.if-group-eq0.false
