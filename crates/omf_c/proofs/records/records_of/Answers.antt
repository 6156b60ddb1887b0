use Rattle.std.proofs.Common.{◌<◌, ◌≤◌, ◌^◌, ◌≡◌, ◌∙◌, [], length, sym, arith, rules}
use Rattle.std.proofs.lemmas.Bool.{eqb-true}
use Rattle.std.proofs.lemmas.List.{nil_from_length}
use Rattle.omf_image.specs.Limits.{profile_limits}
use Rattle.omf_check.proofs.ListedLaws.{not_empty}
use Rattle.omf_check.specs.Module.{records_in}
use Rattle.omf_c.specs.Records.{record_rows}
use Rattle.omf_c.proofs.RecordLaws.{shown-first, shown-last, shown-next, shown-starts}
use Rattle.omf_c.proofs.records.records_of.Goals as goal

pub records-init : goal.records-init
records-init c =
    let few : c.record_count-count.result < 2 ^ 32 = search rules in
    let sized = c.size_of-size.ensures in
    let short : length c.bytes-bytes.result.now ≤ 2 ^ 63 = omega (arith, sized.size, sized.small) in
    shown-first c.args.module.now.profile profile_limits c.args.module.now.bytes c.bytes-bytes.result.now c.new-rows.result.items c.record_count-count.result
    c.bytes-bytes.ensures.well_formed c.bytes-bytes.ensures.bytes c.new-rows.ensures.items c.record_count-count.ensures few short

pub split_record-requires : goal.split_record-requires
split_record-requires c =
    let left = c.records.left.now in
    shown-starts _ left c.records.number c.records.start c.records.rows.items c.records.invariant (not_empty left c.is_empty.result c.is_empty.ensures c.records-test.true)

pub records-preserved : goal.records-preserved
records-preserved c =
    let left = c.records.left.now in
    let one = c.split_record in
    shown-next _ left c.records.number c.records.start c.records.rows.items c.records.invariant (not_empty left c.is_empty.result c.is_empty.ensures c.records-test.true)
    one.result.1.now one.ensures.rest one.result.0.kind c.record_row.result c.push.new.self.items one.ensures.kind c.record_row.ensures c.in_ok-push.ensures.items

pub returns : goal.returns
returns c =
    let left = c.records.left.now in
    let none : left ≡ [] = nil_from_length left (eqb-true (length left) 0 (sym c.is_empty.ensures ∙ c.records-test.false)) in
    shown-last _ left c.records.number c.records.start c.records.rows.items c.records.invariant none
