use Rattle.std.proofs.Common.{◌≡◌, ◌∙◌, [], length, refl, sym}
use Rattle.std.proofs.lemmas.Bool.{eqb-true}
use Rattle.std.proofs.lemmas.List.{nil_from_length}
use Rattle.omf_image.specs.Limits.{profile_limits}
use Rattle.omf_check.proofs.ListedLaws.{not_empty}
use Rattle.omf_exe.proofs.UnorderedLaws.{written-first, written-last, written-next, written-starts}
use Rattle.omf_exe.proofs.unordered.put_unordered.Goals as goal

pub records-init : goal.records-init
records-init c =
    let m = c.args.«module».now in
    written-first m.profile profile_limits m.bytes c.bytes-left.result.now c.args.out.now.items c.bytes-left.ensures.well_formed c.bytes-left.ensures.bytes

pub split_record-requires : goal.split_record-requires
split_record-requires c =
    let left = c.records.left.now in
    written-starts _ left c.records.out.items c.records.invariant (not_empty left c.is_empty.result c.is_empty.ensures c.records-test.true)

pub records-preserved : goal.records-preserved
records-preserved c =
    let left = c.records.left.now in
    let one = c.split_record in
    written-next _ left c.records.out.items c.records.invariant (not_empty left c.is_empty.result c.is_empty.ensures c.records-test.true)
    one.result.1.now one.ensures.rest one.result.0.kind one.result.0.body.now _ c.put_unless.new.out.items one.ensures.kind one.ensures.body refl c.in_ok-put_unless.ensures

pub returns : goal.returns
returns c =
    let left = c.records.left.now in
    let none : left ≡ [] = nil_from_length left (eqb-true (length left) 0 (sym c.is_empty.ensures ∙ c.records-test.false)) in
    written-last _ left c.records.out.items c.records.invariant none
