use Rattle.std.proofs.Common.{◌≡◌, ◌+◌, refl, arith, rules}
use Rattle.std.specs.Prelude.{Some}
use Rattle.omf_check.specs.Module.{records_in}
use Rattle.omf_check.specs.Tables.{externals, entry}
use Rattle.omf_check.specs.WellFormed.{recs}
use Rattle.omf_map.specs.MapText.{external_line}
use Rattle.omf_placement.proofs.StepLaws.{next_entry, one_more, all_printed, none_left}
use Rattle.omf_map.proofs.listing.print_externals.Goals as goal

pub loop-before-init : goal.loop-before-init
loop-before-init c = record { whole = refl }

pub loop-before-preserved : goal.loop-before-preserved
loop-before-preserved c =
    let m = recs (records_in c.args.«module».now.bytes) in
    let told : entry (externals m) (c.loop-before.before + 1) ≡ Some c.in-Some.name = search rules in
    one_more (external_line c.args.number (m, c.args.addresses.now)) (externals m) c.loop-before.before _ _ c.in-Some.name _
    (next_entry (externals m) c.loop-before.before c.in-Some.name told) (search rules) c.loop-before.invariant

pub returns : goal.returns
returns c =
    let m = recs (records_in c.args.«module».now.bytes) in
    all_printed (external_line c.args.number (m, c.args.addresses.now)) (externals m) c.loop-before.before _ _
    (none_left (externals m) c.loop-before.before (omega (arith, c.loop-before-test.false, c.externals-before-end.ensures.count))) c.loop-before.invariant
