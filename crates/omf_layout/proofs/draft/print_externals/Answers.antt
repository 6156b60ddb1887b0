use Rattle.std.proofs.Common.{◌≡◌, ◌+◌, refl, sym, arith, rules}
use Rattle.std.specs.Prelude.{Some}
use Rattle.std.specs.List.{zip}
use Rattle.omf_check.specs.Module.{records_in}
use Rattle.omf_check.specs.WellFormed.{recs}
use Rattle.omf_check.specs.Tables.{externals, entry}
use Rattle.omf_layout.specs.Draft.{external_line}
use Rattle.omf_layout.specs.Reading.{IsShortPlace}
use Rattle.omf_layout.proofs.Printed.{more-printed, all-printed, none-so-far, more-hold, all-hold, entry-zip, zip-short}
use Rattle.omf_layout.proofs.draft.print_externals.Goals as goal

pub loop-before-init : goal.loop-before-init
loop-before-init c = record { lines = record { whole = refl }; short = none-so-far IsShortPlace c.args.layout.now.places.externals }

pub loop-before-preserved : goal.loop-before-preserved
loop-before-preserved c =
    let m = recs (records_in c.args.«module».now.bytes) in
    let l = c.args.layout.now in
    let j = c.loop-before.before in
    let told : entry (externals m) (j + 1) ≡ Some c.in-Some.name = sym c.in-Some.ensures in
    let roomed : entry l.rooms (j + 1) ≡ Some c.in-Some-entry_of.room = search rules in
    let here : entry l.places.externals (j + 1) ≡ Some c.in-Some-external.place = search rules in
    let short : IsShortPlace c.in-Some-external.place = c.in_ok-print_external.ensures.short in
    record {
      lines = more-printed external_line (zip (zip (externals m) l.rooms) l.places.externals) j _ _ _ _ c.loop-before.invariant.lines
          (entry-zip (zip (externals m) l.rooms) l.places.externals j _ _ (entry-zip (externals m) l.rooms j _ _ told roomed) here)
          c.in_ok-print_external.ensures.line;
      short = more-hold IsShortPlace l.places.externals j _ c.loop-before.invariant.short here short;
    }

pub returns-clause-short : goal.returns-clause-short
returns-clause-short c =
    all-hold IsShortPlace c.args.layout.now.places.externals c.loop-before.before
    (omega (arith, c.loop-before-test.false, c.externals-before-end.ensures.count, c.requires.placed)) c.loop-before.invariant.short

pub returns-clause-lines : goal.returns-clause-lines
returns-clause-lines c =
    let m = recs (records_in c.args.«module».now.bytes) in
    let l = c.args.layout.now in
    all-printed external_line (zip (zip (externals m) l.rooms) l.places.externals) c.loop-before.before _ _
    (omega (arith, c.loop-before-test.false, c.externals-before-end.ensures.count, zip-short (zip (externals m) l.rooms) l.places.externals, zip-short (externals m) l.rooms)) c.loop-before.invariant.lines
