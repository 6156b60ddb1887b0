use Rattle.std.proofs.Common.{refl}
use Rattle.omf_check.specs.Module.{records_in, typed_modules}
use Rattle.omf_check.specs.WellFormed.{recs}
use Rattle.omf_exe.specs.Listing.{module_line}
use Rattle.omf_placement.proofs.StepLaws.{all_printed, one_more}
use Rattle.omf_exe.proofs.OriginLaws.{next-module, no-module-left}
use Rattle.omf_exe.proofs.listing.put_modules.Goals as goal

pub loop-j-init : goal.loop-j-init
loop-j-init c = record { whole = refl }

pub loop-j-preserved : goal.loop-j-preserved
loop-j-preserved c =
    let ms = c.args.modules.now in
    let j = c.loop-j.j in
    let m = c.index-modules-j.result in
    one_more (module_line c.args.files.now c.args.from.now) (typed_modules ms) j _ _ (recs (records_in m.bytes)) _ (next-module ms j m c.index-modules-j.is c.loop-j-test.true) c.in_ok-put_line.ensures c.loop-j.invariant

pub returns : goal.returns
returns c =
    let ms = c.args.modules.now in
    all_printed (module_line c.args.files.now c.args.from.now) (typed_modules ms) c.loop-j.j _ _ (no-module-left ms c.loop-j.j c.loop-j-test.false) c.loop-j.invariant
