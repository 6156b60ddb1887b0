use native.Mathlib.Omega.{arith}
use Rattle.std.proofs.Common.{◌<◌, ◌∙◌}
use Rattle.omf_lib.proofs.KeyLaws.{judged_so}
use Rattle.omf_lib.proofs.defining.is_undefined.Goals as goal

pub returns : goal.returns
returns c = λ ds h.
    let fits = c.ranges.page.fits in
    let low : c.args.page < 65536 = omega (arith, fits) in
    c.is_fault.ensures
    ∙ judged_so c.args.is_case_sensitive c.args.keys.now ds c.args.page c.args.name.now c.in_ok-place.place c.in_ok-key.key c.contains-is_judged.result c.is_of_module.result c.contains-is_defined.result low h c.in_ok-place.ensures
    c.in_ok-key.ensures c.contains-is_judged.ensures c.contains-is_defined.ensures c.is_of_module.ensures
