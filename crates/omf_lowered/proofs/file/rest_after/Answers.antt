use Rattle.std.proofs.Common.{◌+◌, subst, sym}
use Rattle.omf_lowered.specs.Files.{IsRestAfter}
use Rattle.omf_lowered.proofs.FileLaws.{rest_after_more}
use Rattle.omf_lowered.proofs.file.rest_after.Goals as goal

pub loop-number-preserved : goal.loop-number-preserved
loop-number-preserved c =
    let l = c.loop-number in
    subst (IsRestAfter c.args.bytes.now (l._number + 1)) (sym c.unpadded-left.ensures.rest)
    (rest_after_more c.args.bytes.now l.left.now c.in-Ok.module.bytes.items c.in-Ok.module.rest.now l._number l.invariant c.in-Ok.ensures.ok)
