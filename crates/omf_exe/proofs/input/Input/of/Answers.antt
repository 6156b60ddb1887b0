use Rattle.omf_exe.proofs.OriginLaws.{all_give, one-file-more}
use Rattle.omf_exe.proofs.input.Input.of.Goals as goal

pub loop-number-preserved : goal.loop-number-preserved
loop-number-preserved c =
    let more = one-file-more c.args.files.now c.loop-number.number c.index-files-number.result c.loop-number.input c.add_file.new.self c.loop-number-test.true c.index-files-number.is c.loop-number.invariant.from c.in_default.ensures.added in
    record { given = all_give 0 _ _ _ _ _ more; from = more }
