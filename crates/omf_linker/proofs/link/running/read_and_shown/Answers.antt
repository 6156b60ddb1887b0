use Rattle.std.proofs.Common.{ℕ, Vec, Global}
use Rattle.omf_linker.proofs.LinkRuns.{all_read, part_cause, part_read, whole_cause}
use Rattle.omf_linker.proofs.link.running.read_and_shown.Goals as goal

pub returns-in-Ok-clause-answer : goal.returns-in-Ok-clause-answer
returns-in-Ok-clause-answer g c input told =
    all_read c.args.task (g.S.Source.seen c.args.reader.now).bytes (g.S.Source.seen c.read_all.new.source).bytes c.in-Ok.input.items input c.shown_output.result told c.in-Ok.ensures.read c.in-Ok.ensures.end c.shown_output.ensures

pub returns-in-Ok-clause-cause : goal.returns-in-Ok-clause-cause
returns-in-Ok-clause-cause g c =
    whole_cause (g.S.Source.seen c.args.reader.now) (g.S.Source.seen c.read_all.new.source) c.args.task c.in-Ok.input.items c.shown_output.result c.in-Ok.ensures.cause c.shown_output.ensures

pub returns-in-Err-clause-answer : goal.returns-in-Err-clause-answer
returns-in-Err-clause-answer g c input told =
    part_read c.args.task (Vec ℕ Global) input (g.S.Source.seen c.args.reader.now) (g.S.Source.seen c.read_all.new.source) _ _ c.in-Err.fault c.in-Err.ensures.cause c.in-Err.ensures.part

pub returns-in-Err-clause-cause : goal.returns-in-Err-clause-cause
returns-in-Err-clause-cause g c =
    part_cause (g.S.Source.seen c.args.reader.now) (g.S.Source.seen c.read_all.new.source) (Vec ℕ Global) c.in-Err.fault c.in-Err.ensures.cause
