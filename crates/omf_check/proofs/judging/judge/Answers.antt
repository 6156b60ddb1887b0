use Rattle.omf_check.proofs.JudgingLaws.{reads, judges_end, cause_end}
use Rattle.omf_check.proofs.judging.judge.Goals as goal

pub returns-clause-verdict : goal.returns-clause-verdict
returns-clause-verdict g c =
    let e = c.in_ok-taken.ensures in
    let h = e.taken in
    judges_end c.args.profile c.take_module.new.framer.held h.taken c.in_ok-taken.taken.tables h.passing c.in_ok-taken.taken.size h.counted c.stopped.result c.stopped.ensures
    (g.S.Source.seen c.args.reader.now).bytes (g.S.Source.seen c.take_module.new.reader).bytes h.consumed e.ends

pub returns-clause-read : goal.returns-clause-read
returns-clause-read g c =
    let h = c.in_ok-taken.ensures.taken in
    reads c.args.profile c.take_module.new.framer.held h.taken c.in_ok-taken.taken.tables h.passing c.in_ok-taken.taken.size h.counted c.stopped.result c.stopped.ensures
    (g.S.Source.seen c.args.reader.now).bytes (g.S.Source.seen c.take_module.new.reader).bytes h.consumed

pub returns-clause-cause : goal.returns-clause-cause
returns-clause-cause g c =
    let e = c.in_ok-taken.ensures in
    let h = e.taken in
    cause_end c.args.profile c.take_module.new.framer.held h.taken c.in_ok-taken.taken.tables h.passing c.in_ok-taken.taken.size h.counted c.stopped.result c.stopped.ensures
    (g.S.Source.seen c.args.reader.now).bytes (g.S.Source.seen c.take_module.new.reader).bytes (g.S.Source.seen c.args.reader.now).failures (g.S.Source.seen c.take_module.new.reader).failures h.consumed e.ends
