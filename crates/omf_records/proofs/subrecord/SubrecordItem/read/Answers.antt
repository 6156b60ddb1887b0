use Rattle.omf_records.proofs.Heads.{thread_gives, fixup_gives}
use Rattle.omf_records.proofs.subrecord.SubrecordItem.read.Goals as goal

pub returns-in-Ok : goal.returns-in-Ok
returns-in-Ok c =
    thread_gives c.args.here c.pass.result c.bytes.result.now c.in-Ok.first c.thread.result c.bytes.ensures c.in-len1-up.len_at_least
    c.if-first-lt128.true c.in-Ok.ensures.reason c.in-Ok.ensures.ok c.pass.ensures.within c.pass.ensures.bytes c.pass.ensures.width c.thread.ensures

pub returns-in-Ok-new : goal.returns-in-Ok-new
returns-in-Ok-new c =
    fixup_gives c.args.here c.pass-in-Ok-new.result c.bytes.result.now c.from.result c.from-in-len2-up.result c.in-Ok-new.location c.fixup.result
    c.bytes.ensures c.in-len2-up.len_at_least c.if-first-lt128.false c.from.ensures c.from-in-len2-up.ensures c.in-Ok-new.ensures.reason c.in-Ok-new.ensures.ok
    c.pass-in-Ok-new.ensures.within c.pass-in-Ok-new.ensures.bytes c.pass-in-Ok-new.ensures.width c.fixup.ensures
