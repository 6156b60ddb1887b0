use Rattle.std.proofs.Common.{◌/◌, arith}
use Rattle.std.specs.Prelude.{◌^◌}
use Rattle.omf_records.proofs.OwnLaws.{odd, own-methods, own-frame, own-target}
use Rattle.omf_records.proofs.passing.is_own.Goals as goal

pub returns-clause-methods : goal.returns-clause-methods
returns-clause-methods c h = own-methods c.args.fix (omega arith) (odd (55 / 2 ^ (c.args.fix / 16)) c.if-fix-eq0.false) h

pub returns-clause-frame : goal.returns-clause-frame
returns-clause-frame c h = own-frame c.args.fix (omega arith) (odd (55 / 2 ^ (c.args.fix / 16)) c.if-fix-eq0.false) h

pub returns-clause-target : goal.returns-clause-target
returns-clause-target c h = own-target c.args.fix (omega arith) (odd (55 / 2 ^ (c.args.fix / 16)) c.if-fix-eq0.false) h
