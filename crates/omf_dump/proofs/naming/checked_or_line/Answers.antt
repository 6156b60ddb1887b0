use Rattle.std.proofs.Common.{ap, refl}
use Rattle.omf_frame.specs.Device.{Device}
use Rattle.omf_dump.proofs.naming.checked_or_line.Goals as goal

pub returns-in-Ok-clause-module : goal.returns-in-Ok-clause-module
returns-in-Ok-clause-module c = (c.in-Ok.ensures.verdict c.args.bytes.now (ap (λ (d : Device). d.bytes) c.new.ensures), refl)
