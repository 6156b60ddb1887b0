use Rattle.omf_frame.proofs.Ahead.{nothing_taken, nothing_left}
use Rattle.omf_frame.proofs.faulty.ScriptSource.consume.Goals as goal

pub returns-clause-bytes : goal.returns-clause-bytes
returns-clause-bytes c = nothing_taken _ c.args.count

pub returns-clause-rest : goal.returns-clause-rest
returns-clause-rest c = nothing_left c.args.count
