use Rattle.omf_lib.proofs.DefiningLaws.{if_ok}
use Rattle.omf_lib.proofs.judging.judge_end.Goals as goal

pub returns-in_ok-judge_entries-in-Ok : goal.returns-in_ok-judge_entries-in-Ok
returns-in_ok-judge_entries-in-Ok g c = λ ds h. if_ok c.judge_definitions.result (λ found f e. record { end = c.in-Ok.end; ended = c.in-Ok.is; after = c.in-Some.ensures.1; entries = f e }) (c.judge_definitions.ensures ds h)
