use Rattle.omf_cmd.proofs.OneAnswer.{one_answer}
use Rattle.omf_cmd.proofs.laws.inputs_have_one_answer.Goals as goal

pub returns : goal.returns
returns c = one_answer
