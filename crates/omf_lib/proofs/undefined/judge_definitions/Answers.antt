use Rattle.omf_lib.proofs.DefiningLaws.{defined_there}
use Rattle.omf_lib.proofs.undefined.judge_definitions.Goals as goal

pub returns-in-Some : goal.returns-in-Some
returns-in-Some g c = λ ds h. defined_there c.args.library.now.header c.args.library.now.bytes.now ds c.in-Some.dictionary c.args.keys.now c.put_blocks.result c.in-Some.ensures h (c.put_blocks.ensures ds)
