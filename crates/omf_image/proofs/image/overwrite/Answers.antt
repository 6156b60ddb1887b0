use Rattle.std.proofs.Common.{rules, arith}
use Rattle.omf_image.proofs.OverLaws.{overwritten_items}
use Rattle.omf_image.proofs.image.overwrite.Goals as goal

pub returns-clause-written : goal.returns-clause-written
returns-clause-written c =
    overwritten_items c.args.bytes.now.items c.args.new.now c.args.at c.min-inside.result _ _ _ _ _ (search rules) (search rules) (omega arith) (search rules) (search rules) (search rules) (search rules)
