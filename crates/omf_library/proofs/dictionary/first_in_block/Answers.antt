use Rattle.std.proofs.Common.{below_more, ◌∙◌}
use Rattle.omf_library.proofs.dictionary.first_in_block.Goals as goal

pub loop-bucket-preserved : goal.loop-bucket-preserved
loop-bucket-preserved c = below_more _ _ c.loop-bucket.invariant (λ page e. c.in_default.not-Found page (c.look_of.ensures ∙ e))
