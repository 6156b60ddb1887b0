use Rattle.std.proofs.Common.{◌∙◌, sym}
use Rattle.omf_image.specs.Limits.{profile_limits}
use Rattle.omf_check.proofs.Walked.{walked_bounded}
use Rattle.omf_check.proofs.table.Tables.take.Goals as goal

pub returns-in-None-clause-bounded : goal.returns-in-None-clause-bounded
returns-in-None-clause-bounded c =
    walked_bounded c.args.profile profile_limits c.args.self.now c.requires.bounded c.args.raw.kind c.args.raw.start c.take_fixups.new.self _
    (sym c.take_fixups.ensures.found ∙ c.in-None.is) (λ subs q. c.take_fixups.ensures.kept subs q c.in-None.is)
