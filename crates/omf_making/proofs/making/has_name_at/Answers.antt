use Rattle.std.proofs.Common.{subst}
use Rattle.omf_making.specs.Made.{HasName}
use Rattle.omf_making.proofs.MadeLaws.{has_more, on_true}
use Rattle.omf_making.proofs.making.has_name_at.Goals as goal

pub returns : goal.returns
returns c =
    on_true c.is_first_name.result _ _ c.is_first_name.ensures (λ h. has_more c.args.is_case_sensitive c.args.number c.args.names.now c.args.name.now
    (subst (λ xs. HasName c.args.is_case_sensitive xs c.args.name.now) c.split_at.ensures.back h))
