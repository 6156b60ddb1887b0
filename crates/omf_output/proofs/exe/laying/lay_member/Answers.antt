use Rattle.std.proofs.Common.{◌≡◌, subst}
use Rattle.std.specs.Prelude.{fold}
use Rattle.omf_check.specs.Module.{recs_of}
use Rattle.omf_output.specs.Exe.Members.{Member}
use Rattle.omf_output.specs.Exe.Memory.{chunks, put}
use Rattle.omf_output.proofs.exe.laying.lay_member.Goals as goal

pub returns : goal.returns
returns c =
    subst (λ (m : Member). c.lay_module.new.image ≡ fold (put 0) c.args.image.now (chunks m.movers m.places (recs_of m.bytes))) c.member.view_is (c.in_ok-lay_module.ensures c.member.inside.movers.now)
