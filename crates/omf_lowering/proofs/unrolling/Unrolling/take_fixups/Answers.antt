use Rattle.std.proofs.Common.{subst, sym}
use Rattle.std.specs.Prelude.{IfSome}
use Rattle.omf_lowering.specs.Inner.Rolling.{AreIn}
use Rattle.omf_lowering.proofs.unrolling.Unrolling.take_fixups.Goals as goal

pub take_all-requires : goal.take_all-requires
take_all-requires c = subst AreIn (sym c.same-data.ensures) (subst (λ o. IfSome o AreIn) c.in-Some.is c.self.invariant)
