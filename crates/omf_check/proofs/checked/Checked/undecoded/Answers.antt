use Rattle.std.proofs.Common.{subst, sym}
use Rattle.omf_image.specs.Limits.{profile_limits}
use Rattle.omf_check.specs.Listed.{AreListed}
use Rattle.omf_check.specs.Module.{records_in}
use Rattle.omf_check.specs.Sound.{ModuleHolds}
use Rattle.omf_check.specs.WellFormed.{recs}
use Rattle.omf_check.proofs.ListedLaws.{checked_list}
use Rattle.omf_check.proofs.SoundLaws.{module_holds}
use Rattle.omf_check.proofs.checked.Checked.undecoded.Goals as goal

pub new-requires : goal.new-requires
new-requires c =
    subst (λ x. AreListed x 0 0) (sym c.deref.ensures.value) (checked_list c.self.inside.profile c.self.inside.bytes.items c.self.inside.tables c.self.inside.count c.self.invariant)

pub returns-clause-holds : goal.returns-clause-holds
returns-clause-holds c =
    subst (λ m. ModuleHolds profile_limits (recs (records_in m.bytes))) c.self.view_is
    (module_holds c.self.inside.profile profile_limits c.self.inside.bytes.items (records_in c.self.inside.bytes.items) c.self.invariant.well_formed)
