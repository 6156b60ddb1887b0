-- Why canonical bytes are not written.
use Rattle.std.specs.Prelude.{◌≡◌}
use Rattle.omf_frame.specs.Device.{Device, HasFailed, GivesUp}
use Rattle.omf_canon.specs.declared.fault.CanonFault.{CanonFault}
use Rattle.omf_canon.specs.declared.fault.CanonFault.TheVariants.{Memory, Write}

-- If memory runs out, the writer is unchanged. If the writer failed, it counted one failure that is not an interruption, or a thousand
-- interruptions.
abbrev pub IsCanonFault : Device → Device → CanonFault → Type 0
IsCanonFault old new Memory = new ≡ old
IsCanonFault old new Write = HasFailed old.failures new.failures × GivesUp old new
