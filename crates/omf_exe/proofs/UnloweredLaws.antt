-- Why a file gives no modules, by the fault of its lowering.
use Rattle.std.proofs.Common.{◌≡◌, ℕ, List, false, refl, sym, subst, inr}
use Rattle.std.specs.Prelude.{Err}
use Rattle.omf_frame.specs.declared.fault.Place.{Place}
use Rattle.omf_frame.specs.declared.fault.Reason.{Reason}
use Rattle.omf_aliases.specs.Aliases.{any_profile}
use Rattle.omf_linking.specs.Files.{IsFile}
use Rattle.omf_linking.specs.declared.fault.LinkFault.{LinkFault}
use Rattle.omf_linking.specs.declared.fault.LinkFault.TheVariants as link
use Rattle.omf_lowered.specs.Files.{IsLoweredFile}
use Rattle.omf_exe.specs.Inner.Unlowered.{IsUnloweredAt, IsUnloweredBy}
use Rattle.omf_exe.specs.Lowered.{IsAtNone, IsCheckFault, IsUnlowered, is_link_memory}
use Rattle.omf_exe.specs.declared.lowered.Unlowered.{Unlowered}
use Rattle.omf_exe.specs.declared.lowered.Unlowered.TheVariants as unlowered

unlowered_at : (bytes lowered : List ℕ) (number : ℕ) (why : Reason) (there : Place) (u : Unlowered) → IsLoweredFile bytes lowered → IsFile any_profile lowered (Err (link.Refused number why there)) → IsUnloweredAt bytes number why there u → IsUnlowered bytes u
unlowered_at bytes lowered number why there unlowered.Memory l h p = tt
unlowered_at bytes lowered number why there (unlowered.Fault g) l h (at, e, p) = inr (subst (IsCheckFault bytes) (sym e) (record { lowered = lowered; there = there; lowering = l; refused = h; place = p }))
unlowered_at bytes lowered number why there unlowered.Refused l h p = record { lowered = lowered; lowering = l; fault = link.Refused number why there; known = refl; refused = h; written = p }

at_none : (bytes lowered : List ℕ) (f : LinkFault) (u : Unlowered) → IsLoweredFile bytes lowered → IsFile any_profile lowered (Err f) → is_link_memory f ≡ false → IsAtNone bytes f → u ≡ unlowered.Refused → IsUnlowered bytes u
at_none bytes lowered f u l h known none e = subst (IsUnlowered bytes) (sym e) (record { lowered = lowered; lowering = l; fault = f; known = known; refused = h; written = none })

pub unlowered_by : (bytes lowered : List ℕ) (f : LinkFault) (u : Unlowered) → IsLoweredFile bytes lowered → IsFile any_profile lowered (Err f) → IsUnloweredBy bytes f u → IsUnlowered bytes u
unlowered_by bytes lowered link.Memory u l h e = subst (IsUnlowered bytes) (sym e) tt
unlowered_by bytes lowered (link.Refused number why there) u l h p = unlowered_at bytes lowered number why there u l h p
unlowered_by bytes lowered link.Read u l h e = at_none bytes lowered link.Read u l h refl tt e
unlowered_by bytes lowered (link.NoText at) u l h e = at_none bytes lowered (link.NoText at) u l h refl tt e
unlowered_by bytes lowered link.NoModules u l h e = at_none bytes lowered link.NoModules u l h refl tt e
unlowered_by bytes lowered (link.Line line why) u l h e = at_none bytes lowered (link.Line line why) u l h refl tt e
unlowered_by bytes lowered (link.External f) u l h e = at_none bytes lowered (link.External f) u l h refl tt e
unlowered_by bytes lowered (link.Reach number f) u l h e = at_none bytes lowered (link.Reach number f) u l h refl tt e
unlowered_by bytes lowered (link.Starts first second) u l h e = at_none bytes lowered (link.Starts first second) u l h refl tt e
unlowered_by bytes lowered (link.Space f) u l h e = at_none bytes lowered (link.Space f) u l h refl tt e
