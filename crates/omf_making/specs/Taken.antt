-- Modules as a program takes them: one that the check refuses by its lowering (this profile's rule).
use Rattle.std.specs.Prelude.{◌≡◌, ◌⊎◌, ℕ, ◌+◌, true, false, List, [], ◌∷◌, length, drop, slice_index, Ok}
use Rattle.omf_frame.specs.declared.fault.Place.{Place}
use Rattle.omf_frame.specs.declared.fault.Reason.{Reason}
use Rattle.omf_image.specs.Limits.{profile_limits}
use Rattle.omf_check.specs.Checking.{Decides}
use Rattle.omf_check.specs.Refusal.{IsRefused}
use Rattle.omf_check.specs.declared.profile.Profile.{Profile}
use Rattle.omf_lowered.specs.Checked.{IsRefusedAsWritten, IsUnlowered}
use Rattle.omf_lowered.specs.Mended.{shown}
use Rattle.omf_lowered.specs.Modules.{IsLoweredModule}
use Rattle.omf_library.specs.Library.{HasHeader, library_end, next_page, page_size}
use Rattle.omf_library.specs.declared.member.Member.{Member}
use Rattle.omf_making.specs.declared.taken.Judgement.{Judgement}
use Rattle.omf_making.specs.declared.taken.Judgement.TheVariants as judgement
use Rattle.omf_making.specs.declared.taken.Refusal.{Refusal}
use Rattle.omf_making.specs.declared.taken.Taken.{Taken}

-- The check refuses bytes.
abbrev pub IsRefusedBy : Profile → List ℕ → Refusal → Type 0
IsRefusedBy profile bytes r = IsRefused profile profile_limits bytes r.reason r.place

-- The check accepts the module that bytes begin with.
pub record IsAcceptedAs (profile : Profile) (bytes : List ℕ) (t : Taken) : Type 0 where
  pub accepted : Decides profile bytes (Ok t.«module»)
  pub sized : t.length ≡ length t.«module».bytes
  pub marked : t.is_lowered ≡ false

-- The check accepts the lowering of the module that bytes begin with. The module has the bytes that are lowered.
pub record IsLoweringOf (profile : Profile) (bytes : List ℕ) (t : Taken) : Type 0 where
  pub lowered : List ℕ
  pub rest : List ℕ
  pub lowering : IsLoweredModule bytes lowered rest
  pub accepted : Decides profile lowered (Ok t.«module»)
  pub sized : t.length + length rest ≡ length bytes
  pub marked : t.is_lowered ≡ true

-- The module that a program takes of bytes: one that the check accepts; or, if it refuses it, its lowering.
abbrev pub IsTaken : Profile → List ℕ → Taken → Type 0
IsTaken profile bytes t = IsAcceptedAs profile bytes t ⊎ ((own : Refusal) × IsRefusedBy profile bytes own × IsLoweringOf profile bytes t)

-- A program takes no module of bytes: the check refuses it and, at a record that the lowering wrote, its lowering; or it has
-- none, or the check refuses that at a record of the bytes: this is shown if the check's own reason is one that a lowering mends.
abbrev pub IsUntaken : Profile → List ℕ → Refusal → Type 0
IsUntaken profile bytes r = (own : Refusal) × IsRefusedBy profile bytes own
    × ((IsRefusedAsWritten profile bytes × (r ≡ own)) ⊎ ((why : Reason) × (at : Place) × IsUnlowered profile bytes why at × (r ≡ shown own.reason own (record { reason = why; place = at }))))

-- What a program takes of bytes, or why it takes nothing.
abbrev pub IsJudgement : Profile → List ℕ → Judgement → Type 0
IsJudgement profile bytes (judgement.Taken t) = IsTaken profile bytes t
IsJudgement profile bytes (judgement.Refused r) = IsUntaken profile bytes r

-- From the member's offset on the bytes begin with a module that a program takes, which has the member's length.
abbrev pub IsTakenMember : Profile → List ℕ → Member → Type 0
IsTakenMember profile bytes m = (t : Taken) × IsTaken profile (drop m.offset bytes) t × (t.length ≡ m.length)

-- Members one after another, as in `AreMembers`.
abbrev pub AreTakenMembers : Profile → List ℕ → ℕ → ℕ → List Member → ℕ → Type 0
AreTakenMembers profile bytes page at [] to = at ≡ to
AreTakenMembers profile bytes page at (m ∷ ms) to = (m.offset ≡ at) × IsTakenMember profile bytes m × AreTakenMembers profile bytes page (next_page page (at + m.length)) ms to

-- The bytes are a library with these members, as in `IsLibrary`, each of which a program takes.
pub record IsTakenLibrary (profile : Profile) (bytes : List ℕ) (members : List Member) (end : ℕ) : Type 0 where
  pub header : HasHeader bytes
  pub members_are : AreTakenMembers profile bytes (page_size bytes) (page_size bytes) members end
  pub ended : slice_index bytes end ≡ library_end
