-- What is looked at of a library that was made (the steps of the code).
use Rattle.std.specs.Prelude.{◌≡◌, ⊤, ℕ, ◌+◌, ◌*◌, ◌<◌, if◌then◌else◌, Bool, List, length}
use Rattle.omf_check.specs.declared.profile.Profile.{Profile}
use Rattle.omf_library.specs.Dictionary.{block_size}
use Rattle.omf_library.specs.Library.{word_at}
use Rattle.omf_making.specs.Made.{IsPrime}
use Rattle.omf_library.specs.declared.header.Header.{Header}
use Rattle.omf_making.specs.declared.making.MakeFault.{MakeFault}
use Rattle.omf_making.specs.declared.making.MakeFault.TheVariants as fault
use Rattle.omf_making.specs.declared.making.Part.{Part}
use Rattle.omf_making.specs.declared.taken.Taken.{Taken}
use Rattle.omf_making.specs.Taken.{IsTaken, IsUntaken}

-- The flags, and where the dictionary is.
pub record IsLaid (h : Header) (sensitive : Bool) (bytes : List ℕ) (end : ℕ) : Type 0 where
  pub flags : h.flags ≡ (if sensitive then 1 else 0)
  pub after : h.dictionary ≡ end + 3 + word_at bytes (end + 1)
  pub last : h.dictionary + block_size * h.blocks ≡ length bytes
  pub prime : IsPrime h.blocks

-- Why a part is no member.
abbrev pub IsPartFault : Profile → Part → ℕ → MakeFault → Type 0
IsPartFault profile part number fault.Memory = ⊤
IsPartFault profile part number (fault.Refused n why at) = (n ≡ number) × IsUntaken profile part.bytes.items (record { reason = why; place = at })
IsPartFault profile part number (fault.Rest n) = (n ≡ number) × (found : Taken) × IsTaken profile part.bytes.items found × (found.length < length part.bytes.items)
IsPartFault profile part number _ = ⊥
