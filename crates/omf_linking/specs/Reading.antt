-- The modules of an input, one after another, and the text after them (this profile's rule).
use Rattle.std.specs.Prelude.{◌≡◌, ◌⊎◌, ◌<◌, ◌≤◌, ◌+◌, ◌==◌, ◌||◌, nat_le, if◌then◌else◌, ⊤, ℕ, List, [], ◌∷◌, length, Bool, true, false, Option, Result, Ok, Err}
use Rattle.std.specs.List.{list_all}
use Rattle.std.specs.Io.KnownBytes.{Consumes}
use Rattle.omf_frame.specs.Device.{Device, GivesUp, HasFailed}
use Rattle.omf_frame.specs.Framing.{is_header}
use Rattle.omf_frame.specs.declared.fault.Place.{Place}
use Rattle.omf_frame.specs.declared.fault.Reason.{Reason}
use Rattle.omf_image.specs.Limits.{profile_limits}
use Rattle.omf_check.specs.Checking.{Decides}
use Rattle.omf_check.specs.Module.{Module}
use Rattle.omf_check.specs.Refusal.{IsRefused}
use Rattle.omf_check.specs.declared.profile.Profile.{Profile}
use Rattle.omf_linking.specs.declared.fault.LinkFault.{LinkFault}
use Rattle.omf_linking.specs.declared.fault.LinkFault.TheVariants as fault

-- Part of an input was read, possibly all or nothing.
abbrev pub IsPartRead : Option (List ℕ) → Option (List ℕ) → Type 0
IsPartRead old new = (read : List ℕ) × Consumes old new read

-- Why an input is not read to its end: `Read` if the reader failed, by its one break or a thousand interruptions; Memory if it did not break.
abbrev pub IsReadCause : {A : Type 0} → Device → Device → Result A LinkFault → Type 0
IsReadCause old new (Ok bytes) = (new.breaks ≡ old.breaks) × (old.failures ≤ new.failures)
IsReadCause old new (Err fault.Memory) = (new.breaks ≡ old.breaks) × (old.failures ≤ new.failures)
IsReadCause old new (Err fault.Read) = HasFailed old.failures new.failures × GivesUp old new
IsReadCause old new (Err _) = ⊥

-- Another module begins if the next byte is the type of a THEADR or LHEADR (TIS OMF 1.1).
abbrev pub begins_module : List ℕ → Bool
begins_module [] = false
begins_module (b ∷ bs) = is_header b

-- Bytes without those of one value at their front.
abbrev pub without : ℕ → List ℕ → List ℕ
without v [] = []
without v (b ∷ bs) = if b == v then without v bs else b ∷ bs

-- Bytes without the padding at their front: bytes of one value, 00H or 1AH. Programs that write whole sectors pad a file with zeros; CP/M and XMODEM with 1AH.
abbrev pub unpadded : List ℕ → List ℕ
unpadded [] = []
unpadded (b ∷ bs) = if b == 0x00 then without 0x00 (b ∷ bs) else if b == 0x1A then without 0x1A (b ∷ bs) else b ∷ bs

-- A text has no control character but tabs, line feeds and carriage returns. Libraries, programs and object files of other formats have some.
abbrev pub is_text_byte : ℕ → Bool
is_text_byte b = nat_le 0x20 b || b == 9 || b == 10 || b == 13

abbrev pub is_text : List ℕ → Bool
is_text bs = list_all is_text_byte bs

-- Bytes begin with this module.
abbrev pub BeginsWith : Profile → List ℕ → Module → Type 0
BeginsWith profile input m = Decides profile input (Ok m)

-- The module that bytes begin with, or its refusal, by its number.
abbrev pub IsModuleAt : Profile → ℕ → List ℕ → Result Module LinkFault → Type 0
IsModuleAt profile number input (Ok m) = BeginsWith profile input m
IsModuleAt profile number input (Err fault.Memory) = ⊤
IsModuleAt profile number input (Err (fault.Refused k why at)) = (k ≡ number) × IsRefused profile profile_limits input why at
IsModuleAt profile number input (Err _) = ⊥

-- An input is these modules, one after another, each with the padding after it, and then the rest.
abbrev pub IsFront : Profile → List ℕ → List Module → List ℕ → Type 0
IsFront profile input [] rest = input ≡ rest
IsFront profile input (m ∷ ms) rest = (a : BeginsWith profile input m) × IsFront profile (unpadded a.1.0.rest) ms rest

-- After `count` modules another one is expected, and it is not well formed. The first is always expected; a further one if the next byte begins it.
pub record IsRefusedBehind (profile : Profile) (input : List ℕ) (count : ℕ) (why : Reason) (at : Place) : Type 0 where
  pub modules : List Module
  pub rest : List ℕ
  pub front : IsFront profile input modules rest
  pub counted : length modules ≡ count
  pub begun : (modules ≡ []) ⊎ (begins_module rest ≡ true)
  pub refused : IsRefused profile profile_limits rest why at

-- What is left after the modules and their padding, from this offset on, begins no module and is no text.
pub record IsNoTextBehind (profile : Profile) (input : List ℕ) (at : ℕ) : Type 0 where
  pub modules : List Module
  pub rest : List ℕ
  pub front : IsFront profile input modules rest
  pub some : 0 < length modules
  pub ended : begins_module rest ≡ false
  pub strange : is_text rest ≡ false
  pub counted : at + length rest ≡ length input

-- The modules of an input, one at least, and the text after them; or the first module that is refused; or what follows the modules is no text. Memory may run
-- out at any time.
abbrev pub AreModules : Profile → List ℕ → Result (List Module × List ℕ) LinkFault → Type 0
AreModules profile input (Ok r) = IsFront profile input r.0 r.1 × (begins_module r.1 ≡ false) × (0 < length r.0) × (is_text r.1 ≡ true)
AreModules profile input (Err fault.Memory) = ⊤
AreModules profile input (Err (fault.Refused k why at)) = IsRefusedBehind profile input k why at
AreModules profile input (Err (fault.NoText at)) = IsNoTextBehind profile input at
AreModules profile input (Err _) = ⊥
