-- The modules of a file, lowered (this profile's rule).
use Rattle.std.specs.Prelude.{◌≡◌, ◌⊎◌, ◌<◌, ◌+◌, ⊤, ℕ, List, [], ◌∷◌, length, flat_map, Option, Bool, true, false, ◌==◌, ◌||◌, if◌then◌else◌}
use Rattle.omf_frame.specs.declared.fault.Place.{Place}
use Rattle.omf_frame.specs.declared.fault.Reason.{Reason}
use Rattle.omf_lowered.specs.Modules.{IsLoweredModule, IsModuleRefused}
use Rattle.omf_lowered.specs.Places.{IsPlaceIn}
use Rattle.omf_lowered.specs.declared.fault.FileFault.{FileFault}
use Rattle.omf_lowered.specs.declared.fault.FileFault.TheVariants as fault

-- Another module begins if the next byte is the type of a THEADR or LHEADR (TIS OMF 1.1).
abbrev pub begins_module : List ℕ → Bool
begins_module [] = false
begins_module (b ∷ bs) = (b == 0x80) || (b == 0x82)

-- Bytes without those of one value at their front.
abbrev pub without : ℕ → List ℕ → List ℕ
without v [] = []
without v (b ∷ bs) = if b == v then without v bs else b ∷ bs

-- Bytes without the padding at their front: bytes of one value, 00H or 1AH.
abbrev pub unpadded : List ℕ → List ℕ
unpadded [] = []
unpadded (b ∷ bs) = if b == 0x00 then without 0x00 (b ∷ bs) else if b == 0x1A then without 0x1A (b ∷ bs) else b ∷ bs

-- An input is modules with these lowerings, one after another, each with the padding after it, and then the rest.
abbrev pub IsFront : List ℕ → List (List ℕ) → List ℕ → Type 0
IsFront input [] rest = input ≡ rest
IsFront input (out ∷ outs) rest = (after : List ℕ) × IsLoweredModule input out after × IsFront (unpadded after) outs rest

-- A file has modules, one at least, and nothing else but padding, and these are the bytes of their lowerings.
pub record IsLoweredFile (input out : List ℕ) : Type 0 where
  pub outs : List (List ℕ)
  pub front : IsFront input outs []
  pub some : 0 < length outs
  pub joined : out ≡ flat_map (λ o. o) outs

-- After `count` modules another one is expected, and it is refused. The first is always expected; a further one if the next byte begins it.
pub record IsRefusedAfter (input : List ℕ) (count : ℕ) (why : Reason) (at : Place) : Type 0 where
  pub outs : List (List ℕ)
  pub rest : List ℕ
  pub front : IsFront input outs rest
  pub counted : length outs ≡ count
  pub begun : (outs ≡ []) ⊎ (begins_module rest ≡ true)
  pub refused : IsModuleRefused rest why at

-- Something is left after the modules and their padding, from this offset on, and begins no module.
pub record HasMore (input : List ℕ) (at : ℕ) : Type 0 where
  pub outs : List (List ℕ)
  pub rest : List ℕ
  pub front : IsFront input outs rest
  pub some : 0 < length outs
  pub ended : begins_module rest ≡ false
  pub left : 0 < length rest
  pub counted : at + length rest ≡ length input

-- The cause of a file's fault. Memory may run out at any time.
abbrev pub IsFileFault : List ℕ → FileFault → Type 0
IsFileFault input fault.Memory = ⊤
IsFileFault input (fault.Refused count why at) = IsRefusedAfter input count why at
IsFileFault input (fault.NoModule at) = HasMore input at

-- A file has this many modules that have lowerings, and then the rest.
pub record IsRestAfter (input : List ℕ) (count : ℕ) (rest : List ℕ) : Type 0 where
  pub outs : List (List ℕ)
  pub front : IsFront input outs rest
  pub counted : length outs ≡ count

-- The place in the module of a file with this number, from 0, for a place in its lowering, or that there is none.
pub record IsPlaceInFile (input : List ℕ) (number : ℕ) (there : Place) (found : Option Place) : Type 0 where
  pub begun : List ℕ
  pub own : List ℕ
  pub rest : List ℕ
  pub begins : IsRestAfter input number begun
  pub lowered : IsLoweredModule begun own rest
  pub place : IsPlaceIn begun own there found
