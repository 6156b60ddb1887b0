-- What is done of a file, and a module more.
use Rattle.std.specs.Prelude.{◌≡◌, ◌⊎◌, ◌≤◌, ℕ, List, ◌++◌, length, flat_map, true}
use Rattle.omf_lowered.specs.Files.{IsFront, begins_module, unpadded}
use Rattle.omf_lowered.specs.Modules.{IsLoweredModule}
use Rattle.omf_lowered.specs.declared.fault.FileFault.{FileFault}
use Rattle.omf_lowered.specs.declared.fault.FileFault.TheVariants as file
use Rattle.omf_lowering.specs.declared.fault.LoweringFault.{LoweringFault}
use Rattle.omf_lowering.specs.declared.fault.LoweringFault.TheVariants as lowering

-- The first module of some bytes is lowered and appended; this is left after it and its padding.
pub record IsAppended (bytes old new left : List ℕ) : Type 0 where
  pub own : List ℕ
  pub after : List ℕ
  pub lowered : IsLoweredModule bytes own after
  pub is_left : left ≡ unpadded after
  pub longer : new ≡ old ++ own
  pub shorter : length left ≤ length bytes

-- The file's modules so far, this many, are lowered to these bytes; this is left.
pub record IsPart (input left out : List ℕ) (count : ℕ) : Type 0 where
  pub outs : List (List ℕ)
  pub front : IsFront input outs left
  pub joined : out ≡ flat_map (λ o. o) outs
  pub counted : length outs ≡ count
  pub within : length left ≤ length input

-- Another module is expected.
pub record IsOpenFile (input left out : List ℕ) (count : ℕ) : Type 0 where
  pub part : IsPart input left out count
  pub begun : (count ≡ 0) ⊎ (begins_module left ≡ true)

-- A module's fault, with its number in the file.
abbrev pub in_module : LoweringFault → ℕ → FileFault
in_module lowering.Memory number = file.Memory
in_module (lowering.Refused why place) number = file.Refused number why place
