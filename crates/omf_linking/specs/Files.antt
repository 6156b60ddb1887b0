-- The modules of files (this profile's rule).
use Rattle.std.specs.Prelude.{◌≡◌, ◌<◌, ◌+◌, ⊤, ℕ, List, [], ◌∷◌, ◌++◌, length, take, slice_get, false, Some, Result, Ok, Err}
use Rattle.omf_check.specs.Module.{Module}
use Rattle.omf_check.specs.declared.profile.Profile.{Profile}
use Rattle.omf_linking.specs.File.{InputFile}
use Rattle.omf_linking.specs.Reading.{IsFront, IsRefusedBehind, begins_module}
use Rattle.omf_linking.specs.declared.fault.FileFault.{FileFault}
use Rattle.omf_linking.specs.declared.fault.LinkFault.{LinkFault}
use Rattle.omf_linking.specs.declared.fault.LinkFault.TheVariants as fault

-- Something is left after the modules of a file and their padding, from this offset on, and begins no module.
pub record HasMore (profile : Profile) (bytes : List ℕ) (at : ℕ) : Type 0 where
  pub modules : List Module
  pub rest : List ℕ
  pub front : IsFront profile bytes modules rest
  pub some : 0 < length modules
  pub ended : begins_module rest ≡ false
  pub left : 0 < length rest
  pub counted : at + length rest ≡ length bytes

-- A file holds modules, one at least, each with the padding after it, and nothing else; or its first module that is refused, counted from 0 in the file; or the
-- offset of what is left. Memory may run out at any time.
abbrev pub IsFile : Profile → List ℕ → Result (List Module) LinkFault → Type 0
IsFile profile bytes (Ok ms) = IsFront profile bytes ms [] × (0 < length ms)
IsFile profile bytes (Err fault.Memory) = ⊤
IsFile profile bytes (Err (fault.Refused k why at)) = IsRefusedBehind profile bytes k why at
IsFile profile bytes (Err (fault.NoText at)) = HasMore profile bytes at
IsFile profile bytes (Err _) = ⊥

-- The modules of files, in the order of the files.
abbrev pub HaveModules : Profile → List InputFile → List Module → Type 0
HaveModules profile [] ms = ms ≡ []
HaveModules profile (f ∷ fs) ms = (own : List Module) × (others : List Module) × IsFile profile f.bytes (Ok own) × HaveModules profile fs others × (ms ≡ own ++ others)

-- The files before this one hold modules, and it does not: this is its fault.
pub record IsFirstAtFault (profile : Profile) (files : List InputFile) (f : FileFault) : Type 0 where
  pub before : List Module
  pub file : InputFile
  pub have : HaveModules profile (take f.file files) before
  pub found : slice_get files f.file ≡ Some file
  pub fails : IsFile profile file.bytes (Err f.fault)

-- The modules of all files, or the first file at fault.
abbrev pub AreFiles : Profile → List InputFile → Result (List Module) FileFault → Type 0
AreFiles profile files (Ok ms) = HaveModules profile files ms
AreFiles profile files (Err f) = IsFirstAtFault profile files f
