-- Adding the modules of a file to those before it (the steps of the code).
use Rattle.std.specs.Prelude.{◌≡◌, ◌<◌, ◌^◌, ℕ, List, ◌++◌, length, Result, Ok, Err}
use Rattle.omf_check.specs.Module.{Module}
use Rattle.omf_check.specs.declared.profile.Profile.{Profile}
use Rattle.omf_linking.specs.Files.{IsFile}
use Rattle.omf_linking.specs.declared.fault.LinkFault.{LinkFault}

-- The modules of a file were added; or it is at fault, or memory ran out.
abbrev pub IsGathered : Profile → List ℕ → List Module → List Module → Result (Unit {0}) LinkFault → Type 0
IsGathered profile bytes old new (Ok done) = (own : List Module) × IsFile profile bytes (Ok own) × (new ≡ old ++ own) × (length new < 2 ^ 32)
IsGathered profile bytes old new (Err f) = IsFile profile bytes (Err f)
