-- What a map and symbols of modules have at given placements.
use Rattle.std.specs.Prelude.{◌≡◌, ℕ, List, ◌++◌, Option}
use Rattle.omf_check.specs.Module.{Module, typed_modules}
use Rattle.omf_linking.specs.File.{InputFile}
use Rattle.omf_placement.specs.Derive.{placed_modules}
use Rattle.omf_placement.specs.Placement.{Places}
use Rattle.omf_map.specs.Far.{IsProgramMap}
use Rattle.omf_symbols.specs.Placed.{placed_symbols}
use Rattle.omf_symbols.specs.Text.{symbols_text}
use Rattle.omf_host.specs.declared.tool.Tool.{Tool}
use Rattle.omf_exe.specs.Listing.{list_text}
use Rattle.omf_exe.specs.declared.input.Origin.{Origin}

pub record IsListedAt (files : List InputFile) (from : List (Option Origin)) (ms : List Module) (placements : List Places) (map : List ℕ) : Type 0 where
  pub text : List ℕ
  pub listed : map ≡ list_text files from (typed_modules ms) ++ text
  pub printed : IsProgramMap ms placements text

abbrev pub AreSymbolsAt : List Module → List Places → Tool → ℕ → List ℕ → Type 0
AreSymbolsAt ms placements tool load text = text ≡ symbols_text tool (placed_symbols load (placed_modules ms placements))
