-- The symbols of what is found, as omf_symbols writes them for other tools (this profile's rule).
use Rattle.std.specs.Prelude.{◌≡◌, ℕ, ◌+◌, ◌-◌, ◌^◌, List, map, min, slice_get, Bool, false, Option, Some, None}
use Rattle.omf_check.specs.Module.{Module, recs_of}
use Rattle.omf_finding.specs.declared.findings.Verdict.{Verdict}
use Rattle.omf_symbols.specs.Classes.{is_code}
use Rattle.omf_symbols.specs.Symbol.{Symbol}
use Rattle.omf_symbols.specs.Text.{symbols_text}
use Rattle.omf_host.specs.declared.tool.Tool.{Tool}
use Rattle.omf_find.specs.NameRow.{NameRow}
use Rattle.omf_find.specs.Rows.{AreNames}
use Rattle.omf_find.specs.declared.reading.Gathered.{Gathered}

-- A public is in code if its segment is.
abbrev pub is_code_row : Option Module → ℕ → Bool
is_code_row None segment = false
is_code_row (Some m) segment = is_code (recs_of m.bytes) segment

abbrev pub symbol_of : ℕ → Gathered → NameRow → Symbol
symbol_of load g r = record { is_code = is_code_row (slice_get g.modules.items r.«module») r.segment; address = min (2 ^ 64 - 1) (r.address + load); name = r.name }

-- The symbols of all publics that are found, in ascending order of address.
pub record AreSymbols (t : Tool) (load : ℕ) (g : Gathered) (vs : List Verdict) (text : List ℕ) : Type 0 where
  pub names : List NameRow
  pub are_names : AreNames g.modules.items vs names
  pub text_is : text ≡ symbols_text t (map (symbol_of load g) names)
