-- What is written of findings (this profile's rule): a map, or the symbols of a tool.
use Rattle.std.specs.Prelude.{ℕ, List, Option, None, unwrap_or}
use Rattle.omf_finding.specs.declared.findings.Verdict.{Verdict}
use Rattle.omf_find.specs.Map.{IsMap}
use Rattle.omf_symbols.specs.Tools.{usual_load}
use Rattle.omf_find.specs.Symbols.{AreSymbols}
use Rattle.omf_find.specs.declared.asked.Output.{Output}
use Rattle.omf_find.specs.declared.asked.Output.TheVariants as output
use Rattle.omf_find.specs.declared.fields.Format.TheVariants as format
use Rattle.omf_symbols.specs.declared.tool.Kind.{Kind}
use Rattle.omf_find.specs.declared.near.Nearly.{Nearly}
use Rattle.omf_find.specs.declared.reading.Gathered.{Gathered}

abbrev pub IsOutput : Output → Option ℕ → Kind → List (List ℕ) → Gathered → List Verdict → List Nearly → List ℕ → Type 0
IsOutput output.Text load kind files g vs ys text = IsMap format.Text files g vs ys text
IsOutput output.Json load kind files g vs ys text = IsMap format.Json files g vs ys text
IsOutput (output.Symbols tool) load kind files g vs ys text = AreSymbols tool (unwrap_or load (usual_load tool kind)) g vs text

-- A map shows segments that are near if these are asked for; symbols do not.
abbrev pub near_of : Output → Option ℕ → Option ℕ
near_of (output.Symbols tool) near = None
near_of _ near = near
