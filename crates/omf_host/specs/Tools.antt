-- The tools that import symbols, as words of an option (this profile's rule).
use Rattle.std.specs.Prelude.{ℕ, List, Option, Some, None, codes, if◌then◌else◌}
use Rattle.std.specs.Str.{bytes_eq}
use Rattle.omf_host.specs.declared.tool.Tool.{Tool}
use Rattle.omf_host.specs.declared.tool.Tool.TheVariants as tool

-- The word for a tool.
abbrev pub tool_name : Tool → List ℕ
tool_name tool.Ghidra = codes "ghidra"
tool_name tool.Ida = codes "ida"
tool_name tool.Radare = codes "r2"
tool_name tool.Nm = codes "nm"

-- The tool that a word names.
abbrev pub tool_named : List ℕ → Option Tool
tool_named word =
    if bytes_eq word (tool_name tool.Ghidra) then Some tool.Ghidra
    else (if bytes_eq word (tool_name tool.Ida) then Some tool.Ida
    else (if bytes_eq word (tool_name tool.Radare) then Some tool.Radare
    else (if bytes_eq word (tool_name tool.Nm) then Some tool.Nm else None)))
