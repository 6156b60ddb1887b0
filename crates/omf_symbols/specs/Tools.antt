-- Where the tools that import symbols load a program (this profile's rule).
use Rattle.std.specs.Prelude.{ℕ}
use Rattle.omf_host.specs.declared.tool.Tool.{Tool}
use Rattle.omf_host.specs.declared.tool.Tool.TheVariants as tool
use Rattle.omf_symbols.specs.declared.tool.Kind.{Kind}
use Rattle.omf_symbols.specs.declared.tool.Kind.TheVariants as kind

-- Where a tool loads a program, so what it adds to addresses: Ghidra and IDA load an .EXE at paragraph 1000H, IDA a .COM file too.
abbrev pub usual_load : Tool → Kind → ℕ
usual_load tool.Ghidra kind.Mz = 0x10000
usual_load tool.Ida kind.Mz = 0x10000
usual_load tool.Ida kind.Com = 0x10000
usual_load _ _ = 0
