-- The symbols that other tools import: lines of Ghidra's ImportSymbolsScript.py, an IDC script for IDA, flags of radare2, lines of `nm`.
use Rattle.std.specs.Prelude.{ℕ, List, [], ◌∷◌, ◌++◌, flat_map, codes, Bool, true, false}
use Rattle.omf_placement.specs.Quoted.{hex}
use Rattle.omf_symbols.specs.Names.{name_text}
use Rattle.omf_symbols.specs.Symbol.{Symbol}
use Rattle.omf_host.specs.declared.tool.Tool.{Tool}
use Rattle.omf_host.specs.declared.tool.Tool.TheVariants as tool

-- Ghidra makes a function of an f and a label of an l; nm has T for code and D for data.
abbrev pub ghidra_end : Bool → List ℕ
ghidra_end true = codes " f\n"
ghidra_end false = codes " l\n"

abbrev pub nm_letter : Bool → List ℕ
nm_letter true = codes " T "
nm_letter false = codes " D "

abbrev pub ghidra_line : Bool → ℕ → List ℕ → List ℕ
ghidra_line is_code address name = name_text tool.Ghidra name ++ (codes " 0x" ++ (hex 8 address ++ ghidra_end is_code))

abbrev pub ida_head : ℕ → List ℕ
ida_head address = codes "  set_name(0x" ++ (hex 8 address ++ codes ", \"")

abbrev pub ida_line : ℕ → List ℕ → List ℕ
ida_line address name = ida_head address ++ (name_text tool.Ida name ++ codes "\", SN_NOCHECK | SN_NOWARN);\n")

abbrev pub radare_line : ℕ → List ℕ → List ℕ
radare_line address name = codes "f sym." ++ (name_text tool.Radare name ++ (codes " 1 0x" ++ (hex 8 address ++ 10 ∷ [])))

abbrev pub nm_line : Bool → ℕ → List ℕ → List ℕ
nm_line is_code address name = hex 8 address ++ (nm_letter is_code ++ (name_text tool.Nm name ++ 10 ∷ []))

abbrev pub symbol_line : Tool → Symbol → List ℕ
symbol_line tool.Ghidra s = ghidra_line s.is_code s.address s.name
symbol_line tool.Ida s = ida_line s.address s.name
symbol_line tool.Radare s = radare_line s.address s.name
symbol_line tool.Nm s = nm_line s.is_code s.address s.name

-- What comes before and after the symbols: those of the script are in its function.
abbrev pub head : Tool → List ℕ
head tool.Ida = codes "#include <idc.idc>\nstatic main() {\n"
head tool.Ghidra = []
head tool.Radare = []
head tool.Nm = []

abbrev pub tail : Tool → List ℕ
tail tool.Ida = codes "}\n"
tail tool.Ghidra = []
tail tool.Radare = []
tail tool.Nm = []

-- The text of symbols: a line for each, in their order.
abbrev pub symbols_text : Tool → List Symbol → List ℕ
symbols_text t symbols = head t ++ (flat_map (symbol_line t) symbols ++ tail t)
