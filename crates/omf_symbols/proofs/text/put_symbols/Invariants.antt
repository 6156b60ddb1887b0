use Rattle.std.proofs.Common.{◌≡◌, ◌++◌, take}
use Rattle.std.specs.Prelude.{flat_map}
use Rattle.omf_symbols.specs.Text.{symbol_line}
use Rattle.omf_symbols.proofs.text.put_symbols.Given as goal

-- the lines so far
abbrev pub invariant-loop-symbol : goal.invariant-loop-symbol
invariant-loop-symbol l = l.text.items ≡ l.fn.text.items ++ flat_map (symbol_line l.tool) (take l.symbol-index l.symbols)
