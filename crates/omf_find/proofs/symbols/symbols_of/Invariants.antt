use Rattle.std.proofs.Common.{◌≡◌, map, take}
use Rattle.omf_find.specs.Symbols.{symbol_of}
use Rattle.omf_find.proofs.symbols.symbols_of.Given as goal

-- the symbols so far
abbrev pub invariant-loop-row : goal.invariant-loop-row
invariant-loop-row l = l.symbols.items ≡ map (symbol_of l.load l.source.gathered.now) (take l.row-index l.rows)
