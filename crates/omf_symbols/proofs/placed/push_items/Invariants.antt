use Rattle.std.proofs.Common.{◌≡◌, ◌++◌}
use Rattle.omf_symbols.specs.Placed.{symbols_at}
use Rattle.omf_symbols.proofs.placed.push_items.Given as goal

-- the symbols so far, and those of the publics that are left
abbrev pub invariant-loop-public : goal.invariant-loop-public
invariant-loop-public l = l.symbols.items ++ symbols_at l.is_code l.load l.address l.public-iterator ≡ l.fn.symbols.items ++ symbols_at l.is_code l.load l.address l.fn.publics
