use Rattle.std.proofs.Common.{◌≡◌}
use Rattle.omf_placement.specs.Derive.{publics_at}
use Rattle.omf_placement.specs.Inner.PublicTable.{found_over}
use Rattle.omf_placement.proofs.several.search.after_items.Given as goal

-- what is found so far, and the remaining publics
abbrev pub invariant-loop-public : goal.invariant-loop-public
invariant-loop-public l = found_over l.name l.found (publics_at l.base l.public-iterator) ≡ found_over l.name l.fn.before (publics_at l.base l.fn.items)
