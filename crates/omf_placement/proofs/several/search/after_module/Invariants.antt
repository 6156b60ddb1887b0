use Rattle.std.proofs.Common.{◌≡◌}
use Rattle.omf_check.specs.Module.{records_in}
use Rattle.omf_check.specs.WellFormed.{recs}
use Rattle.omf_placement.specs.Derive.{publics}
use Rattle.omf_placement.specs.Inner.PublicTable.{found_over}
use Rattle.omf_placement.proofs.TableLaws.{listed_publics}
use Rattle.omf_placement.proofs.several.search.after_module.Given as goal

-- what is found so far, and the remaining records
abbrev pub invariant-loop-rec : goal.invariant-loop-rec
invariant-loop-rec l = found_over l.name l.found (listed_publics l.local l.placement l.rec-iterator) ≡ found_over l.name l.fn.before (publics l.local (recs (records_in l.module.bytes), l.placement))
