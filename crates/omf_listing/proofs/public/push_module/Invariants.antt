use Rattle.std.proofs.Common.{◌≡◌, ◌++◌, false}
use Rattle.omf_check.specs.Module.{records_in}
use Rattle.omf_check.specs.WellFormed.{recs}
use Rattle.omf_placement.specs.Derive.{publics}
use Rattle.omf_placement.proofs.TableLaws.{listed_publics}
use Rattle.omf_listing.proofs.public.push_module.Given as goal

-- the publics so far, and those of the records that are left
abbrev pub invariant-loop-rec : goal.invariant-loop-rec
invariant-loop-rec l = l.all.items ++ listed_publics false l.placement l.rec-iterator ≡ l.fn.all.items ++ publics false (recs (records_in l.«module».bytes), l.placement)
