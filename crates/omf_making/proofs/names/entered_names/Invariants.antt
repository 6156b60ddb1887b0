use Rattle.std.proofs.Common.{◌≡◌, ◌++◌}
use Rattle.omf_making.specs.Names.{defined_names, entered, names_seen}
use Rattle.omf_check.specs.Module.{recs_of}
use Rattle.omf_making.proofs.names.entered_names.Given as goal

-- the names so far, and those that are left
abbrev pub invariant-loop-defined : goal.invariant-loop-defined
invariant-loop-defined l = names_seen l.names.items ++ entered (names_seen l.defined-iterator.rest.items) ≡ entered (defined_names (recs_of l.fn.«module».bytes))
