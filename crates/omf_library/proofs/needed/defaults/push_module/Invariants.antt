use Rattle.std.proofs.Common.{◌≡◌, ◌++◌}
use Rattle.std.specs.Prelude.{flat_map}
use Rattle.omf_check.specs.Module.{recs_of}
use Rattle.omf_library.specs.Defaults.{asked_by, asked_in}
use Rattle.omf_library.specs.Inner.Names.{names_seen}
use Rattle.omf_library.proofs.needed.defaults.push_module.Given as goal

-- the names so far and those of the records to come are all
abbrev pub invariant-loop-rec : goal.invariant-loop-rec
invariant-loop-rec l = names_seen l.names.items ++ flat_map (λ x. asked_in x.1.contents) l.rec-iterator ≡ names_seen l.fn.names.items ++ asked_by (recs_of l.«module».bytes)
