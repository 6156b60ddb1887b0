use Rattle.std.proofs.Common.{◌≡◌, ◌++◌}
use Rattle.std.specs.Prelude.{flat_map}
use Rattle.omf_check.specs.Module.{recs_of}
use Rattle.omf_library.specs.Needed.{public_names, public_names_of}
use Rattle.omf_library.specs.Inner.Names.{names_seen}
use Rattle.omf_library.proofs.needed.names.put_public_names.Given as goal

-- the names so far and those of the records to come are all
abbrev pub invariant-loop-rec : goal.invariant-loop-rec
invariant-loop-rec l = names_seen l.names.items ++ flat_map (λ x. public_names_of x.1.kind x.1.contents) l.rec-iterator ≡ public_names (recs_of l.«module».bytes)
