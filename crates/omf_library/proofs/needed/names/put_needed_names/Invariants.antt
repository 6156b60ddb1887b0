use Rattle.std.proofs.Common.{◌≡◌, ◌+◌, ◌++◌, ◌≤◌, length}
use Rattle.omf_check.specs.Module.{recs_of}
use Rattle.omf_check.specs.Tables.{externals}
use Rattle.omf_library.specs.Needed.{needed_names, weak_indices}
use Rattle.omf_library.specs.Inner.Names.{names_seen}
use Rattle.omf_library.proofs.WeakLaws.{names_from}
use Rattle.omf_library.proofs.needed.names.put_needed_names.Given as goal

-- the names so far, and those from the next external on
abbrev pub invariant-loop-i : goal.invariant-loop-i
invariant-loop-i l = let m = recs_of l.«module».bytes in record {
  start : 1 ≤ l.i;
  end : l.i-end ≡ length (externals m) + 1;
  so_far : names_seen l.names.items ++ names_from (weak_indices m) m l.i ≡ needed_names m;
}
