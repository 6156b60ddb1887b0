use Rattle.std.proofs.Common.{◌≡◌, ◌+◌, ◌++◌, ◌≤◌, List, length}
use Rattle.omf_check.specs.Module.{recs_of}
use Rattle.omf_check.specs.Tables.{externals}
use Rattle.omf_records.specs.Values.{Rec}
use Rattle.omf_aliases.specs.Aliases.{defaults}
use Rattle.omf_aliases.specs.Inner.Aliases.{AreAliases}
use Rattle.omf_aliases.proofs.AliasLaws.{defaults_from}
use Rattle.omf_aliases.proofs.defaults.defaults_of.Given as goal

-- the defaults so far, and those from the next external on
abbrev pub invariant-loop-i : goal.invariant-loop-i
invariant-loop-i l = let m = recs_of l.«module».bytes in record {
  start : 1 ≤ l.i;
  end : l.i-end ≡ length (externals m) + 1;
  so_far : (ms : List (List Rec)) → AreAliases l.aliases ms → l.defaults.items ++ defaults_from ms m l.i ≡ defaults ms m;
}
