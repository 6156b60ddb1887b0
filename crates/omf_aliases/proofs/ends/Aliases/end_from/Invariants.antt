use Rattle.std.proofs.Common.{◌≡◌, List}
use Rattle.omf_records.specs.Values.{Rec}
use Rattle.omf_aliases.specs.Aliases.{end_among, most}
use Rattle.omf_aliases.specs.Inner.Aliases.{AreAliases}
use Rattle.omf_aliases.proofs.ends.Aliases.end_from.Given as goal

-- the end is that of the name so far
abbrev pub invariant-loop-left : goal.invariant-loop-left
invariant-loop-left l = (ms : List (List Rec)) → AreAliases l.self ms → end_among ms l.left l.end ≡ end_among ms most l.fn.first

abbrev pub decreases-loop-left : goal.decreases-loop-left
decreases-loop-left l = l.left
