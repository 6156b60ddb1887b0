use Rattle.std.proofs.Common.{◌≡◌, List}
use Rattle.omf_records.specs.Values.{Rec}
use Rattle.omf_aliases.specs.Circles.{back_among, circle_of}
use Rattle.omf_aliases.specs.Inner.Aliases.{AreAliases}
use Rattle.omf_aliases.proofs.CircleLaws.{with_names}
use Rattle.omf_aliases.proofs.circles.circle_of.Given as goal

-- the circle is the names so far, and those from the last one on
abbrev pub invariant-loop-left : goal.invariant-loop-left
invariant-loop-left l = (ms : List (List Rec)) → AreAliases l.aliases ms → with_names l.names.items (back_among ms l.fn.first l.left l.last) ≡ circle_of ms l.fn.first

abbrev pub decreases-loop-left : goal.decreases-loop-left
decreases-loop-left l = l.left
