use Rattle.std.proofs.Common.{◌≡◌, ◌++◌, map}
use Rattle.omf_records.specs.Inner.Seen.{contents_seen}
use Rattle.omf_trimming.specs.Reaching.{Node}
use Rattle.omf_trimming.specs.Inner.Reaching.{member_segments}
use Rattle.omf_trimming.proofs.reaching.program.push_members.Given as goal

-- the segments so far and those to come are all
abbrev pub invariant-loop-member : goal.invariant-loop-member
invariant-loop-member l = l.found.items ++ map (λ x. (let n : Node = (l.«module», x.item.item) in n)) l.member-iterator ≡ l.fn.found.items ++ member_segments l.«module» (contents_seen l.record)
