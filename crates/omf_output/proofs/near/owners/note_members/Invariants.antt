use Rattle.std.proofs.Common.{◌≡◌, List, ℕ, ◌++◌, map}
use Rattle.omf_output.specs.Inner.Owners.{HasTaken}
use Rattle.omf_output.proofs.near.owners.note_members.Given as goal

-- what is noted and what is left are all members
abbrev pub invariant-loop-member : goal.invariant-loop-member
invariant-loop-member l = (noted : List (ℕ × ℕ)) × (noted ++ map (λ x. (x.item.item, l.group)) l.member-iterator ≡ map (λ x. (x.item.item, l.group)) l.fn.members) × HasTaken l.fn.table.items l.table.items noted
