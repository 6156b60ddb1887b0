use Rattle.std.proofs.Common.{◌≡◌, map}
use Rattle.omf_lowering.specs.Segments.{first_past}
use Rattle.omf_lowering.proofs.segments.members_fault.Given as goal

-- the first fault is that of the members that are left
abbrev pub invariant-loop-member : goal.invariant-loop-member
invariant-loop-member l = first_past l.count (map (λ m. m.item) l.member-iterator) ≡ first_past l.count (map (λ m. m.item) l.fn.members)
