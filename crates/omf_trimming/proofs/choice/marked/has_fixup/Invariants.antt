use Rattle.std.proofs.Common.{◌≡◌}
use Rattle.std.specs.List.{list_any}
use Rattle.omf_lowering.specs.Unrolled.{is_fixup}
use Rattle.omf_trimming.proofs.choice.marked.has_fixup.Given as goal

-- none of the subrecords before is one
abbrev pub invariant-loop-next : goal.invariant-loop-next
invariant-loop-next l = list_any (λ s. is_fixup s.item) l.next-iterator ≡ list_any (λ s. is_fixup s.item) l.fn.subrecords
