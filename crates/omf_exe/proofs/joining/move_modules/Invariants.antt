use Rattle.std.proofs.Common.{◌≡◌, ◌+◌, length}
use Rattle.std.specs.Vec.Iter.{into_iter_items, into_iter_len}
use Rattle.omf_exe.proofs.JoiningLaws.{AreMovedTo}
use Rattle.omf_exe.proofs.joining.move_modules.Given as goal

-- the members so far were moved, and the others are left
abbrev pub invariant-loop-member : goal.invariant-loop-member
invariant-loop-member l = record {
  size : into_iter_len l.member-iterator ≡ length (into_iter_items l.member-iterator);
  counted : l.at + length (into_iter_items l.member-iterator) ≡ length l.fn.members.items;
  moved : AreMovedTo l.fn.members.items l.at (into_iter_items l.member-iterator) l.fn.all.items l.all.items;
}
