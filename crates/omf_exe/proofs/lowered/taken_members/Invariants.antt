use Rattle.std.proofs.Common.{◌≡◌, List, ◌++◌, length}
use Rattle.std.specs.List.{AllZip}
use Rattle.std.specs.Vec.Iter.{into_iter_items, into_iter_len}
use Rattle.omf_library.specs.declared.judged.LibraryMember.{LibraryMember}
use Rattle.omf_exe.specs.Lowered.{IsTakenOf}
use Rattle.omf_exe.proofs.lowered.taken_members.Given as goal

-- the members so far were taken, and the others are left
abbrev pub invariant-loop-member : goal.invariant-loop-member
invariant-loop-member l = record {
  size : into_iter_len l.member-iterator ≡ length (into_iter_items l.member-iterator);
  held : (later : List LibraryMember) → AllZip (IsTakenOf l.fn.bytes) (into_iter_items l.member-iterator) later → AllZip (IsTakenOf l.fn.bytes) l.fn.members.items (l.all.items ++ later);
}
