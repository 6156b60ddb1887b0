use Rattle.std.proofs.Common.{◌≡◌, take}
use Rattle.omf_library.specs.LibraryMembers.{names_kept}
use Rattle.omf_exe.proofs.MemberFolds.{lowered}
use Rattle.omf_exe.proofs.folding.lower_names.Given as goal

-- the names so far are in lower case
abbrev pub invariant-loop-name : goal.invariant-loop-name
invariant-loop-name l = names_kept l.lower.items ≡ lowered (take l.name-index l.names)
