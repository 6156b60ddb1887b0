use Rattle.std.proofs.Common.{◌≡◌, ◌++◌, drop}
use Rattle.std.specs.Prelude.{option_to_list}
use Rattle.omf_output.specs.Exe.Linked.{one_start, starts}
use Rattle.omf_output.proofs.exe.starting.start_of.Given as goal

-- the start found so far, with those of the modules to come, gives the result of all
abbrev pub invariant-loop-member : goal.invariant-loop-member
invariant-loop-member l = one_start (option_to_list l.found ++ starts (drop l.member-index l.members)) ≡ one_start (starts l.members)
