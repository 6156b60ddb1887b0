use Rattle.std.proofs.Common.{take}
use Rattle.omf_exe.specs.Input.{AllGive}
use Rattle.omf_exe.specs.Origins.{AllFrom}
use Rattle.omf_exe.proofs.input.Input.of.Given as goal

-- what the files so far give
abbrev pub invariant-loop-number : goal.invariant-loop-number
invariant-loop-number l = record {
  given : AllGive (take l.number l.files) l.input.given.items l.input.members.items;
  from : AllFrom 0 (take l.number l.files) l.input.given.items l.input.members.items l.input.given_from.items l.input.members_from.items;
}
