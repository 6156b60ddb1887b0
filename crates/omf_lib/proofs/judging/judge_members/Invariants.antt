use Rattle.std.proofs.Common.{drop}
use Rattle.omf_library.specs.Dictionary.{is_case_sensitive}
use Rattle.omf_lib.proofs.DefiningLaws.{AreSoFar}
use Rattle.omf_lib.proofs.judging.judge_members.Given as goal

-- the keys of the members so far, and the members that are left
abbrev pub invariant-loop-number : goal.invariant-loop-number
invariant-loop-number g l = AreSoFar l.profile l.library.header.page l.members (drop l.number l.members) (is_case_sensitive l.library.header) l.keys
