use Rattle.std.proofs.Common.{◌≡◌, length}
use Rattle.omf_library.specs.Dictionary.{is_same_name}
use Rattle.omf_lib.proofs.names.is_same_name.Given as goal

-- what is left decides
abbrev pub invariant-loop-rest : goal.invariant-loop-rest
invariant-loop-rest l = is_same_name l.is_case_sensitive l.rest l.others ≡ is_same_name l.is_case_sensitive l.one l.other

abbrev pub decreases-loop-rest : goal.decreases-loop-rest
decreases-loop-rest l = length l.rest
