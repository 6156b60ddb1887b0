use Rattle.omf_lowered.specs.Files.{IsRestAfter}
use Rattle.omf_lowered.proofs.file.rest_after.Given as goal

-- this many modules are passed
abbrev pub invariant-loop-number : goal.invariant-loop-number
invariant-loop-number l = IsRestAfter l.bytes l._number l.left
