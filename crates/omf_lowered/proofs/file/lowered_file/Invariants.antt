use Rattle.omf_lowered.specs.Inner.FileState.{IsOpenFile}
use Rattle.omf_lowered.proofs.file.lowered_file.Given as goal

abbrev pub invariant-loop-number : goal.invariant-loop-number
invariant-loop-number l = IsOpenFile l.bytes l.left l.out.items l.number
