use Rattle.std.specs.Prelude.{All}
use Rattle.omf_finding.specs.Stray.{IsStray}
use Rattle.omf_finding.proofs.straying.References.strays.Given as goal

-- each so far goes elsewhere
abbrev pub invariant-loop-fix : goal.invariant-loop-fix
invariant-loop-fix l = All IsStray l.strays.items
