use Rattle.std.proofs.Common.{◌++◌, List, drop}
use Rattle.omf_check.specs.Module.{typed_modules}
use Rattle.omf_trimming.specs.Inner.Reaching.{AreOf}
use Rattle.omf_trimming.specs.declared.reaching.program.ProgramModule.{ProgramModule}
use Rattle.omf_trimming.proofs.reaching.program.Program.of.Given as goal

-- the modules so far, and those to come
abbrev pub invariant-loop-number : goal.invariant-loop-number
invariant-loop-number l = (later : List ProgramModule) → AreOf l.number (typed_modules (drop l.number l.modules)) later → AreOf 0 (typed_modules l.modules) (l.own.items ++ later)
