use Rattle.std.proofs.Common.{inl}
use Rattle.omf_exe.proofs.program.ProgramModules.of.Goals as goal

pub returns-in-Err-clause-refused : goal.returns-in-Err-clause-refused
returns-in-Err-clause-refused c = λ e. inl (c.in-Err.fault, c.of_input.ensures e, c.in-Err.ensures.fault)
