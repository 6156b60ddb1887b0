use Rattle.std.proofs.Common.{ap, ◌∙◌, ◌<◌, subst, sym, List, ℕ}
use Rattle.std.specs.Prelude.{◌^◌}
use Rattle.omf_output.specs.Exe.Exe.{Program}
use Rattle.omf_output.specs.Exe.Loading.{loaded}
use Rattle.omf_output.proofs.FileLaws.{files}
use Rattle.omf_output.proofs.Written.{writable}
use Rattle.omf_output.proofs.exe.file.write_exe.Goals as goal

pub written-requires : goal.written-requires
written-requires c =
    writable c.args.program.now (subst (λ (p : Program). (p.code.0 < 2 ^ 16) × (p.code.1 < 2 ^ 16)) c.program.view_is c.in_registers.ensures)
    (subst (λ (p : Program). (p.stack.0 < 2 ^ 16) × (p.stack.1 < 2 ^ 16)) c.program.view_is c.in_registers-2.ensures) (sym c.file_fault.ensures ∙ c.in-None.is)

pub returns-in_ok-written-in-None-clause-loaded : goal.returns-in_ok-written-in-None-clause-loaded
returns-in_ok-written-in-None-clause-loaded c = λ k.
    ap (λ (l : List ℕ). loaded l k) c.in_ok-written-in-None.ensures
    ∙ files c.args.most c.args.program.now k (writable c.args.program.now (subst (λ (p : Program). (p.code.0 < 2 ^ 16) × (p.code.1 < 2 ^ 16)) c.program.view_is c.in_registers.ensures)
    (subst (λ (p : Program). (p.stack.0 < 2 ^ 16) × (p.stack.1 < 2 ^ 16)) c.program.view_is c.in_registers-2.ensures) (sym c.file_fault.ensures ∙ c.in-None.is))

pub returns-in_ok-written-in-None-clause-writable : goal.returns-in_ok-written-in-None-clause-writable
returns-in_ok-written-in-None-clause-writable c =
    writable c.args.program.now (subst (λ (p : Program). (p.code.0 < 2 ^ 16) × (p.code.1 < 2 ^ 16)) c.program.view_is c.in_registers.ensures)
    (subst (λ (p : Program). (p.stack.0 < 2 ^ 16) × (p.stack.1 < 2 ^ 16)) c.program.view_is c.in_registers-2.ensures) (sym c.file_fault.ensures ∙ c.in-None.is)
