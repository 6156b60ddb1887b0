use Rattle.std.proofs.Common.{◌≡◌, rules, subst, sym}
use Rattle.std.specs.Prelude.{Err, IfErr}
use Rattle.omf_exe.specs.Joined.{IsNotJoined}
use Rattle.omf_exe.specs.Refusing.{IsRefusalFor}
use Rattle.omf_exe.proofs.MakingLaws.{joined-of-files, not_joined}
use Rattle.omf_exe.proofs.program_files.ProgramFiles.join.Goals as goal

pub returns-in_err-linked-clause-refused : goal.returns-in_err-linked-clause-refused
returns-in_err-linked-clause-refused c =
    let options = c.args.options.now in
    let f = c.in_err-linked.field-0.0 in
    let same : c.from_residual.result ≡ Err f = search rules in
    let own = c.self.inside in
    subst (λ r. IfErr r (IsRefusalFor (IsNotJoined options c.args.self))) (sym same)
    (λ e. not_joined options c.args.self own.files.items own.ignores_case own.modules c.self.view_is c.self.invariant.0 (c.in_err-linked.ensures.refused e))

pub returns-in-Ok-clause-joined : goal.returns-in-Ok-clause-joined
returns-in-Ok-clause-joined c =
    let own = c.self.inside in
    joined-of-files c.args.options.now c.args.self own.files.items own.ignores_case own.modules c.in_ok-linked.linked c.in-Ok.bytes.items c.self.view_is c.self.invariant.0 c.in_ok-linked.ensures.completed c.in-Ok.ensures
