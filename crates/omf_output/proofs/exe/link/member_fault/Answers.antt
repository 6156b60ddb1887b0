use Rattle.std.proofs.Common.{◌≡◌, sym, subst}
use Rattle.std.specs.Prelude.{Some}
use Rattle.omf_output.specs.declared.exe.fault.ExeFault.TheVariants as fault
use Rattle.omf_output.specs.Exe.Linked.{member_fault}
use Rattle.omf_output.specs.Exe.Members.{Member}
use Rattle.omf_output.proofs.LinkedLaws.{reach-first}
use Rattle.omf_output.proofs.exe.link.member_fault.Goals as goal

pub returns-in-Err : goal.returns-in-Err
returns-in-Err c =
    let i = c.member.inside in
    let m : Member = record { number = i.number; bytes = i.module.now.bytes; places = i.placement.now; movers = i.movers.now } in
    subst (λ (x : Member). Some (fault.Reach i.number c.in-Err.fault) ≡ member_fault x) c.member.view_is (reach-first m c.in-Err.fault (sym c.in-Err.ensures))
