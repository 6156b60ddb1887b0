use Rattle.std.proofs.Common.{List, sym, subst}
use Rattle.std.specs.List.{AllZip}
use Rattle.omf_finding.specs.declared.findings.Verdict.{Verdict}
use Rattle.omf_find.specs.Parts.{AreParts, IsHeldIf}
use Rattle.omf_find.proofs.PartLaws.{only_parts}
use Rattle.omf_find.proofs.parts.Parts.of.Goals as goal

pub take_all-requires : goal.take_all-requires
take_all-requires c =
    let p = c.args.program.now in
    let ms = c.args.modules.now in
    subst (λ (vs : List Verdict). AllZip (IsHeldIf p) ms vs) (sym c.deref-2.ensures.value) c.requires

pub returns : goal.returns
returns c =
    let p = c.args.program.now in
    let ms = c.args.modules.now in
    let vs = c.deref-2.result.now in
    let new = c.take_all.new.self in
    subst (λ (xs : List Verdict). AreParts p 0 ms xs new.placed.items new.left_out.items) c.deref-2.ensures.value
    (only_parts p ms vs (record { placed = c.new.result; left_out = c.new-2.result }) new c.new.ensures.items c.new-2.ensures.items c.in_ok-take_all.ensures)
