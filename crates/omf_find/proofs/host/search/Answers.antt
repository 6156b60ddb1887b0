use Rattle.std.proofs.Common.{List, sym, subst, map}
use Rattle.std.specs.Prelude.{string_bytes}
use Rattle.std.specs.List.{AllZip}
use Rattle.omf_check.specs.Module.{Module}
use Rattle.omf_finding.specs.Finding.{IsTold}
use Rattle.omf_find.specs.Output.{IsOutput}
use Rattle.omf_find.proofs.PartLaws.{all_held}
use Rattle.omf_find.proofs.host.search.Goals as goal

pub link_of-requires : goal.link_of-requires
link_of-requires g c =
    let p = c.args.loaded.now.program in
    let ms = c.args.source.gathered.now.modules.items in
    let vs = c.in_ok-findings.findings.verdicts.items in
    all_held p 16 ms vs (subst (λ (xs : List Module). AllZip (IsTold p 16) xs vs) c.modules.ensures c.in_ok-findings.ensures.told)

pub returns : goal.returns
returns g c = (
  c.in_ok-findings.findings,
  c.in_ok-text.ensures.0,
  c.deref.result.now,
  c.in_ok-text.ensures.1,
  subst (IsOutput c.args.asked.now.output c.args.asked.now.load c.args.loaded.now.kind (map string_bytes c.args.source.files.now) c.args.source.gathered.now c.in_ok-findings.findings.verdicts.items c.in_ok-text.ensures.0) (sym c.deref.ensures.value)
      c.in_ok-text.ensures.2,
  c.put-status.ensures,
  c.in_ok-link.ensures,
)
