use Rattle.std.proofs.Common.{◌≡◌, List, sym, subst, true, rules}
use Rattle.std.specs.Prelude.{is_some}
use Rattle.std.specs.List.{AllZip}
use Rattle.omf_check.specs.Module.{Module}
use Rattle.omf_find.specs.Parts.{AreParts, IsHeldIf}
use Rattle.omf_find.proofs.host.link_of.Goals as goal

pub of-requires : goal.of-requires
of-requires c =
    let p = c.args.loaded.now.program in
    let vs = c.args.findings.now.verdicts.items in
    subst (λ (ms : List Module). AllZip (IsHeldIf p) ms vs) (sym c.modules.ensures) c.requires

pub returns : goal.returns
returns c =
    let p = c.args.loaded.now.program in
    let vs = c.args.findings.now.verdicts.items in
    let parts = c.in_ok-parts.parts in
    let some : is_some c.args.asked.now.link ≡ true = search rules in (
      some,
      record {
        placed = parts.placed.items;
        left = parts.left_out.items;
        are_parts = subst (λ (ms : List Module). AreParts p 0 ms vs parts.placed.items parts.left_out.items) c.modules.ensures c.in_ok-parts.ensures;
        text_is = c.in_ok-text.ensures;
      },
    )
