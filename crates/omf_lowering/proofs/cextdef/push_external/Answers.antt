use Rattle.std.proofs.Common.{◌≡◌, ◌++◌, ◌∷◌, [], Some, ap, ◌∙◌, rules}
use Rattle.omf_check.specs.Tables.{entry}
use Rattle.omf_lowering.specs.Externals.{OwnExternal, with_name}
use Rattle.omf_lowering.specs.Values.{is_local_name}
use Rattle.omf_lowering.proofs.cextdef.push_external.Goals as goal

pub returns-clause-ok : goal.returns-clause-ok
returns-clause-ok c =
    let x = c.args.external.now in
    let t = c.args.tables.now in
    let text = c.in-Some.text in
    let found : entry t.names x.item.name.item ≡ Some text = search rules in
    let local : c.is_local_name-is_local.result ≡ is_local_name t.locals x.item.name.item = search rules in
    let e : OwnExternal = record { is_local = is_local_name t.locals x.item.name.item; item = record { name = text; type_index = x.item.type_index } } in (
      e,
      ap (with_name x (is_local_name t.locals x.item.name.item)) found,
      c.in_ok-push.ensures.items ∙ ap (λ r. c.args.records.now.items ++ r ∷ []) (search rules),
    )
