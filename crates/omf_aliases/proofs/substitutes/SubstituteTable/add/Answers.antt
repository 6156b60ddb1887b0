use Rattle.std.proofs.Common.{◌∙◌, sym}
use Rattle.std.specs.Prelude.{Some}
use Rattle.omf_names.proofs.NameTables.{is_there, is_updated}
use Rattle.omf_library.specs.Aliases.{AliasPair}
use Rattle.omf_aliases.proofs.AliasLaws.{has-known, has-new}
use Rattle.omf_aliases.specs.declared.substitutes.SubstituteTable.{SubstituteTable}
use Rattle.omf_aliases.proofs.substitutes.SubstituteTable.add.Goals as goal

pub returns-in_ok-insert : goal.returns-in_ok-insert
returns-in_ok-insert c =
    let t : SubstituteTable = c.args.self.now in
    let u : SubstituteTable = record { by_alias = c.insert.new.self } in
    let p : AliasPair = record { alias = c.args.alias.now; substitute = c.args.substitute } in
    has-new t u p (sym (is_there c.args.alias c.of.result c.of.ensures t.by_alias c.contains_key.result c.contains_key.ensures) ∙ c.if-not-contains_key.true)
    (is_updated c.args.alias c.of-then-not-contains_key.result c.of-then-not-contains_key.ensures t.by_alias u.by_alias (Some c.args.substitute) c.in_ok-insert.ensures.updates)

pub returns-else-not-contains_key : goal.returns-else-not-contains_key
returns-else-not-contains_key c =
    let t : SubstituteTable = c.args.self.now in
    let p : AliasPair = record { alias = c.args.alias.now; substitute = c.args.substitute } in
    has-known t p (sym (is_there c.args.alias c.of.result c.of.ensures t.by_alias c.contains_key.result c.contains_key.ensures) ∙ c.if-not-contains_key.false)
