use Rattle.std.proofs.Common.{◌∙◌, ap, not, sym}
use Rattle.omf_aliases.proofs.AliasLaws.{looked-none, looked-some, own-again, own-new}
use Rattle.omf_aliases.proofs.own.OwnDefaults.add.Goals as goal

pub returns-in_ok-insert : goal.returns-in_ok-insert
returns-in_ok-insert c =
    own-new c.args.pair.now c.args.self.now.by_external c.insert.new.self
    (sym c.get.ensures.value ∙ looked-none c.get.result (c.is_none.ensures ∙ ap not c.if-is_none.true)) c.in_ok-insert.ensures.updates

pub returns-else-is_none : goal.returns-else-is_none
returns-else-is_none c =
    let s = looked-some c.get.result (c.is_none.ensures ∙ ap not c.if-is_none.false) in
    own-again c.args.pair.now c.args.self.now.by_external s.0 (sym c.get.ensures.value ∙ s.1)
