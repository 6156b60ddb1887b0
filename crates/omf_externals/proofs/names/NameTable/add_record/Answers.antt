use Rattle.std.proofs.Common.{subst, sym}
use Rattle.std.specs.Prelude.{OnOk}
use Rattle.omf_externals.specs.Names.{HasMore}
use Rattle.omf_externals.proofs.NameLaws.{asked-seen}
use Rattle.omf_externals.proofs.names.NameTable.add_record.Goals as goal

pub returns-in-Some : goal.returns-in-Some
returns-in-Some c =
    subst (λ xs. OnOk c.add_items.result (HasMore c.args.self.now c.add_items.new.self xs))
    (sym (asked-seen c.args.local c.in-Some.publics c.args.rec.now c.in-Some.ensures.some c.in-Some.ensures.only)) c.add_items.ensures
