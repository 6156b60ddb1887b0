use Rattle.std.proofs.Common.{subst, sym}
use Rattle.std.specs.Prelude.{OnOk}
use Rattle.omf_externals.specs.Unresolved.{HasMore, rows_in}
use Rattle.omf_externals.proofs.NameLaws.{asked-seen}
use Rattle.omf_externals.proofs.by_name.ByName.add_record.Goals as goal

pub returns-in-Some : goal.returns-in-Some
returns-in-Some c =
    subst (λ xs. OnOk c.add_items.result (HasMore c.args.self.now.spots c.add_items.new.self.spots (rows_in c.args.number xs)))
    (sym (asked-seen c.args.local c.in-Some.publics c.args.rec.now c.in-Some.ensures.some c.in-Some.ensures.only)) c.add_items.ensures
