use Rattle.std.proofs.Common.{◌≡◌, true, false, rules}
use Rattle.omf_names.proofs.NameTables.{is_updated}
use Rattle.omf_library.specs.Inner.Asked.{is_known}
use Rattle.omf_library.proofs.DefaultLaws.{asked-known, asked-new, seen-push}
use Rattle.omf_library.proofs.needed.defaults.Asked.add.Goals as goal

pub returns-then-is_some : goal.returns-then-is_some
returns-then-is_some c =
    let known : is_known c.args.self.now c.args.name.now ≡ true = search rules in
    λ done h. asked-known c.args.self.now done c.args.name.now known h

pub returns : goal.returns
returns c =
    let absent : is_known c.args.self.now c.args.name.now ≡ false = search rules in
    λ done h.
    asked-new c.args.self.now (record { known = c.insert.new.self; names = c.push.new.self }) done c.args.name.now _ absent
    (seen-push c.args.self.now.names.items c.push.new.self.items c.args.name c.in_ok-push.ensures.items)
    (is_updated c.args.name c.of-2.result c.of-2.ensures c.args.self.now.known c.insert.new.self _ c.in_ok-insert.ensures.updates) h
