use Rattle.std.proofs.Common.{◌≡◌, Some, ap, ◌∙◌}
use Rattle.omf_names.proofs.NameTables.{is_updated, was_at}
use Rattle.omf_map.specs.Inner.PublicAddresses.{address_after}
use Rattle.omf_map.specs.Addresses.{NamedAddress}
use Rattle.omf_map.proofs.PublicLaws.{found_at, table-more}
use Rattle.omf_map.proofs.publics.PublicAddresses.add.Goals as goal

pub returns : goal.returns
returns c =
    let p : NamedAddress = (c.args.name.now, c.args.address) in
    let m = c.args.self.now.by_name in
    let e : c.address_after-found.result ≡ address_after p.1 (found_at m p.0) =
    c.address_after-found.ensures ∙ ap (address_after p.1) (was_at c.args.name c.of.result c.of.ensures m c.copied.result (c.copied.ensures ∙ c.get.ensures.value)) in
    table-more m c.insert.new.self p c.address_after-found.result e
    (is_updated c.args.name c.of-2.result c.of-2.ensures m c.insert.new.self (Some c.address_after-found.result) c.in_ok-insert.ensures.updates)
