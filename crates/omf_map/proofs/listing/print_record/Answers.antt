use Rattle.std.proofs.Common.{◌≡◌, ◌++◌, ◌∙◌, ap, false, sym, subst}
use Rattle.std.specs.Prelude.{OnOk, flat_map, string_bytes}
use Rattle.omf_map.specs.Inner.PublicAddresses.{based}
use Rattle.omf_map.specs.Addresses.{publics_asked}
use Rattle.omf_map.specs.MapText.{public_line}
use Rattle.omf_map.proofs.listing.print_record.Goals as goal

pub returns-in-Some : goal.returns-in-Some
returns-in-Some c =
    subst (λ xs. OnOk c.print_items.result (string_bytes c.print_items.new.text ≡ string_bytes c.args.text.now ++ flat_map (public_line c.args.number) xs))
    (sym (ap based c.in-Some.is) ∙ c.publics_in.ensures ∙ ap (λ segments. publics_asked false segments c.args.rec.now.kind c.args.rec.now.contents) c.segments.ensures) c.print_items.ensures
