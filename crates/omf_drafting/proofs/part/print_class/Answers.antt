use Rattle.std.proofs.Common.{◌≡◌, ◌++◌, subst}
use Rattle.std.specs.Prelude.{OnOk, string_bytes, unwrap_or, option_map, codes}
use Rattle.omf_placement.specs.Quoted.{quoted}
use Rattle.omf_drafting.proofs.part.print_class.Goals as goal

pub returns : goal.returns
returns c = subst (λ o. OnOk c.print_name.result (string_bytes c.print_name.new.text ≡ string_bytes c.args.text.now ++ unwrap_or (option_map quoted o) (codes "-"))) c.name.ensures c.print_name.ensures
