use Rattle.std.proofs.Common.{◌≡◌, ◌∙◌, ap₂, rules, sym, false}
use Rattle.std.specs.Prelude.{Some, unwrap_or}
use Rattle.omf_check.specs.Module.{records_in}
use Rattle.omf_check.specs.Tables.{entry, externals, locals}
use Rattle.omf_check.specs.WellFormed.{recs}
use Rattle.omf_placement.proofs.NamedLaws.{named-entry}
use Rattle.omf_externals.proofs.by_name.external_at.Goals as goal

pub returns-clause-named : goal.returns-clause-named
returns-clause-named c =
    let m = recs (records_in c.args.«module».now.bytes) in
    let i = c.args.spot.external in
    let local = unwrap_or (entry (locals m) i) false in
    let same_local : c.unwrap_or-local.result ≡ local = search rules in
    let told : entry (externals m) i ≡ Some c.in-Some.name = search rules in
    named-entry m i c.in-Some.name c.requires.low told ∙ ap₂ (λ n l. Some (n, l)) (sym c.name.view_is) (sym same_local)
