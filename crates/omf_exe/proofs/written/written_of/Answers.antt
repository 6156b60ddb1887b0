use Rattle.std.proofs.Common.{◌∙◌, sym}
use Rattle.std.specs.Prelude.{is_some}
use Rattle.omf_exe.specs.Inner.Views.{IsListedAt}
use Rattle.omf_exe.specs.Making.{IsListedMap}
use Rattle.omf_trimming.proofs.TrimmedLaws.{as-many}
use Rattle.omf_trimming.specs.declared.without.LeftPublics.TheVariants.{Gone}
use Rattle.omf_exe.proofs.ViewLaws.{listed-map, map-for}
use Rattle.omf_exe.proofs.written.written_of.Goals as goal

pub with_views-requires-clause-placed : goal.with_views-requires-clause-placed
with_views-requires-clause-placed c =
    c.in_ok-program.ensures.one_each ∙ sym (as-many Gone c.args.options.now.unreached c.args.modules.modules c.in_ok-named.named.modules c.in_ok-named.ensures.trimmed)

pub returns-clause-map : goal.returns-clause-map
returns-clause-map c =
    let o = c.args.options.now in
    let fs = c.args.files.now in
    let named = c.in_ok-named.named in
    let pls = c.in_ok-program.program.placements.items in
    map-for (IsListedAt fs named.from named.modules pls) (IsListedMap o.unreached fs c.args.modules)
    (listed-map o.unreached fs c.args.modules named pls c.in_ok-named.ensures.trimmed c.in_ok-named.ensures.from c.in_ok-program.ensures.placed)
    o.kind (is_some o.map) c.in-Ok.all.bytes.items c.in-Ok.all.map c.in-Ok.ensures.map
