use Rattle.std.proofs.Common.{ap, map, refl}
use Rattle.std.specs.Prelude.{flat_map, string_bytes}
use Rattle.std.specs.List.{enumerate_from}
use Rattle.omf_check.specs.Module.{records_in}
use Rattle.omf_check.specs.WellFormed.{recs}
use Rattle.omf_externals.specs.Unresolved.{module_text}
use Rattle.omf_externals.proofs.NameLaws.{next-one, none-left}
use Rattle.omf_placement.proofs.StepLaws.{no_part_left, part_more}
use Rattle.omf_externals.proofs.unresolved.put_all.Goals as goal

pub loop-j-init : goal.loop-j-init
loop-j-init c = λ publics asks h a. refl

pub loop-j-preserved : goal.loop-j-preserved
loop-j-preserved c = λ publics asks h a.
    let ms = c.args.modules.now in
    let j = c.loop-j.j in
    let m = recs (records_in c.index-modules-j.result.bytes) in
    let f = module_text (map string_bytes c.args.labels.now) c.args.settled.now publics asks in
    part_more _ _ (f (j, m)) _ _ _ (c.in_ok-put_module.ensures publics asks _ _ h a c.in_ok-publics.ensures c.in_ok-asks.ensures)
    (ap (λ xs. flat_map f (enumerate_from j xs)) (next-one ms j c.index-modules-j.result c.index-modules-j.is c.loop-j-test.true)) (c.loop-j.invariant publics asks h a)

pub returns : goal.returns
returns c = λ publics asks h a.
    let ms = c.args.modules.now in
    let j = c.loop-j.j in
    let f = module_text (map string_bytes c.args.labels.now) c.args.settled.now publics asks in
    no_part_left _ _ _ (ap (λ xs. flat_map f (enumerate_from j xs)) (none-left ms j c.loop-j-test.false)) (c.loop-j.invariant publics asks h a)
