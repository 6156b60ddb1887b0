use Rattle.std.proofs.Common.{◌+◌, ◌++◌, ap, drop, get_or, refl}
use Rattle.std.specs.Prelude.{flat_map, map, string_bytes}
use Rattle.std.proofs.lemmas.List.{get_or_default}
use Rattle.omf_find.specs.LinkText.{left_out_line}
use Rattle.omf_placement.proofs.StepLaws.{next_item, no_part_left, none_left, part_more}
use Rattle.omf_find.proofs.linktext.put_all_left_out.Goals as goal

pub loop-module-init : goal.loop-module-init
loop-module-init c = refl

pub loop-module-preserved : goal.loop-module-preserved
loop-module-preserved c =
    let line = left_out_line (map string_bytes c.args.source.files.now) c.args.source.gathered.now in
    let ms = c.args.modules.now in
    let i = c.loop-module.module-index in
    let low = c.loop-module-test.true in
    let m = get_or ms i 0 in
    part_more _ _ (line m) (flat_map line (drop (i + 1) ms)) (flat_map line (drop i ms)) (c.args.text.now.items ++ flat_map line ms) c.in_ok-put_left_out.ensures
    (ap (flat_map line) (next_item ms i m (get_or_default ms i 0 m low) low)) c.loop-module.invariant

pub returns : goal.returns
returns c =
    let line = left_out_line (map string_bytes c.args.source.files.now) c.args.source.gathered.now in
    let ms = c.args.modules.now in
    let i = c.loop-module.module-index in
    no_part_left _ (flat_map line (drop i ms)) (c.args.text.now.items ++ flat_map line ms) (ap (flat_map line) (none_left ms i c.loop-module-test.false)) c.loop-module.invariant
