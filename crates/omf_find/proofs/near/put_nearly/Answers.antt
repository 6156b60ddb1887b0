use Rattle.std.specs.Prelude.{map, string_bytes}
use Rattle.omf_find.specs.NearLines.{IsNearText}
use Rattle.omf_find.proofs.TextLaws.{texts-all, texts-more, texts-none}
use Rattle.omf_find.proofs.near.put_nearly.Goals as goal

pub loop-one-init : goal.loop-one-init
loop-one-init c = texts-none (IsNearText c.args.format (map string_bytes c.args.source.files.now) c.args.source.gathered.now) c.args.nearly.now c.args.text.now.items

pub loop-one-preserved : goal.loop-one-preserved
loop-one-preserved c =
    let i = c.loop-one.one-index in
    let low = c.loop-one-test.true in
    let h = c.in_ok-put_one.ensures in
    texts-more (IsNearText c.args.format (map string_bytes c.args.source.files.now) c.args.source.gathered.now) c.args.nearly.now c.args.text.now.items c.loop-one.text.items c.put_one.new.text.items h.0 i c.one-item.result c.one-item.is low c.loop-one.invariant h.1 h.2

pub returns : goal.returns
returns c = texts-all (IsNearText c.args.format (map string_bytes c.args.source.files.now) c.args.source.gathered.now) c.args.nearly.now c.args.text.now.items c.loop-one.text.items c.loop-one.one-index c.loop-one-test.false c.loop-one.invariant
