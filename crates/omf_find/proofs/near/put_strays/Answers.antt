use Rattle.std.proofs.lemmas.List.{get_or_default}
use Rattle.std.specs.Prelude.{option_map}
use Rattle.omf_find.specs.NearLines.{IsReferenceLine}
use Rattle.omf_find.proofs.TextLaws.{texts-all, texts-more, texts-none}
use Rattle.omf_find.proofs.near.put_strays.Goals as goal

pub loop-stray-init : goal.loop-stray-init
loop-stray-init c = texts-none (IsReferenceLine c.args.format (option_map (λ m. m.now) c.args.«module») c.args.near.now) c.args.strays.now c.args.text.now.items

pub loop-stray-preserved : goal.loop-stray-preserved
loop-stray-preserved c =
    let i = c.loop-stray.stray-index in
    let low = c.loop-stray-test.true in
    let h = c.in_ok-put_stray.ensures in
    texts-more (IsReferenceLine c.args.format (option_map (λ m. m.now) c.args.«module») c.args.near.now) c.args.strays.now c.args.text.now.items c.loop-stray.text.items c.put_stray.new.text.items h.0 i _ (get_or_default c.args.strays.now i _ _ low) low c.loop-stray.invariant h.1 h.2

pub returns : goal.returns
returns c = texts-all (IsReferenceLine c.args.format (option_map (λ m. m.now) c.args.«module») c.args.near.now) c.args.strays.now c.args.text.now.items c.loop-stray.text.items c.loop-stray.stray-index c.loop-stray-test.false c.loop-stray.invariant
