use Rattle.std.proofs.lemmas.List.{get_or_default}
use Rattle.std.specs.Prelude.{option_map}
use Rattle.omf_find.specs.NearLines.{IsByteLine}
use Rattle.omf_find.proofs.TextLaws.{texts-all, texts-more, texts-none}
use Rattle.omf_find.proofs.near.put_differences.Goals as goal

pub loop-difference-init : goal.loop-difference-init
loop-difference-init c = texts-none (IsByteLine c.args.format (option_map (λ m. m.now) c.args.«module») c.args.near.now) c.args.differences.now c.args.text.now.items

pub loop-difference-preserved : goal.loop-difference-preserved
loop-difference-preserved c =
    let i = c.loop-difference.difference-index in
    let low = c.loop-difference-test.true in
    let h = c.in_ok-put_difference.ensures in
    texts-more (IsByteLine c.args.format (option_map (λ m. m.now) c.args.«module») c.args.near.now) c.args.differences.now c.args.text.now.items c.loop-difference.text.items c.put_difference.new.text.items h.0 i _ (get_or_default c.args.differences.now i _ _ low) low c.loop-difference.invariant h.1 h.2

pub returns : goal.returns
returns c = texts-all (IsByteLine c.args.format (option_map (λ m. m.now) c.args.«module») c.args.near.now) c.args.differences.now c.args.text.now.items c.loop-difference.text.items c.loop-difference.difference-index c.loop-difference-test.false c.loop-difference.invariant
