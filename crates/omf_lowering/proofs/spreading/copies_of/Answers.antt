use Rattle.std.proofs.Common.{◌∙◌, ap}
use Rattle.std.specs.Prelude.{option_map}
use Rattle.omf_frame.specs.Types.{width_bytes}
use Rattle.omf_lowering.specs.Inner.Turns.{offsets_of}
use Rattle.omf_lowering.proofs.FoundLaws.{found_none, found_ok, on_ok}
use Rattle.omf_lowering.proofs.spreading.copies_of.Goals as goal

pub returns-in-Ok : goal.returns-in-Ok
returns-in-Ok c =
    ap (λ x. option_map offsets_of x.copies) c.all.view_is
    ∙ found_ok (width_bytes c.args.blocks.width) c.args.blocks.bytes.now c.requires.fits c.args.location c.in-Ok.all c.in-Ok.ensures

pub returns-in-Err : goal.returns-in-Err
returns-in-Err c =
    on_ok c.unfound.result (λ copies is. found_none (width_bytes c.args.blocks.width) c.args.blocks.bytes.now c.requires.fits c.args.location c.in-Err.stop copies is c.in-Err.ensures) c.unfound.ensures
