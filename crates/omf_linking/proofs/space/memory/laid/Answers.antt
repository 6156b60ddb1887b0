use Rattle.std.proofs.Common.{sym, subst, []}
use Rattle.std.specs.Prelude.{All}
use Rattle.omf_image.specs.Overlay.{AreLaidOver}
use Rattle.omf_image.specs.Painting.{all_zeros, Fits}
use Rattle.omf_reloc.proofs.WalkedLaws.{laid-on}
use Rattle.omf_linking.specs.Inner.Laying.{extents_in, laid_pieces}
use Rattle.omf_linking.proofs.SpaceLaws.MemoryLaws.{extents_fit, zeros_lost}
use Rattle.omf_linking.proofs.space.memory.laid.Goals as goal

pub painted-requires : goal.painted-requires
painted-requires c = subst (All Fits) (sym c.in_ok-extents_of.ensures) (extents_fit c.args.stretches.now c.requires)

pub returns : goal.returns
returns c =
    let ss = c.args.stretches.now in
    let zeros = subst (λ es. AreLaidOver [] (all_zeros es) c.in_ok-image.image) c.in_ok-extents_of.ensures c.in_ok-image.ensures in
    zeros_lost ss c.lay_all.new.image (laid-on [] c.in_ok-image.image c.lay_all.new.image (all_zeros (extents_in ss)) (laid_pieces ss) zeros c.in_ok-lay_all.ensures)
