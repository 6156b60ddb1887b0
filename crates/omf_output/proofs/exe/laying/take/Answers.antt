use Rattle.std.proofs.Common.{[], length, subst}
use Rattle.std.specs.Prelude.{Some}
use Rattle.std.proofs.lemmas.List.Elements.{All-head}
use Rattle.omf_reloc.specs.Inner.PieceSeen.{piece_seen}
use Rattle.omf_reloc.specs.Inner.Widths.{fixupp_type}
use Rattle.omf_output.specs.Inner.Laying.{CanLay, FixupFits, Source}
use Rattle.omf_output.proofs.exe.laying.take.Goals as goal

pub fix-requires : goal.fix-requires
fix-requires c =
    let pl = c.args.placement.now in
    let n = length c.args.image.now in
    let f = c.in-Fixed in
    let can = subst (λ (s : Source). CanLay pl n s (piece_seen c.args.piece.now)) c.in-Some.is c.requires in
    All-head (FixupFits pl n (Some c.in-Some.source)) (fixupp_type f.width, f.fixup) [] (subst (λ p. CanLay pl n (Some c.in-Some.source) (piece_seen p)) f.is can)
