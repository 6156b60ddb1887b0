use Rattle.std.proofs.Common.{rules}
use Rattle.omf_lowering.proofs.PieceLaws.{piece_iterated}
use Rattle.omf_lowering.proofs.pieces.piece_of.Goals as goal

pub returns-in-Iterated-clause-some : goal.returns-in-Iterated-clause-some
returns-in-Iterated-clause-some c =
    piece_iterated c.args.number c.args.len c.args.rec.now c.in-Iterated.segment c.in-Iterated.offset c.in-Iterated.blocks _ _ _ _ c.in-Iterated.is (search rules) (search rules) c.blocks_size.ensures (search rules)
