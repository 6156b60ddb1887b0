use Rattle.omf_lowering.specs.Inner.Holders.{keyed}
use Rattle.omf_lowering.proofs.HolderLaws.{held_by, held_same, on_err, place_order}
use Rattle.omf_lowering.proofs.PieceLaws.{on_ok}
use Rattle.omf_lowering.proofs.holders.Holders.hold.Goals as goal

pub lay-requires : goal.lay-requires
lay-requires c = place_order c.args.piece.now c.args.piece.now.segment c.first_of.result c.end_of.result c.first_of.ensures.is c.first_of.ensures.low c.end_of.ensures.is

pub returns-clause-ok : goal.returns-clause-ok
returns-clause-ok c = λ before held is.
    on_ok c.lay.result (held_by (keyed c.args.self.now.numbers) (keyed c.lay.new.self.numbers) before c.args.piece.now c.first_of.result c.end_of.result c.args.number c.first_of.ensures.is c.end_of.ensures.is held is)
    c.lay.ensures.ok

pub returns-clause-err : goal.returns-clause-err
returns-clause-err c = λ before held. on_err c.lay.result (held_same (keyed c.args.self.now.numbers) (keyed c.lay.new.self.numbers) before held) c.lay.ensures.err
