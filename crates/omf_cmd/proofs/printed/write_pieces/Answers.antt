use Rattle.std.proofs.Common.{◌++◌, ◌∷◌, [], ◌-◌, length, subst, take}
use Rattle.omf_cmd.specs.Inner.FaultWords.{word_text}
use Rattle.omf_cmd.specs.declared.fault.RunFault.TheVariants.{Write}
use Rattle.omf_cmd.proofs.Written.{IsUpTo, begun_line, ended, next_word, no_word, stopped, went_on}
use Rattle.omf_cmd.proofs.printed.write_pieces.Goals as goal

pub loop-word-init : goal.loop-word-init
loop-word-init g c = begun_line word_text c.args.words.now _ (g.K.Sink.seen c.args.writer.now) c.in-len1-up.len_at_least

pub returns-in_err-write_piece : goal.returns-in_err-write_piece
returns-in_err-write_piece g c =
    let front = take (length c.args.words.now - 1) c.args.words.now in
    stopped Write _ _ (g.K.Sink.seen c.write_piece.new.writer) _ _ _ _ c.loop-word.invariant (next_word word_text front c.loop-word.word-index _ _ c.loop-word-test.true) c.in_err-write_piece.field-0.0 c.from_residual.result c.from_residual.ensures.0 c.from_residual.ensures.1 c.in_err-write_piece.ensures

pub loop-word-preserved : goal.loop-word-preserved
loop-word-preserved g c =
    let front = take (length c.args.words.now - 1) c.args.words.now in
    went_on Write _ _ (g.K.Sink.seen c.write_piece.new.writer) _ _ _ _ c.loop-word.invariant (next_word word_text front c.loop-word.word-index _ _ c.loop-word-test.true) c.in_ok-write_piece.ensures

pub returns : goal.returns
returns g c =
    let front = take (length c.args.words.now - 1) c.args.words.now in
    let left = subst (IsUpTo _ _ _) (no_word word_text front c.loop-word.word-index _ c.loop-word-test.false) c.loop-word.invariant in
    ended Write _ _ (g.K.Sink.seen c.write_piece-2.new.writer) _ _ c.write_piece-2.result left c.write_piece-2.ensures
