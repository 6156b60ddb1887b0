use Rattle.omf_cmd.specs.Printed.{spaced}
use Rattle.omf_cmd.specs.declared.fault.RunFault.TheVariants.{Write}
use Rattle.omf_cmd.proofs.Written.{next_mapped, stopped, went_on}
use Rattle.omf_cmd.proofs.line.write_words.Goals as goal

pub returns-in_err-write_word : goal.returns-in_err-write_word
returns-in_err-write_word g c =
    stopped Write _ _ (g.K.Sink.seen c.write_word.new.writer) _ _ _ _ c.loop-word.invariant (next_mapped spaced (λ word. word.now) c.args.words.now c.loop-word.word-index _ c.loop-word-test.true) c.in_err-write_word.field-0.0 c.from_residual.result c.from_residual.ensures.0 c.from_residual.ensures.1 c.in_err-write_word.ensures

pub loop-word-preserved : goal.loop-word-preserved
loop-word-preserved g c =
    went_on Write _ _ (g.K.Sink.seen c.write_word.new.writer) _ _ _ _ c.loop-word.invariant (next_mapped spaced (λ word. word.now) c.args.words.now c.loop-word.word-index _ c.loop-word-test.true) c.in_ok-write_word.ensures
