use Rattle.omf_cmd.specs.declared.fault.RunFault.TheVariants.{Write}
use Rattle.omf_cmd.proofs.Written.{begun, but_last, ended, last_word, stopped, went_on}
use Rattle.omf_cmd.proofs.line.write_line.Goals as goal

pub returns-in_err-write_words : goal.returns-in_err-write_words
returns-in_err-write_words g c =
    let parts = but_last (λ word. word.now) c.args.words.now c.in-len1-up.len_at_least in
    stopped Write (g.K.Sink.seen c.args.writer.now) _ (g.K.Sink.seen c.write_words.new.writer) _ _ _ parts.0 (begun _ _) parts.1 c.in_err-write_words.field-0.0 c.from_residual.result c.from_residual.ensures.0 c.from_residual.ensures.1 c.in_err-write_words.ensures

pub returns : goal.returns
returns g c =
    let parts = last_word (λ word. word.now) c.args.words.now _ c.in-len1-up.len_at_least in
    let first = went_on Write _ _ (g.K.Sink.seen c.write_words.new.writer) _ _ _ _ (begun (g.K.Sink.seen c.args.writer.now) _) parts c.in_ok-write_words.ensures in
    ended Write _ _ (g.K.Sink.seen c.write_word.new.writer) _ _ c.write_word.result first c.write_word.ensures
