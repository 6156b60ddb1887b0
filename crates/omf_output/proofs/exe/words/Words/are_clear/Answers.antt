use Rattle.std.proofs.Common.{rules}
use Rattle.omf_output.proofs.MarkLaws.{clear-by}
use Rattle.omf_output.proofs.exe.words.Words.are_clear.Goals as goal

pub returns : goal.returns
returns c =
    clear-by c.deref.result.now c.args.self.now c.args.from c.args.to c.saturating_sub.result c.min-high.result c.none_begins.result
    (search rules) c.saturating_sub.ensures (search rules) c.none_begins.ensures.none c.none_begins.ensures.one
