use Rattle.std.proofs.Common.{◌∙◌, [], ◌++◌, ap, sym}
use Rattle.std.specs.Prelude.{map}
use Rattle.omf_aligned.specs.Inner.Counts.{count_of}
use Rattle.omf_aligned.proofs.OriginLaws.{counts_are}
use Rattle.omf_aligned.proofs.origin.counts_of.Goals as goal

pub loop-record-init : goal.loop-record-init
loop-record-init c = ap (λ l. l ++ map count_of c.args.records.now) c.new-counts.ensures.items ∙ sym (counts_are [] c.args.records.now)
