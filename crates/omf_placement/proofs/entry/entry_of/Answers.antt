use Rattle.std.proofs.Common.{◌∙◌, sym}
use Rattle.omf_placement.proofs.ParsingLaws.{too_many_words}
use Rattle.omf_placement.proofs.entry.entry_of.Goals as goal

pub returns-then-is_some : goal.returns-then-is_some
returns-then-is_some c = too_many_words (λ t. t.now) c.args.said.now c.in-Some.more.now c.in-Some-more.more.now c.in-Some-more-2.more.now c.cut.result.0.now c.cut-2.result.0.now c.cut-3.result.0.now c.cut-4.result.0.now c.cut-4.result.1 (rw c.in-Some.is at c.cut.ensures.parts) (rw c.in-Some-more.is at c.cut-2.ensures.parts) (rw c.in-Some-more-2.is at c.cut-3.ensures.parts) c.cut-4.ensures.parts (sym c.is_some.ensures ∙ c.if-is_some.true)
