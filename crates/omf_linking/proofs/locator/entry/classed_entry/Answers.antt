use Rattle.std.proofs.Common.{sym, ◌∙◌, ◌==◌}
use Rattle.std.specs.List.{slice_split}
use Rattle.omf_linking.proofs.NamingLaws.{class_open, quotes_some}
use Rattle.omf_linking.proofs.locator.entry.classed_entry.Goals as goal

pub returns-then-not-has_comment : goal.returns-then-not-has_comment
returns-then-not-has_comment c =
    let more = quotes_some (λ t. t.now) c.cut-2.result.1 (sym c.is_some.ensures ∙ c.if-is_some.true) in
    class_open c.args.letter.now c.args.name.now _ _ _ (slice_split (λ b. b == 34) c.in_ok-more.field-0.now) _ more.0 (rw c.in_ok-more.was at c.cut.ensures.parts) c.cut-2.ensures.parts more.1 (sym c.has_comment.ensures ∙ c.if-not-has_comment.true)
