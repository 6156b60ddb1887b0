use Rattle.std.proofs.Common.{sym, ◌∙◌}
use Rattle.omf_placement.specs.Inner.EntryReading.{words_of}
use Rattle.omf_linking.proofs.NamingLaws.{parts_some, too_many_stored}
use Rattle.omf_linking.proofs.locator.entry.stored_place.Goals as goal

pub returns-then-is_some : goal.returns-then-is_some
returns-then-is_some c =
    let more = parts_some (λ t. t.now) c.cut-5.result.1 (sym c.is_some.ensures ∙ c.if-is_some.true) in
    rw c.in_ok-words.was (too_many_stored (words_of c.in_ok-words.field-0.now) (words_of c.in_ok-more.field-0.now) (words_of c.in_ok-more-2.field-0.now) (words_of c.in_ok-more-3.field-0.now) (words_of c.in-Some.more.now) _ _ _ _ _ _
    (rw c.in_ok-more.was at c.cut.ensures.parts) (rw c.in_ok-more-2.was at c.cut-2.ensures.parts) (rw c.in_ok-more-3.was at c.cut-3.ensures.parts) (rw c.in-Some.is at c.cut-4.ensures.parts) c.cut-5.ensures.parts more.0 more.1)
