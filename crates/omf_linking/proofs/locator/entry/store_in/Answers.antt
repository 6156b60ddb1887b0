use Rattle.std.proofs.Common.{sym, ◌∙◌}
use Rattle.omf_placement.specs.Inner.EntryReading.{words_of}
use Rattle.omf_linking.proofs.NamingLaws.{parts_some, too_many_store}
use Rattle.omf_linking.proofs.locator.entry.store_in.Goals as goal

pub returns-then-is_some : goal.returns-then-is_some
returns-then-is_some c =
    let more = parts_some (λ t. t.now) c.cut-2.result.1 (sym c.is_some.ensures ∙ c.if-is_some.true) in
    rw c.in-Some.is (too_many_store (words_of c.in-Some.words.now) (words_of c.in_ok-more.field-0.now) _ _ _ (rw c.in_ok-more.was at c.cut.ensures.parts) c.cut-2.ensures.parts more.0 more.1)
