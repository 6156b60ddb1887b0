use Rattle.std.proofs.Common.{sym, ◌∙◌}
use Rattle.omf_placement.specs.Inner.EntryReading.{words_of}
use Rattle.omf_linking.proofs.NamingLaws.{parts_some, too_many_words}
use Rattle.omf_linking.proofs.locator.entry.shared_frame.Goals as goal

pub returns-then-is_some : goal.returns-then-is_some
returns-then-is_some c =
    let more = parts_some (λ t. t.now) c.cut.result.1 (sym c.is_some.ensures ∙ c.if-is_some.true) in
    rw c.in_ok-words.was (too_many_words (words_of c.in_ok-words.field-0.now) _ _ c.cut.ensures.parts more.0 more.1)
