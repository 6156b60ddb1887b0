use Rattle.std.proofs.Common.{sym, ap, ◌∙◌, ◌==◌, List, ℕ}
use Rattle.std.specs.List.{slice_split}
use Rattle.omf_linking.specs.Locator.LinkEntries.{named_entry}
use Rattle.omf_linking.proofs.NamingLaws.{line_with_name, quote_parts}
use Rattle.omf_linking.proofs.locator.entry.link_entry_on.Goals as goal

pub returns : goal.returns
returns c =
    c.named_entry.ensures ∙ ap (λ (t : List ℕ). named_entry t (slice_split (λ b. b == 34) c.in-Some.text.now)) c.said_by-2.ensures
    ∙ sym (line_with_name _ _ (slice_split (λ b. b == 34) c.in-Some.text.now) _ (rw c.in-Some.is at c.cut.ensures.parts) (quote_parts c.in-Some.text.now) (sym c.has_comment.ensures ∙ c.if-has_comment.false))
