use Rattle.std.proofs.Common.{sym, ap, ◌∙◌, ◌==◌, List, ℕ, length}
use Rattle.std.specs.List.{slice_split}
use Rattle.omf_linking.proofs.NamingLaws.{name_then_class, name_then_words, quote_parts}
use Rattle.omf_linking.proofs.locator.entry.named_entry.Goals as goal

pub returns-then-not-is_empty : goal.returns-then-not-is_empty
returns-then-not-is_empty c =
    name_then_words c.args.letter.now _ _ _ (slice_split (λ b. b == 34) c.in_ok-more.field-0.now) (slice_split (λ b. b == 34) c.in-Some.class.now) _ (rw c.in_ok-more.was at c.cut.ensures.parts) (rw c.in-Some.is at c.cut-2.ensures.parts)
    (quote_parts c.in-Some.class.now) (sym c.has_comment.ensures ∙ c.if-has_comment.false) (ap (λ (t : List ℕ). length t == 0) (sym c.said_by.ensures) ∙ sym c.is_empty.ensures ∙ c.if-not-is_empty.true)

pub returns : goal.returns
returns c =
    c.classed_entry.ensures
    ∙ sym (name_then_class c.args.letter.now _ _ _ (slice_split (λ b. b == 34) c.in_ok-more.field-0.now) (slice_split (λ b. b == 34) c.in-Some.class.now) _ (rw c.in_ok-more.was at c.cut.ensures.parts) (rw c.in-Some.is at c.cut-2.ensures.parts)
    (quote_parts c.in-Some.class.now) (sym c.has_comment.ensures ∙ c.if-has_comment.false) (ap (λ (t : List ℕ). length t == 0) (sym c.said_by.ensures) ∙ sym c.is_empty.ensures ∙ c.if-not-is_empty.false))
