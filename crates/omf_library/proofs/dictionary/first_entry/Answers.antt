use Rattle.std.proofs.Common.{List, ℕ, None, Some, below_more, rules, subst}
use Rattle.omf_library.specs.Dictionary.{IsFirstInBlock}
use Rattle.omf_library.proofs.dictionary.first_entry.Goals as goal

pub returns-in-Some : goal.returns-in-Some
returns-in-Some c = (
  c.loop-number.number,
  search rules,
  c.loop-number.invariant,
  subst (λ (b : List ℕ). IsFirstInBlock c.args.is_case_sensitive b c.args.name.now (Some c.in-Some.page)) c.block_of.ensures.value c.in-Some.ensures,
)

pub loop-number-preserved : goal.loop-number-preserved
loop-number-preserved c =
    below_more _ _ c.loop-number.invariant (subst (λ (b : List ℕ). IsFirstInBlock c.args.is_case_sensitive b c.args.name.now None) c.block_of.ensures.value c.in-None.ensures)

pub returns : goal.returns
returns c = λ number low. c.loop-number.invariant number (search rules)
