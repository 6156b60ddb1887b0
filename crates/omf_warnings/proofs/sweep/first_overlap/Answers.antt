use Rattle.std.proofs.Common.{◌∙◌, ap, subst, sym, rules}
use Rattle.std.specs.Prelude.{None}
use Rattle.std.specs.List.Sorted.{IsPermutation}
use Rattle.std.proofs.lemmas.List.Sorted.{IsNonDecreasingBy-from_sort_by_key}
use Rattle.omf_warnings.specs.Overlaps.{IsFirstOverlap}
use Rattle.omf_warnings.specs.Inner.Overlapping.{swept}
use Rattle.omf_warnings.specs.declared.span.Span.{Span}
use Rattle.omf_warnings.proofs.OverlapLaws.{sweep_finds, sorted_rise}
use Rattle.omf_warnings.proofs.sweep.first_overlap.Goals as goal

pub returns : goal.returns
returns c =
    let all = c.args.spans.items in
    let sorted = c.sort_unstable_by_key.new.self.items in
    let moved : IsPermutation all sorted = c.sort_unstable_by_key.ensures.permutation in
    let up = IsNonDecreasingBy-from_sort_by_key (λ (s : Span). s.first) sorted c.sort_unstable_by_key.ensures.sorted (λ a r f k. search rules) in
    subst (IsFirstOverlap all) (sym (c.sweep.ensures ∙ ap (swept None None) c.deref.ensures.value)) (sweep_finds all sorted (sorted_rise sorted up) moved)
