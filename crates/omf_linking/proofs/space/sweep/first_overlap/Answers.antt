use Rattle.std.proofs.Common.{◌<◌, ◌∙◌, ap, subst, sym, rules}
use Rattle.std.specs.List.Sorted.{IsPermutation}
use Rattle.std.proofs.lemmas.List.Sorted.{IsNonDecreasingBy-from_sort_by_key, All-permutation}
use Rattle.omf_linking.specs.Space.Memory.{pieces, shares, IsFirstOverlap}
use Rattle.omf_linking.specs.Inner.Sweeping.{intervals, swept}
use Rattle.omf_linking.specs.declared.space.sweep.Interval.{Interval}
use Rattle.omf_linking.proofs.SpaceLaws.SweepLaws.{sorted_finds, sorted_rise}
use Rattle.omf_linking.proofs.SpaceLaws.ShareLaws.{first_overlaps, long_intervals}
use Rattle.omf_linking.proofs.space.sweep.first_overlap.Goals as goal

pub returns : goal.returns
returns c ss lies of =
    let is = intervals (pieces ss) in
    let sorted = c.sort_unstable_by_key.new.self.items in
    let moved : IsPermutation is sorted = subst (λ xs. IsPermutation xs sorted) of c.sort_unstable_by_key.ensures.permutation in
    let up = IsNonDecreasingBy-from_sort_by_key (λ (i : Interval). i.first) sorted c.sort_unstable_by_key.ensures.sorted (λ a r f k. search rules) in
    let long = All-permutation (λ (i : Interval). i.first < i.end) is sorted moved (long_intervals ss lies) in
    let found = first_overlaps (pieces ss) (swept 0 0 sorted) (sorted_finds is sorted moved (sorted_rise sorted up long)) in
    subst (IsFirstOverlap (shares (pieces ss))) (sym (c.sweep.ensures ∙ ap (swept 0 0) c.deref.ensures.value)) found
