use Rattle.std.proofs.Common.{◌∙◌, List, ℕ, ap, subst}
use Rattle.std.specs.List.Sorted.{IsBinarySearchResult}
use Rattle.std.specs.Ordering.{nat_cmp}
use Rattle.omf_frame.specs.Bytes.{is_one_of}
use Rattle.omf_finding.proofs.IndexLaws.{has-index}
use Rattle.omf_finding.proofs.indices.Indices.has.Goals as goal

pub returns : goal.returns
returns c =
    let found = subst (λ (xs : List ℕ). IsBinarySearchResult (λ y. nat_cmp y c.args.index) xs c.binary_search.result) c.deref.ensures.value c.binary_search.ensures.position in
    c.is_ok.ensures.value ∙ has-index c.self.inside.items.items c.args.index c.binary_search.result c.self.invariant found ∙ ap (λ (xs : List ℕ). is_one_of xs c.args.index) c.self.view_is
