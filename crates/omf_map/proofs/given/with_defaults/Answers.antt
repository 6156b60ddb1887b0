use Rattle.std.proofs.Common.{◌≡◌, ◌+◌, ◌∙◌, List, ap, ap₂, drop, get_or, sym}
use Rattle.std.specs.Prelude.{Option, ℕ}
use Rattle.omf_check.specs.Module.{recs_of}
use Rattle.omf_linking.specs.Locator.Sparse.{Sparse}
use Rattle.omf_records.specs.Values.{Rec}
use Rattle.omf_map.specs.Addresses.{for_missing, with_defaults}
use Rattle.omf_placement.proofs.StepLaws.{none_left}
use Rattle.omf_externals.proofs.SettledLaws.{next_at, no_pair}
use Rattle.omf_map.proofs.given.with_defaults.Goals as goal

pub loop-pair-init : goal.loop-pair-init
loop-pair-init c = λ among h k.
    let m : List Rec × Sparse = (recs_of c.args.«module».now.bytes, c.args.given.now) in
    ap₂ (with_defaults among m c.args.first.items) (c.deref-pair-items.ensures.value ∙ c.in_ok-pairs.ensures) (c.in_ok-addresses.ensures ∙ c.deref.ensures.value)

pub loop-pair-preserved : goal.loop-pair-preserved
loop-pair-preserved c = λ among h k.
    let m : List Rec × Sparse = (recs_of c.args.«module».now.bytes, c.args.given.now) in
    let ps = c.deref-pair-items.result.now in
    let i = c.loop-pair.pair-index in
    let p = get_or ps i no_pair in
    let step : c.for_missing.new.addresses.items ≡ for_missing among m c.args.first.items c.loop-pair.addresses.items p
    = c.for_missing.ensures among h k ∙ ap (λ (xs : List (Option ℕ)). for_missing among m xs c.loop-pair.addresses.items p) c.deref-in-loop-pair.ensures.value in
    ap (with_defaults among m c.args.first.items (drop (i + 1) ps)) step
    ∙ ap (λ qs. with_defaults among m c.args.first.items qs c.loop-pair.addresses.items) (sym (next_at ps i no_pair c.loop-pair-test.true)) ∙ c.loop-pair.invariant among h k

pub returns : goal.returns
returns c = λ among h k.
    let m : List Rec × Sparse = (recs_of c.args.«module».now.bytes, c.args.given.now) in
    ap (λ qs. with_defaults among m c.args.first.items qs c.loop-pair.addresses.items) (sym (none_left c.deref-pair-items.result.now c.loop-pair.pair-index c.loop-pair-test.false)) ∙ c.loop-pair.invariant among h k
