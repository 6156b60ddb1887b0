use Rattle.std.proofs.Common.{◌≡◌, ◌+◌, ◌++◌, ◌∷◌, [], ◌∙◌, ap, arith, rules}
use Rattle.std.specs.Prelude.{Some}
use Rattle.omf_check.specs.Tables.{entry}
use Rattle.omf_map.specs.Addresses.{place_address}
use Rattle.omf_placement.proofs.StepLaws.{next_entry, no_more_mapped, none_left, one_mapped}
use Rattle.omf_map.proofs.addresses.externals_of.Goals as goal

pub loop-before-preserved : goal.loop-before-preserved
loop-before-preserved c =
    let xs = c.args.placement.now.externals in
    let told : entry xs (c.loop-before.before + 1) ≡ Some c.in-Some.place = search rules in
    one_mapped place_address c.loop-before.addresses.items c.push.new.self.items c.in-Some.place _ _ _ (c.in_ok-push.ensures.items ∙ ap (λ a. c.loop-before.addresses.items ++ Some a ∷ []) c.from.ensures) (next_entry xs c.loop-before.before c.in-Some.place told) c.loop-before.invariant

pub returns : goal.returns
returns c =
    let xs = c.args.placement.now.externals in
    no_more_mapped place_address c.loop-before.addresses.items _ _ (none_left xs c.loop-before.before (omega (arith, c.loop-before-test.false, c.external_count-before-end.ensures))) c.loop-before.invariant
