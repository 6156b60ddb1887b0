use Rattle.std.proofs.Common.{◌∙◌, ◌++◌, ◌∷◌, [], ap, rules}
use Rattle.omf_check.specs.Module.{records_in, typed_modules}
use Rattle.omf_check.specs.WellFormed.{recs}
use Rattle.omf_map.specs.Addresses.{addresses_given, all_given}
use Rattle.omf_placement.proofs.StepLaws.{next-pair, no-pair, no_more_mapped, one_mapped}
use Rattle.omf_map.proofs.given.all_addresses.Goals as goal

pub loop-j-preserved : goal.loop-j-preserved
loop-j-preserved c =
    let ms = typed_modules c.args.modules.now in
    let j = c.loop-j.j in
    let all = all_given ms c.args.given.now in
    let here = c.in_ok-module_addresses.ensures all c.in_ok-all.ensures in
    record {
      all = one_mapped (addresses_given all) c.loop-j.addresses.items c.push.new.self.items (recs (records_in c.index-modules-j.result.bytes), c.index-given-j.result) _ _ _
          (c.in_ok-push.ensures.items ∙ ap (λ a. c.loop-j.addresses.items ++ a ∷ []) here)
          (next-pair c.args.modules.now c.args.given.now j c.index-modules-j.result c.index-given-j.result c.index-modules-j.is c.index-given-j.is c.loop-j-test.true c.requires) c.loop-j.invariant.all;
      count = search rules;
    }

pub returns-clause-addresses : goal.returns-clause-addresses
returns-clause-addresses c =
    let ms = typed_modules c.args.modules.now in
    no_more_mapped (addresses_given (all_given ms c.args.given.now)) c.loop-j.addresses.items _ _ (no-pair c.args.modules.now c.args.given.now c.loop-j.j c.loop-j-test.false) c.loop-j.invariant.all
