use Rattle.std.proofs.Common.{◌≡◌, ◌+◌, ◌∙◌, ◌++◌, ◌∷◌, [], ap, arith, map}
use Rattle.std.specs.List.{enumerate_from}
use Rattle.omf_check.specs.Module.{records_in}
use Rattle.omf_check.specs.WellFormed.{recs}
use Rattle.omf_placement.proofs.NamedLaws.{named-count}
use Rattle.omf_placement.specs.Derive.{named_externals}
use Rattle.omf_map.specs.Addresses.{external_given}
use Rattle.omf_externals.specs.declared.by_name.Spot.{Spot}
use Rattle.omf_placement.proofs.StepLaws.{next_entry, no_more_mapped, none_left, one_mapped}
use Rattle.omf_map.proofs.given.external_addresses.Goals as goal

pub loop-before-init : goal.loop-before-init
loop-before-init c = record { end = c.externals-before-end.ensures.count; addresses = λ among h k. ap (λ xs. xs ++ map (external_given among c.args.given.now) (enumerate_from 1 (named_externals (recs (records_in c.args.«module».now.bytes))))) c.new-addresses.ensures.items }

pub loop-before-preserved : goal.loop-before-preserved
loop-before-preserved c =
    let m = recs (records_in c.args.«module».now.bytes) in
    let i = c.loop-before.before in
    let x = c.external_at-external.result in
    let xs = named_externals m in
    record {
      end = c.loop-before.invariant.end;
      addresses = λ among h k.
          let f = external_given among c.args.given.now in
          let here : c.external_address.result ≡ f (i + 1, (x.name.now, x.local)) = c.external_address.ensures among h k ∙ ap (λ (s : Spot). f (s.external, (x.name.now, x.local))) c.external_at-external.ensures.same in
          one_mapped f c.loop-before.addresses.items c.push.new.self.items (i + 1, (x.name.now, x.local)) _ _ _ (c.in_ok-push.ensures.items ∙ ap (λ a. c.loop-before.addresses.items ++ a ∷ []) here)
          (ap (enumerate_from (i + 1)) (next_entry xs i (x.name.now, x.local) c.external_at-external.ensures.named)) (c.loop-before.invariant.addresses among h k);
    }

pub returns : goal.returns
returns c = λ among h k.
    let m = recs (records_in c.args.«module».now.bytes) in
    no_more_mapped (external_given among c.args.given.now) c.loop-before.addresses.items _ _
    (ap (enumerate_from (c.loop-before.before + 1)) (none_left (named_externals m) c.loop-before.before (omega (arith, c.loop-before-test.false, c.loop-before.invariant.end, named-count m)))) (c.loop-before.invariant.addresses among h k)
