use Rattle.std.proofs.Common.{rules, ◌≡◌, ◌∙◌, ◌++◌, ◌∷◌, [], ap, ap₂, sym, arith, false}
use Rattle.std.specs.Prelude.{Some, unwrap_or}
use Rattle.omf_check.specs.Module.{records_in}
use Rattle.omf_check.specs.Tables.{locals, entry}
use Rattle.omf_check.specs.WellFormed.{recs}
use Rattle.omf_placement.specs.Derive.{named_externals}
use Rattle.omf_placement.specs.Inner.Derived.{external_place}
use Rattle.omf_placement.proofs.NamedLaws.{named-entry}
use Rattle.omf_placement.proofs.WeakLaws.{all_outcomes, one_outcome}
use Rattle.omf_placement.proofs.several.weak.outcomes_of.Goals as goal

pub loop-i-preserved : goal.loop-i-preserved
loop-i-preserved c = record {
  start = omega (arith, c.loop-i.invariant.start);
  end = c.loop-i.invariant.end;
  so_far = λ among given h o k.
      let m = recs (records_in c.args.module.now.bytes) in
      let j = c.args.number in
      let i = c.loop-i.i in
      let local = unwrap_or (entry (locals m) i) false in
      let same_local : c.unwrap_or-local.result ≡ local = search rules in
      let named : entry (named_externals m) i ≡ Some (c.in-Some.name, local) = named-entry m i c.in-Some.name c.loop-i.invariant.start (sym c.external.ensures ∙ c.in-Some.is) in
      let found : c.visible_place-outcome.result ≡ external_place (among local) given j i c.in-Some.name = c.visible_place-outcome.ensures among given h o k ∙ ap₂ (λ l n. external_place (among l) given j i n) same_local c.name.view_is in
      one_outcome among given j m i (c.in-Some.name, local) c.loop-i.invariant.start named c.loop-i.outcomes.items c.push.new.self.items
      (c.in_ok-push.ensures.items ∙ ap (λ r. c.loop-i.outcomes.items ++ r ∷ []) found) (c.loop-i.invariant.so_far among given h o k);
}

pub returns : goal.returns
returns c = λ among given h o k.
    let m = recs (records_in c.args.module.now.bytes) in
    all_outcomes among given c.args.number m c.loop-i.outcomes.items c.loop-i.i (omega (arith, c.loop-i-test.false, c.loop-i.invariant.end)) (c.loop-i.invariant.so_far among given h o k)
