use Rattle.std.proofs.Common.{◌∷◌, [], ◌∙◌, ap, arith, rules}
use Rattle.std.specs.Prelude.{map, string_bytes}
use Rattle.std.proofs.lemmas.List.{map-append}
use Rattle.omf_check.specs.Module.{records_in}
use Rattle.omf_check.specs.WellFormed.{recs}
use Rattle.omf_linking.specs.Locator.KeyForms.{class_texts, shown}
use Rattle.omf_linking.specs.Locator.Keys.{class_name}
use Rattle.omf_reloc.specs.declared.fault.Kind.TheVariants.{Segment}
use Rattle.omf_reloc.specs.Reach.{entries}
use Rattle.omf_linking.proofs.KeyLaws.{more-made, all-made}
use Rattle.omf_linking.proofs.locator.forms.class_texts.Goals as goal

pub loop-before-init : goal.loop-before-init
loop-before-init c = record { end = c.entry_count-before-end.ensures.count; made = search rules }

pub loop-before-preserved : goal.loop-before-preserved
loop-before-preserved c =
    let m = recs (records_in c.args.«module».now.bytes) in
    let items = c.loop-before.texts.items in
    record {
      end = c.loop-before.invariant.end;
      made = more-made (λ i. shown (class_name m i)) (map string_bytes items) (map string_bytes c.push.new.self.items) (class_texts m) _ c.loop-before.before (entries m Segment)
          (omega (arith, c.loop-before-test.true, c.loop-before.invariant.end)) c.in_ok-class_text.ensures
          (ap (map string_bytes) c.in_ok-push.ensures.items ∙ map-append string_bytes items (_ ∷ [])) c.loop-before.invariant.made;
    }

pub returns : goal.returns
returns c =
    let m = recs (records_in c.args.«module».now.bytes) in
    all-made (λ i. shown (class_name m i)) _ _ c.loop-before.before (entries m Segment) (omega (arith, c.loop-before-test.false, c.loop-before.invariant.end)) c.loop-before.invariant.made
