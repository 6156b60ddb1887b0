use Rattle.std.proofs.Common.{◌≡◌, ◌+◌, ◌∙◌, ap, ap₂, arith, rules, not, ◌&&◌, get_or}
use Rattle.std.specs.Prelude.{map, string_bytes}
use Rattle.std.specs.List.{range_with_len}
use Rattle.omf_check.specs.Module.{records_in}
use Rattle.omf_check.specs.WellFormed.{recs}
use Rattle.omf_linking.specs.Locator.KeyForms.{has_key, is_repeated, key_text, key_texts, owns}
use Rattle.omf_reloc.specs.Reach.{entries}
use Rattle.omf_linking.proofs.KeyLaws.{all-made, as-many-made, made-at, more-made}
use Rattle.omf_linking.proofs.locator.forms.owned.Goals as goal

pub loop-before-init : goal.loop-before-init
loop-before-init c = record { end = c.entry_count-before-end.ensures.count; made = search rules }

pub bounds-texts-from : goal.bounds-texts-from
bounds-texts-from c =
    let m = recs (records_in c.args.«module».now.bytes) in
    omega (arith, c.loop-before-test.true, c.loop-before.invariant.end, as-many-made string_bytes (key_text m c.args.kind c.args.form) c.deref-texts.result.now (entries m c.args.kind) (ap (map string_bytes) c.deref-texts.ensures.value ∙ c.in_ok-kept.ensures))

pub returns : goal.returns
returns c =
    let m = recs (records_in c.args.«module».now.bytes) in
    all-made (owns m c.args.kind c.args.form) _ _ c.loop-before.before (entries m c.args.kind) (omega (arith, c.loop-before-test.false, c.loop-before.invariant.end)) c.loop-before.invariant.made

pub loop-before-preserved : goal.loop-before-preserved
loop-before-preserved c =
    let m = recs (records_in c.args.«module».now.bytes) in
    let form = c.args.form in
    let kind = c.args.kind in
    let j = c.loop-before.before in
    let texts = c.deref-texts.result.now in
    let made : map string_bytes texts ≡ key_texts m kind form = ap (map string_bytes) c.deref-texts.ensures.value ∙ c.in_ok-kept.ensures in
    let text : string_bytes c.index-texts-from.result ≡ key_text m kind form (j + 1)
    = made-at string_bytes (key_text m kind form) texts (entries m kind) j c.index-texts-from.result made (c.index-texts-from.is ∙ ap (λ k. get_or texts k c.index-texts-from.result) c.from.ensures) (omega (arith, c.loop-before-test.true, c.loop-before.invariant.end)) in
    let again : c.is_repeated-repeated.result ≡ is_repeated (key_texts m kind form) (key_text m kind form (j + 1))
    = c.is_repeated-repeated.ensures (map string_bytes texts) c.in_ok-table.ensures ∙ ap₂ is_repeated made (c.as_bytes.ensures.value ∙ text) in
    record {
      end = c.loop-before.invariant.end;
      made = more-made (owns m kind form) c.loop-before.owned.items c.push.new.self.items (map (owns m kind form) (range_with_len 1 (entries m kind))) c.has_own.result j (entries m kind)
          (omega (arith, c.loop-before-test.true, c.loop-before.invariant.end)) (c.has_own.ensures ∙ ap (λ r. has_key m kind form (j + 1) && not r) again) c.in_ok-push.ensures.items c.loop-before.invariant.made;
    }
