use Rattle.std.proofs.Common.{◌≡◌, ◌∷◌, ◌∙◌, [], inr, length, sym, ap, subst, rules, arith}
use Rattle.std.specs.Prelude.{Err}
use Rattle.std.proofs.lemmas.List.{length-append}
use Rattle.omf_records.specs.Inner.Seen.{map_ok}
use Rattle.omf_linking.specs.Reading.{AreModules, unpadded}
use Rattle.omf_linking.proofs.ReadingLaws.{behind, front_grown, left_within, no_text, refused_behind}
use Rattle.omf_linking.proofs.reading.modules_in.Goals as goal

pub returns-in_err-module-clause-modules : goal.returns-in_err-module-clause-modules
returns-in_err-module-clause-modules c =
    let f = c.in_err-module.field-0.0 in
    let same : c.from_residual.result ≡ Err f = search rules in
    subst (λ r. AreModules c.args.profile c.args.input.now (map_ok (λ v. (v.0.items, v.1.now)) r)) (sym same)
    (refused_behind c.args.profile c.args.input.now c.loop-number.modules.items c.loop-number.rest.now c.loop-number.number f c.loop-number.invariant.front c.loop-number.invariant.counted c.loop-number.invariant.begun c.in_err-module.ensures)

pub overflow_sub-result : goal.overflow_sub-result
overflow_sub-result c =
    let m = c.in_ok-module.module in
    let rest = c.loop-number.rest.now in
    let left = c.unpadded-rest.ensures.rest ∙ ap unpadded (c.split_at.ensures.back ∙ behind c.args.profile rest m c.in_ok-module.ensures c.bytes.result.now c.bytes.ensures.bytes) in
    let within = left_within c.args.profile rest m c.in_ok-module.ensures c.unpadded-rest.result.now left in
    omega (arith, within, c.loop-number.invariant.within)

pub returns-then-not-is_text-clause-modules : goal.returns-then-not-is_text-clause-modules
returns-then-not-is_text-clause-modules c =
    let m = c.in_ok-module.module in
    let rest = c.loop-number.rest.now in
    let left = c.unpadded-rest.ensures.rest ∙ ap unpadded (c.split_at.ensures.back ∙ behind c.args.profile rest m c.in_ok-module.ensures c.bytes.result.now c.bytes.ensures.bytes) in
    let grown = ap length c.in_ok-push.ensures.items ∙ length-append c.loop-number.modules.items (m ∷ []) in
    let front = front_grown c.args.profile c.args.input.now c.loop-number.modules.items c.push.new.self.items rest c.unpadded-rest.result.now m c.in_ok-push.ensures.items c.loop-number.invariant.front c.in_ok-module.ensures left in
    let within = left_within c.args.profile rest m c.in_ok-module.ensures c.unpadded-rest.result.now left in
    no_text c.args.profile c.args.input.now c.push.new.self.items c.unpadded-rest.result.now _ front (omega (arith, grown)) (sym c.begins_module.ensures ∙ c.if-not-begins_module.true) (sym c.is_text.ensures ∙ c.if-not-is_text.true)
    (omega (arith, within, c.loop-number.invariant.within))

pub returns-then-not-begins_module-clause-modules : goal.returns-then-not-begins_module-clause-modules
returns-then-not-begins_module-clause-modules c =
    let m = c.in_ok-module.module in
    let rest = c.loop-number.rest.now in
    let left = c.unpadded-rest.ensures.rest ∙ ap unpadded (c.split_at.ensures.back ∙ behind c.args.profile rest m c.in_ok-module.ensures c.bytes.result.now c.bytes.ensures.bytes) in
    let grown = ap length c.in_ok-push.ensures.items ∙ length-append c.loop-number.modules.items (m ∷ []) in
    let front = front_grown c.args.profile c.args.input.now c.loop-number.modules.items c.push.new.self.items rest c.unpadded-rest.result.now m c.in_ok-push.ensures.items c.loop-number.invariant.front c.in_ok-module.ensures left in
    (front, sym c.begins_module.ensures ∙ c.if-not-begins_module.true, omega (arith, grown), sym c.is_text.ensures ∙ c.if-not-is_text.false)

pub returns-then-not-begins_module-clause-within : goal.returns-then-not-begins_module-clause-within
returns-then-not-begins_module-clause-within c =
    let m = c.in_ok-module.module in
    let rest = c.loop-number.rest.now in
    let left = c.unpadded-rest.ensures.rest ∙ ap unpadded (c.split_at.ensures.back ∙ behind c.args.profile rest m c.in_ok-module.ensures c.bytes.result.now c.bytes.ensures.bytes) in
    let within = left_within c.args.profile rest m c.in_ok-module.ensures c.unpadded-rest.result.now left in
    omega (arith, within, c.loop-number.invariant.within)

pub loop-number-preserved : goal.loop-number-preserved
loop-number-preserved c =
    let m = c.in_ok-module.module in
    let rest = c.loop-number.rest.now in
    let left = c.unpadded-rest.ensures.rest ∙ ap unpadded (c.split_at.ensures.back ∙ behind c.args.profile rest m c.in_ok-module.ensures c.bytes.result.now c.bytes.ensures.bytes) in
    let grown = ap length c.in_ok-push.ensures.items ∙ length-append c.loop-number.modules.items (m ∷ []) in
    let front = front_grown c.args.profile c.args.input.now c.loop-number.modules.items c.push.new.self.items rest c.unpadded-rest.result.now m c.in_ok-push.ensures.items c.loop-number.invariant.front c.in_ok-module.ensures left in
    let within = left_within c.args.profile rest m c.in_ok-module.ensures c.unpadded-rest.result.now left in
    record {
      front = front;
      within = omega (arith, within, c.loop-number.invariant.within);
      counted = omega (arith, grown, c.loop-number.invariant.counted);
      begun = inr (sym c.begins_module.ensures ∙ c.if-not-begins_module.false);
    }
