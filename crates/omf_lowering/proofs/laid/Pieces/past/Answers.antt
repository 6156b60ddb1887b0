use Rattle.std.proofs.Common.{◌≡◌, ◌-◌, ◌<◌, ◌≤◌, ◌∙◌, ap, arith, get_or, length, rules, sym}
use Rattle.std.proofs.lemmas.List.{get_or_default, get_or_past}
use Rattle.omf_lowering.specs.Comdats.{past}
use Rattle.omf_lowering.proofs.LaidLaws.{past_is}
use Rattle.omf_lowering.proofs.laid.Pieces.past.Goals as goal

pub returns-then-at-len : goal.returns-then-at-len
returns-then-at-len c =
    let ends = c.self.inside.ends.items in
    let none : get_or ends c.args.segment 0 ≡ 0 = get_or_past ends c.args.segment 0 (omega arith) in
    let low : c.args.end ≤ 4294967295 = omega arith in
    let all : c.args.end ≡ c.args.end - 0 = omega arith in
    all ∙ ap (λ n. c.args.end - n) (sym none) ∙ past_is c.args.segment c.args.end c.self.inside.items.items ends low c.self.invariant.reach ∙ ap (past c.args.segment c.args.end) c.self.view_is

pub returns : goal.returns
returns c =
    let ends = c.self.inside.ends.items in
    let low : c.args.end ≤ 4294967295 = omega arith in
    let at : c.from-at.result ≡ c.args.segment = search rules in
    let here : c.index.result.now ≡ get_or ends c.from-at.result c.index.result.now = search rules in
    let inside : c.from-at.result < length ends = omega arith in
    let is : c.saturating_sub.result ≡ c.args.end - c.index.result.now = search rules in
    is ∙ ap (λ n. c.args.end - n) (here ∙ get_or_default ends c.from-at.result c.index.result.now 0 inside ∙ ap (λ n. get_or ends n 0) at)
    ∙ past_is c.args.segment c.args.end c.self.inside.items.items ends low c.self.invariant.reach ∙ ap (past c.args.segment c.args.end) c.self.view_is
