use Rattle.std.proofs.Common.{◌∙◌, sym}
use Rattle.omf_output.specs.Inner.GroupFrames.{Key}
use Rattle.omf_output.proofs.FrameLaws.{again, first, by-names, looked-none, looked-some}
use Rattle.omf_output.proofs.near.frames.FrameTable.add.Goals as goal

pub returns-then-is_some : goal.returns-then-is_some
returns-then-is_some c =
    let m = c.args.self.now.by_name in
    let k : Key = (c.of.result, c.of-2.result) in
    let s = looked-some c.get.result (sym c.is_some.ensures ∙ c.if-is_some.true) in
    by-names k c.args.name c.args.base m m c.of.ensures c.of-2.ensures (λ xs h. again k c.args.base xs m s.0 (sym c.get.ensures.value ∙ s.1) h)

pub returns : goal.returns
returns c =
    let m = c.args.self.now.by_name in
    let n = c.insert.new.self in
    let k : Key = (c.of.result, c.of-2.result) in
    let none = looked-none c.get.result (sym c.is_some.ensures ∙ c.if-is_some.false) in
    by-names k c.args.name c.args.base m n c.of.ensures c.of-2.ensures (λ xs h. first k c.args.base xs m n (sym c.get.ensures.value ∙ none) c.in_ok-insert.ensures.updates h)
