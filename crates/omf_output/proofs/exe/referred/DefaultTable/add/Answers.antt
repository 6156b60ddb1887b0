use Rattle.std.proofs.Common.{◌∙◌, ap, not, subst, sym}
use Rattle.omf_output.specs.Inner.Referred.{HasPair}
use Rattle.omf_output.proofs.DefaultLaws.{again, first, no-pair}
use Rattle.omf_output.proofs.FrameLaws.{looked-none, looked-some}
use Rattle.omf_output.proofs.exe.referred.DefaultTable.add.Goals as goal

pub returns-in_default : goal.returns-in_default
returns-in_default c =
    let m = c.args.self.now.by_external in
    subst (HasPair m m c.args.pair.now) (sym c.in_default.is) (no-pair m c.args.pair.now)

pub returns-in_ok-insert : goal.returns-in_ok-insert
returns-in_ok-insert c =
    let m = c.args.self.now.by_external in
    let n = c.insert.new.self in
    let none = looked-none c.get.result (c.is_none.ensures ∙ ap not c.if-is_none.true) in
    subst (HasPair m n c.args.pair.now) (sym c.in-Some.is)
    (first c.args.pair.now c.in-Some.moving m n (sym c.get.ensures.value ∙ none) c.in_ok-insert.ensures.updates)

pub returns-else-is_none : goal.returns-else-is_none
returns-else-is_none c =
    let m = c.args.self.now.by_external in
    let s = looked-some c.get.result (c.is_none.ensures ∙ ap not c.if-is_none.false) in
    subst (HasPair m m c.args.pair.now) (sym c.in-Some.is)
    (again c.args.pair.now c.in-Some.moving m s.0 (sym c.get.ensures.value ∙ s.1))
