use Rattle.std.proofs.Common.{◌∙◌, ap}
use Rattle.omf_aliases.specs.Aliases.{next_name}
use Rattle.omf_aliases.proofs.AliasLaws.{end-here, end-step, no-end}
use Rattle.omf_aliases.proofs.ends.Aliases.end_from.Goals as goal

pub returns-in_default : goal.returns-in_default
returns-in_default c ms h =
    end-here ms c.loop-left.left c.loop-left.end c.next.result c.loop-left-test.true (c.next.ensures ms h ∙ ap (next_name ms) c.end.view_is) c.in_default.is ∙ c.loop-left.invariant ms h

pub loop-left-preserved : goal.loop-left-preserved
loop-left-preserved c ms h =
    end-step ms c.loop-left.left c.loop-left.end c.in-Some.next c.next.result c.loop-left-test.true (c.next.ensures ms h ∙ ap (next_name ms) c.end.view_is) c.in-Some.is ∙ c.loop-left.invariant ms h

pub returns : goal.returns
returns c ms h = no-end ms c.loop-left.left c.loop-left.end c.loop-left-test.false ∙ c.loop-left.invariant ms h
