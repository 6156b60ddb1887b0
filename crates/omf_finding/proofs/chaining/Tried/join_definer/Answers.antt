use Rattle.std.proofs.Common.{rules, ◌<◌, ◌∙◌, length, sym}
use Rattle.omf_finding.proofs.ChainLaws.{as-long, joined-more}
use Rattle.omf_finding.proofs.chaining.Tried.join_definer.Goals as goal

pub returns-in_ok-join : goal.returns-in_ok-join
returns-in_ok-join c =
    let t = c.args.self in
    let marks = c.args.joined.now.marks.items in
    let other = c.args.public.now.«module» in
    let low : other < length marks = search rules in (
      joined-more t.program.now t.least t.modules.now t.drafts.now marks c.join.new.self.marks.items c.args.number other c.in_ok-join.ensures low (sym c.has.ensures ∙ c.if-not-has.false) (c.refers.ensures c.if-refers.true) c.requires.0,
      as-long marks c.join.new.self.marks.items other c.in_ok-join.ensures ∙ c.requires.1,
    )
