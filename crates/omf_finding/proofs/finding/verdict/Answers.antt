use Rattle.std.proofs.Common.{rules, ◌≡◌, ◌∙◌, length, sym}
use Rattle.std.specs.Vec.{vec_len}
use Rattle.omf_finding.proofs.CandidateLaws.{none-there, some-there}
use Rattle.omf_finding.proofs.finding.verdict.Goals as goal

pub returns-then-is_empty-clause-told : goal.returns-then-is_empty-clause-told
returns-then-is_empty-clause-told c =
    let cs = c.in_ok-candidates.candidates in
    let long : vec_len cs ≡ length cs.items = search rules in
    none-there c.args.ended.program.now c.args.ended.most c.args.module.now cs.items (vec_len cs) long (sym c.is_empty.ensures ∙ c.if-is_empty.true) c.in_ok-candidates.ensures

pub returns-clause-told : goal.returns-clause-told
returns-clause-told c =
    let cs = c.in_ok-candidates.candidates in
    let long : vec_len cs ≡ length cs.items = search rules in
    (some-there c.args.ended.program.now c.args.ended.most c.args.module.now cs.items (vec_len cs) long (sym c.is_empty.ensures ∙ c.if-is_empty.false), c.in_ok-candidates.ensures)
