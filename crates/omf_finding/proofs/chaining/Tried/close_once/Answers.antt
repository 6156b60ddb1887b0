use Rattle.omf_finding.proofs.CloseLaws.{closed-all, closed-sure}
use Rattle.omf_finding.proofs.chaining.Tried.close_once.Goals as goal

pub join_all_due-requires-clause-asked : goal.join_all_due-requires-clause-asked
join_all_due-requires-clause-asked c = c.in_ok-names.ensures.only

pub returns-clause-sure : goal.returns-clause-sure
returns-clause-sure c =
    let found = c.in_ok-some.ensures in
    λ none. closed-sure c.args.self c.args.joined.now.marks.items c.join_all_due.new.joined.marks.items c.in_ok-names.names.spots (found.same none) (found.idle none)

pub returns-clause-all : goal.returns-clause-all
returns-clause-all c =
    let found = c.in_ok-some.ensures in
    λ none. closed-all c.args.self c.args.joined.now.marks.items c.join_all_due.new.joined.marks.items c.in_ok-names.names.spots (found.same none) c.in_ok-names.ensures (found.idle none)
