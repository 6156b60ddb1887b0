use Rattle.std.proofs.Common.{◌<◌, ◌∙◌, subst, sym}
use Rattle.omf_library.specs.Inner.Search.{offered}
use Rattle.omf_library.proofs.NeededLaws.{grown-one, member-low, on-ok-both}
use Rattle.omf_library.proofs.needed.walk.Walk.join_name.Goals as goal

pub join-requires : goal.join-requires
join-requires c =
    subst (λ k. c.in-Some.number < k) (sym c.requires.walk.sized)
    (member-low (offered c.args.search.now) c.args.name.now c.in-Some.number (sym c.member_of.ensures ∙ c.in-Some.is))

pub returns-in-Some : goal.returns-in-Some
returns-in-Some c =
    on-ok-both c.join.result
    (λ e f. grown-one (offered c.args.search.now) c.args.self.now.joined.items c.join.new.self.joined.items c.args.self.now.queue.items c.join.new.self.queue.items c.args.name.now c.in-Some.number
    c.requires.walk c.requires.called (sym c.member_of.ensures ∙ c.in-Some.is) e f)
    c.join.ensures.joined c.join.ensures.queue
