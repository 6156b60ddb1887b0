use Rattle.std.proofs.Common.{◌∙◌, sym}
use Rattle.omf_finding.proofs.CloseLaws.{asks-no-draft, asks-none, asks-one, on-ok}
use Rattle.omf_finding.proofs.chaining.Tried.add_names.Goals as goal

pub returns-then-not-has : goal.returns-then-not-has
returns-then-not-has c =
    let t = c.args.self in
    asks-none t.modules.now t.drafts.now c.args.joined.now.marks.items c.args.number (sym c.has.ensures ∙ c.if-not-has.true) c.args.names.now.spots

pub returns-in-Some : goal.returns-in-Some
returns-in-Some c =
    let t = c.args.self in
    let there = c.in-Some.ensures.some in
    on-ok (asks-one t.modules.now t.drafts.now c.args.joined.now.marks.items c.args.number c.in-Some.«module».now c.in-Some.found.now there.0 there.1 (sym c.has.ensures ∙ c.if-not-has.false) c.args.names.now.spots c.add_module.new.self.spots) c.add_module.result
    c.add_module.ensures

pub returns-in-None : goal.returns-in-None
returns-in-None c =
    let t = c.args.self in
    asks-no-draft t.modules.now t.drafts.now c.args.joined.now.marks.items c.args.number c.in-None.ensures.none c.args.names.now.spots
