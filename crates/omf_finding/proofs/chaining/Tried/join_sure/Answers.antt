use Rattle.std.proofs.Common.{rules, ◌<◌, ◌∙◌, length, refl, sym, subst}
use Rattle.std.proofs.lemmas.Option.{slice_get_read}
use Rattle.omf_finding.specs.Inner.Shaping.{HasShapes, HaveShapes}
use Rattle.omf_finding.proofs.ChainLaws.{as-long, held-at, joined-sure, zip-get}
use Rattle.omf_finding.proofs.chaining.Tried.join_sure.Goals as goal

pub is_sure-requires-clause-shapes : goal.is_sure-requires-clause-shapes
is_sure-requires-clause-shapes c =
    let t = c.args.self in
    let program = t.program.now in
    let m = c.in-Some.«module».now in
    let shapes = t.shapes.now in
    let low : c.args.number < length shapes = search rules in
    subst (HaveShapes program t.most m) (sym c.as_slice-own.ensures.value)
    (zip-get (HasShapes program t.most) t.modules.now shapes c.args.number m c.index-shapes-number.result c.requires.shapes c.in-Some.ensures.some.0 (slice_get_read shapes (length shapes) c.args.number c.index-shapes-number.result refl low c.index-shapes-number.is))

pub is_sure-requires-clause-held : goal.is_sure-requires-clause-held
is_sure-requires-clause-held c =
    let t = c.args.self in
    (held-at t.program.now t.modules.now t.drafts.now c.args.number c.in-Some.«module».now c.in-Some.found.now c.requires.drafts c.in-Some.ensures.some.0 c.in-Some.ensures.some.1).found.reaches

pub returns-in_ok-join : goal.returns-in_ok-join
returns-in_ok-join c =
    let t = c.args.self in
    let marks = c.args.joined.now.marks.items in
    let low : c.args.number < length marks = search rules in
    let there = c.in-Some.ensures.some in (
      joined-sure t.program.now t.least t.modules.now t.drafts.now marks c.join.new.self.marks.items c.args.number c.in-Some.«module».now c.in-Some.found.now c.in_ok-join.ensures low there.0 there.1 (c.is_sure.ensures.some c.if-is_sure.true)
          c.requires.joined.0,
      as-long marks c.join.new.self.marks.items c.args.number c.in_ok-join.ensures ∙ c.requires.joined.1,
    )
