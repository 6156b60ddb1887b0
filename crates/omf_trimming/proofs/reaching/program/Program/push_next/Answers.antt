use Rattle.std.proofs.Common.{◌≡◌, ◌<◌, ◌≤◌, ◌∙◌, ◌++◌, List, length, refl, sym, subst, get_or, rules}
use Rattle.std.specs.Prelude.{OnOk}
use Rattle.std.proofs.lemmas.Option.{none-some, slice_get_past, slice_get_read}
use Rattle.omf_trimming.specs.Reaching.{IsNode, Node, next}
use Rattle.omf_trimming.proofs.ProgramLaws.{next-is, of-none}
use Rattle.omf_trimming.proofs.reaching.program.Program.push_next.Goals as goal

pub returns-in-Some : goal.returns-in-Some
returns-in-Some c = λ ms known node.
    let p = c.args.self.now in
    let q = c.in-Some.module.now in
    let at : Node = (c.from.inside.«module», c.from.inside.segment) in
    let same : at ≡ c.args.from = c.from.view_is in
    let low : c.from.inside.«module» < length p.modules.items = search rules in
    let is : q ≡ get_or p.modules.items c.from.inside.«module» q = search rules in
    let n = next-is ms p q at known (subst (IsNode ms) (sym same) node) (slice_get_read p.modules.items (length p.modules.items) c.from.inside.«module» q refl low is) in
    subst (λ (k : Node). OnOk c.push_all.result (c.push_all.new.found.items ≡ c.args.found.now.items ++ next ms k)) same
    (subst (λ (xs : List Node). OnOk c.push_all.result (c.push_all.new.found.items ≡ c.args.found.now.items ++ xs)) n.2 (c.push_all.ensures n.0 n.1))

pub returns-in-None : goal.returns-in-None
returns-in-None c = λ ms known node.
    let p = c.args.self.now in
    let at : Node = (c.from.inside.«module», c.from.inside.segment) in
    let same : at ≡ c.args.from = c.from.view_is in
    let high : length p.modules.items ≤ c.from.inside.«module» = search rules in
    let own = subst (IsNode ms) (sym same) node in
    absurd (none-some own.0 (sym (of-none 0 ms p.modules.items known.modules c.from.inside.«module» (slice_get_past p.modules.items c.from.inside.«module» high)) ∙ own.1))
