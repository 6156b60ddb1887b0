use Rattle.std.proofs.Common.{◌≡◌, ◌≤◌, ◌<◌, ◌+◌, subst, sym, ap, ◌∙◌, length, take, drop, rules}
use Rattle.omf_image.specs.Overlay.{byte_at}
use Rattle.omf_image.specs.Inner.Sorted.{laid_runs, AreSorted, EndBefore, EndFrom, line_place}
use Rattle.omf_image.proofs.SortedLaws.{byte_found, byte_missed}
use Rattle.omf_image.proofs.image.Image.get.Goals as goal

pub returns-in_err-get : goal.returns-in_err-get
returns-in_err-get c =
    let none : length c.deref-2.result.now ≤ c.ending_before-at.result = search rules in
    let same : c.deref.result.now ≡ c.deref-2.result.now = c.deref.ensures.value ∙ sym c.deref-2.ensures.value in
    let sorted : AreSorted 0 (laid_runs c.deref-2.result.now) = subst (λ xs. AreSorted 0 (laid_runs xs)) (sym c.deref-2.ensures.value) c.self.invariant in
    let before : EndBefore (line_place c.args.segment c.args.offset + 1) (take c.ending_before-at.result (laid_runs c.deref-2.result.now)) =
    subst (λ xs. EndBefore (line_place c.args.segment c.args.offset + 1) (take c.ending_before-at.result (laid_runs xs))) same (subst (λ p. EndBefore (p + 1) (take c.ending_before-at.result (laid_runs c.deref.result.now))) c.place_of.ensures c.ending_before-at.ensures.before) in
    let others : EndFrom (line_place c.args.segment c.args.offset + 1) (drop c.ending_before-at.result (laid_runs c.deref-2.result.now)) =
    subst (λ xs. EndFrom (line_place c.args.segment c.args.offset + 1) (drop c.ending_before-at.result (laid_runs xs))) same (subst (λ p. EndFrom (p + 1) (drop c.ending_before-at.result (laid_runs c.deref.result.now))) c.place_of.ensures c.ending_before-at.ensures.others) in
    c.from_residual.ensures
    ∙ byte_missed c.args.segment c.args.offset c.ending_before-at.result c.deref-2.result.now sorted before others none
    ∙ ap (λ ls. byte_at ls c.args.segment c.args.offset) (ap laid_runs c.deref-2.ensures.value ∙ c.self.view_is)

pub returns : goal.returns
returns c =
    let some : c.ending_before-at.result < length c.deref-2.result.now = search rules in
    let same : c.deref.result.now ≡ c.deref-2.result.now = c.deref.ensures.value ∙ sym c.deref-2.ensures.value in
    let sorted : AreSorted 0 (laid_runs c.deref-2.result.now) = subst (λ xs. AreSorted 0 (laid_runs xs)) (sym c.deref-2.ensures.value) c.self.invariant in
    let before : EndBefore (line_place c.args.segment c.args.offset + 1) (take c.ending_before-at.result (laid_runs c.deref-2.result.now)) =
    subst (λ xs. EndBefore (line_place c.args.segment c.args.offset + 1) (take c.ending_before-at.result (laid_runs xs))) same (subst (λ p. EndBefore (p + 1) (take c.ending_before-at.result (laid_runs c.deref.result.now))) c.place_of.ensures c.ending_before-at.ensures.before) in
    let others : EndFrom (line_place c.args.segment c.args.offset + 1) (drop c.ending_before-at.result (laid_runs c.deref-2.result.now)) =
    subst (λ xs. EndFrom (line_place c.args.segment c.args.offset + 1) (drop c.ending_before-at.result (laid_runs xs))) same (subst (λ p. EndFrom (p + 1) (drop c.ending_before-at.result (laid_runs c.deref.result.now))) c.place_of.ensures c.ending_before-at.ensures.others) in
    c.byte.ensures
    ∙ byte_found c.args.segment c.args.offset c.ending_before-at.result c.deref-2.result.now sorted before others c.in_ok-get.field-0.now some (search rules)
    ∙ ap (λ ls. byte_at ls c.args.segment c.args.offset) (ap laid_runs c.deref-2.ensures.value ∙ c.self.view_is)
