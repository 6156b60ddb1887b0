use Rattle.std.proofs.Common.{◌≡◌, ◌+◌, ◌∷◌, ◌∙◌, ap, drop, sym}
use Rattle.std.specs.Prelude.{None, Some}
use Rattle.omf_reloc.specs.declared.fault.Kind.TheVariants.{Segment}
use Rattle.omf_linking.specs.Placing.{all_given, or_missing}
use Rattle.omf_linking.proofs.PlacesLaws.{all-taken, more-taken, next-at, none-of, none-taken, none-there, with_front}
use Rattle.omf_linking.proofs.placing.segments_given.Goals as goal

pub loop-k-init : goal.loop-k-init
loop-k-init c = ap (λ xs. with_front xs (all_given 1 c.args.places.now)) c.new-segments.ensures.items ∙ none-taken (all_given 1 c.args.places.now)

pub returns-in_default : goal.returns-in_default
returns-in_default c =
    let ps = c.args.places.now in
    let k = c.loop-k.k in
    let next : drop k ps ≡ None ∷ drop (k + 1) ps = next-at ps k None c.loop-k-test.true ∙ ap (λ o. o ∷ drop (k + 1) ps) c.in_default.is in
    ap (or_missing c.args.number Segment) (sym c.loop-k.invariant ∙ none-there c.loop-k.segments.items (k + 1) (drop k ps) (drop (k + 1) ps) next)

pub loop-k-preserved : goal.loop-k-preserved
loop-k-preserved c =
    let ps = c.args.places.now in
    let k = c.loop-k.k in
    let next : drop k ps ≡ Some c.in-Some.place ∷ drop (k + 1) ps = next-at ps k None c.loop-k-test.true ∙ ap (λ o. o ∷ drop (k + 1) ps) c.in-Some.is in
    sym (more-taken c.loop-k.segments.items c.push.new.self.items c.in-Some.place (k + 1) (drop k ps) (drop (k + 1) ps) next c.in_ok-push.ensures.items) ∙ c.loop-k.invariant

pub returns : goal.returns
returns c =
    let ps = c.args.places.now in
    let k = c.loop-k.k in
    ap (or_missing c.args.number Segment) (sym c.loop-k.invariant ∙ all-taken c.loop-k.segments.items (k + 1) (drop k ps) (none-of ps k c.loop-k-test.false))
