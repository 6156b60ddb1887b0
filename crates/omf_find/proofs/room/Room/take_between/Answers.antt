use Rattle.std.proofs.Common.{◌≡◌, ◌∙◌, ◌<◌, ◌≤◌, List, ap, get_or, length, subst, sym, arith}
use Rattle.std.proofs.lemmas.List.{get_or_default}
use Rattle.omf_find.specs.declared.gaps.Gap.{Gap}
use Rattle.omf_find.proofs.RoomLaws.{less_in, room_in}
use Rattle.omf_find.proofs.room.Room.take_between.Goals as goal

pub returns-in-Some-clause-room : goal.returns-in-Some-clause-room
returns-in-Some-clause-room c =
    let r = c.args.self.now in
    let n = c.in-Some.gap in
    let h = c.in-Some.ensures in
    let low : n < length r.gaps.items = subst (λ (gs : List Gap). n < length gs) c.deref-2.ensures.value h.1 in
    let is : h.0 ≡ get_or r.gaps.items n h.0 = h.2 ∙ ap (λ (gs : List Gap). get_or gs n h.0) c.deref-2.ensures.value in
    room_in r n h.0 is low c.args.from c.args.size c.in-Some.address h.3

pub returns-in-Some-clause-left : goal.returns-in-Some-clause-left
returns-in-Some-clause-left c =
    let r = c.args.self.now in
    let n = c.in-Some.gap in
    let h = c.in-Some.ensures in
    let low : n < length r.gaps.items = subst (λ (gs : List Gap). n < length gs) c.deref-2.ensures.value h.1 in
    let is : h.0 ≡ get_or r.gaps.items n h.0 = h.2 ∙ ap (λ (gs : List Gap). get_or gs n h.0) c.deref-2.ensures.value in
    let own : c.index_mut.result.now ≡ h.0 = c.index_mut.ensures.value ∙ get_or_default r.gaps.items n c.index_mut.result.now h.0 low ∙ sym is in
    let cut : Gap = record { first = c.saturating_add-in-Some.result; end = c.index_mut.result.now.end } in
    let first : h.0.first ≤ c.saturating_add-in-Some.result = omega (arith, h.3.after, h.3.place.inside, c.saturating_add-in-Some.ensures, c.from.ensures) in
    let last : c.index_mut.result.now.end ≤ h.0.end = omega (arith, ap (λ (g : Gap). g.end) own) in
    λ x f. less_in r n h.0 is low cut x first last f
