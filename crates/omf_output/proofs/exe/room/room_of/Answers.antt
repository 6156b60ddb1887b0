use Rattle.std.proofs.Common.{◌+◌, ◌∙◌, ap, drop, max}
use Rattle.std.specs.Prelude.{fold}
use Rattle.std.specs.Option.{option_or}
use Rattle.omf_output.specs.Inner.Rooms.{Room, no_room, with_portion}
use Rattle.omf_output.specs.Exe.Members.{portions}
use Rattle.omf_output.proofs.RoomLaws.{ends-fold, length-summed, own-fold, room-more, stack-is, whole-room}
use Rattle.omf_placement.proofs.StepLaws.{next_item, none_left}
use Rattle.omf_output.proofs.exe.room.room_of.Goals as goal

pub loop-member-init : goal.loop-member-init
loop-member-init c = ap (λ r. fold with_portion r (portions c.args.members.now)) c.new-room.ensures

pub loop-member-preserved : goal.loop-member-preserved
loop-member-preserved c =
    let ms = c.args.members.now in
    let i = c.loop-member.member-index in
    let m = c.member-item.result in
    room-more m (drop (i + 1) ms) (drop i ms) c.loop-member.room c.with_member-room.result _ (next_item ms i m c.member-item.is c.loop-member-test.true) c.with_member-room.ensures c.loop-member.invariant

pub returns-clause-end : goal.returns-clause-end
returns-clause-end c =
    let ms = c.args.members.now in
    let whole = whole-room ms (drop c.loop-member.member-index ms) c.loop-member.room (none_left ms c.loop-member.member-index c.loop-member-test.false) c.loop-member.invariant in
    ap (λ (r : Room). r.end) whole ∙ ends-fold no_room (portions ms)

pub returns-clause-own_end : goal.returns-clause-own_end
returns-clause-own_end c =
    let ms = c.args.members.now in
    let whole = whole-room ms (drop c.loop-member.member-index ms) c.loop-member.room (none_left ms c.loop-member.member-index c.loop-member-test.false) c.loop-member.invariant in
    ap (λ (r : Room). r.own_end) whole ∙ own-fold no_room (portions ms)

pub returns-clause-stack : goal.returns-clause-stack
returns-clause-stack c =
    let ms = c.args.members.now in
    let whole = whole-room ms (drop c.loop-member.member-index ms) c.loop-member.room (none_left ms c.loop-member.member-index c.loop-member-test.false) c.loop-member.invariant in
    ap (λ (r : Room). option_or r.filled r.empty) whole ∙ stack-is (portions ms)

pub returns-clause-stack_len : goal.returns-clause-stack_len
returns-clause-stack_len c =
    let ms = c.args.members.now in
    let whole = whole-room ms (drop c.loop-member.member-index ms) c.loop-member.room (none_left ms c.loop-member.member-index c.loop-member-test.false) c.loop-member.invariant in
    ap (λ (r : Room). max 256 r.stack_len) whole ∙ ap (max 256) (length-summed (portions ms))
