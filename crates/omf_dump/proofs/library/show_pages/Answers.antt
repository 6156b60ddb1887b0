use Rattle.std.proofs.Common.{◌≡◌, length, length-drop, true, false, ap, subst, arith}
use Rattle.omf_frame.specs.Framing.{is_header}
use Rattle.omf_dump.specs.Later.{front_kind}
use Rattle.omf_dump.proofs.LibraryLaws.{end_turn, header_inside, member_turn, none_shown}
use Rattle.omf_dump.proofs.library.show_pages.Goals as goal

pub loop-writer-init : goal.loop-writer-init
loop-writer-init g c = record {
  shown = rw c.requires.page (none_shown c.args.mode c.args.bytes.now (g.K.Sink.seen c.args.writer.now).bytes);
  rest = c.after-rest.ensures;
  few = omega arith;
}

pub loop-writer-smaller : goal.loop-writer-smaller
loop-writer-smaller g c =
    let rest = c.loop-writer.invariant.rest in
    let headed : is_header (front_kind c.loop-writer.rest.now) ≡ true = cc in
    let some = header_inside c.loop-writer.at c.args.bytes.now (subst (λ r. is_header (front_kind r) ≡ true) rest headed) in
    let further = c.next_at-at.ensures.further in
    let same = ap length rest in
    let left = length-drop c.loop-writer.at c.args.bytes.now in
    omega (arith, some, further, same, left)

pub loop-writer-preserved : goal.loop-writer-preserved
loop-writer-preserved g c =
    let headed : is_header (front_kind c.loop-writer.rest.now) ≡ true = cc in
    let some = header_inside c.loop-writer.at c.args.bytes.now (subst (λ r. is_header (front_kind r) ≡ true) c.loop-writer.invariant.rest headed) in
    let further = c.next_at-at.ensures.further in
    let same = ap length c.loop-writer.invariant.rest in
    let left = length-drop c.loop-writer.at c.args.bytes.now in
    record {
      shown = member_turn c.args.mode c.args.bytes.now c.loop-writer.rest.now c.args.page c.loop-writer.number c.loop-writer.at _ _ c.loop-writer.is_refused _ _ _ _ _ c.loop-writer.invariant.shown c.requires.page c.loop-writer.invariant.rest headed c.spot_at.ensures c.in_ok-is_faulty.ensures c.next_at-at.ensures.value c.is_either-is_refused.ensures;
      rest = c.after-rest-in-loop-writer.ensures;
      few = let few = c.loop-writer.invariant.few in omega (arith, few, some, further, same, left);
    }

pub returns : goal.returns
returns g c =
    let none : is_header (front_kind c.loop-writer.rest.now) ≡ false = cc in
    end_turn c.args.mode c.args.bytes.now c.loop-writer.rest.now c.args.page c.loop-writer.number c.loop-writer.at _ c.loop-writer.is_refused _ _ _ _ _ c.loop-writer.invariant.shown c.requires.page c.loop-writer.invariant.rest none c.spot_at-2.ensures c.in_ok-is_faulty-2.ensures c.is_either.ensures
