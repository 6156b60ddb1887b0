use Rattle.std.proofs.Common.{◌≡◌, length, length-drop, true, false, ap, subst, arith}
use Rattle.omf_frame.specs.Framing.{is_header}
use Rattle.omf_dump.specs.Later.{front_kind}
use Rattle.omf_dump.proofs.FileLaws.{first_read, left_turn, next_turn}
use Rattle.omf_dump.proofs.LibraryLaws.{header_inside}
use Rattle.omf_dump.proofs.file.show_file.Goals as goal

pub loop-next-init : goal.loop-next-init
loop-next-init g c = record {
  shown = first_read c.args.mode c.args.bytes.now _ _ _ _ c.first_end-at.ensures.value c.in_ok-is_refused.ensures;
  rest = c.after-rest.ensures;
  few = omega arith;
  inside = c.first_end-at.ensures.inside;
}

pub loop-next-smaller : goal.loop-next-smaller
loop-next-smaller g c =
    let rest = c.loop-next.invariant.rest in
    let headed : is_header (front_kind c.loop-next.rest.now) ≡ true = cc in
    let some = header_inside c.loop-next.at c.args.bytes.now (subst (λ r. is_header (front_kind r) ≡ true) rest headed) in
    let further = c.end_at-at.ensures.further in
    let same = ap length rest in
    let left = length-drop c.loop-next.at c.args.bytes.now in
    omega (arith, some, further, same, left)

pub loop-next-preserved : goal.loop-next-preserved
loop-next-preserved g c =
    let headed : is_header (front_kind c.loop-next.rest.now) ≡ true = cc in
    let some = header_inside c.loop-next.at c.args.bytes.now (subst (λ r. is_header (front_kind r) ≡ true) c.loop-next.invariant.rest headed) in
    let further = c.end_at-at.ensures.further in
    let same = ap length c.loop-next.invariant.rest in
    let left = length-drop c.loop-next.at c.args.bytes.now in
    record {
      shown = next_turn c.args.mode c.args.bytes.now c.loop-next.rest.now c.loop-next.number c.loop-next.at _ c.loop-next.is_refused _ _ _ _ _ c.loop-next.invariant.shown c.loop-next.invariant.rest headed c.in_ok-is_faulty.ensures
          c.end_at-at.ensures.value c.is_either-is_refused.ensures;
      rest = c.after-rest-in-loop-next.ensures;
      few = let few = c.loop-next.invariant.few in omega (arith, few, some, further, same, left);
      inside = c.end_at-at.ensures.inside;
    }

pub returns : goal.returns
returns g c =
    let none : is_header (front_kind c.loop-next.rest.now) ≡ false = cc in
    left_turn c.args.mode c.args.bytes.now c.loop-next.rest.now c.loop-next.number c.loop-next.at c.loop-next.is_refused _ _ _ c.loop-next.invariant.shown c.loop-next.invariant.rest none c.in_ok-show_left.ensures
