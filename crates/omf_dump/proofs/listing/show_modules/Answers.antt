use Rattle.std.proofs.Common.{◌≡◌, true, false, arith}
use Rattle.omf_frame.specs.Framing.{is_header}
use Rattle.omf_dump.specs.Later.{front_kind}
use Rattle.omf_dump.proofs.FurtherLaws.{all_done, first_done, one_done, some}
use Rattle.omf_dump.proofs.listing.show_modules.Goals as goal

pub loop-rest-init : goal.loop-rest-init
loop-rest-init g c = record {
  done = first_done _ _ _ _ _ _ _ _ c.after_module-rest.ensures.value c.first_position.ensures c.in_ok-is_refused.ensures;
  few = let within = c.after_module-rest.ensures.within in omega (arith, within);
}

pub loop-rest-smaller : goal.loop-rest-smaller
loop-rest-smaller g c =
    let headed : is_header (front_kind c.loop-rest.rest.now) ≡ true = cc in
    c.after_module-rest-in-loop-rest.ensures.shorter (some c.loop-rest.rest.now headed)

pub loop-rest-preserved : goal.loop-rest-preserved
loop-rest-preserved g c =
    let headed : is_header (front_kind c.loop-rest.rest.now) ≡ true = cc in
    let shorter = c.after_module-rest-in-loop-rest.ensures.shorter (some c.loop-rest.rest.now headed) in
    let few = c.loop-rest.invariant.few in
    record {
      done = one_done _ _ _ c.loop-rest.rest.now _ c.loop-rest.number c.loop-rest.is_refused _ _ _ _ _ c.loop-rest.invariant.done headed c.in_ok-is_faulty.ensures c.after_module-rest-in-loop-rest.ensures.value c.is_either-is_refused.ensures;
      few = omega (arith, few, shorter);
    }

pub returns : goal.returns
returns g c =
    let none : is_header (front_kind c.loop-rest.rest.now) ≡ false = cc in
    all_done _ _ _ c.loop-rest.rest.now c.loop-rest.number c.loop-rest.is_refused _ _ c.loop-rest.invariant.done none
