use Rattle.std.proofs.Common.{ap, sym, arith}
use Rattle.std.specs.Prelude.{option_map}
use Rattle.omf_layout.specs.Several.Laying.{alone_laid, lying_there}
use Rattle.omf_layout.proofs.SeveralLaws.LayingLaws.{next-laid, no-room}
use Rattle.omf_layout.proofs.several.laying.lay_alone.Goals as goal

pub returns-in_default-clause-answer : goal.returns-in_default-clause-answer
returns-in_default-clause-answer c =
    no-room (alone_laid c.args.options.frames) c.loop-portion.free c.loop-portion.portion-index c.args.portions.now _ c.loop-portion-test.true c.loop-portion.lying.items _ c.loop-portion.invariant.same
    (ap (option_map (lying_there _)) (sym c.in_default.ensures.value))

pub loop-portion-preserved : goal.loop-portion-preserved
loop-portion-preserved c = record {
  same = next-laid (alone_laid c.args.options.frames) c.loop-portion.free c.loop-portion.portion-index c.args.portions.now _ c.loop-portion-test.true c.loop-portion.lying.items _ c.loop-portion.invariant.same
      _ c.in-Some.spot.free c.push.new.self.items (ap (option_map (lying_there _)) (sym c.in-Some.ensures.value)) c.in_ok-push.ensures.items;
  low = c.in-Some.ensures.low;
  from = omega (arith, c.in-Some.ensures.high, c.loop-portion.invariant.from);
}
