use Rattle.std.proofs.Common.{◌≡◌, ◌-◌, ◌<◌, ◌++◌, ◌∙◌, ap, ℕ, List, length, arith}
use Rattle.std.proofs.lemmas.List.{length-drop}
use Rattle.std.proofs.lemmas.Bool.Decides.{nat_tests}
use Rattle.omf_output.specs.Rom.Cut.{room, pieces}
use Rattle.omf_output.specs.Rom.Motorola.{s_lines}
use Rattle.omf_output.proofs.Cuts.{went_on, all_written}
use Rattle.omf_output.proofs.Limits.{s_limit_low}
use Rattle.omf_output.proofs.rom.srec.push_run.Goals as goal

pub loop-rest-preserved : goal.loop-rest-preserved
loop-rest-preserved c =
    let some : 0 < length c.loop-rest.rest.now = grind (arith, nat_tests) in
    let left : length c.split_piece.result.1.now ≡ length c.loop-rest.rest.now - room c.loop-rest.address = ap length c.split_piece.ensures.back ∙ length-drop (room c.loop-rest.address) c.loop-rest.rest.now in
    let high = s_limit_low c.args.width in
    let whole : List (ℕ × List ℕ) → List ℕ = λ later. c.args.out.now.items ++ s_lines c.args.width (pieces c.args.run.now.address c.args.run.now.bytes.now ++ later) in
    record {
      low = omega (arith, high);
      below = λ h. omega (arith, left);
      lines = went_on (λ later. c.loop-rest.out.items ++ s_lines c.args.width later) (λ later. c.push_piece.new.out.items ++ s_lines c.args.width later) whole
          c.loop-rest.address c.loop-rest.rest.now _ _ some c.split_piece.ensures.front c.split_piece.ensures.back c.in_ok-push_piece.ensures c.loop-rest.invariant.lines;
    }

pub returns : goal.returns
returns c =
    let none : length c.loop-rest.rest.now ≡ 0 = grind (arith, nat_tests) in
    let whole : List (ℕ × List ℕ) → List ℕ = λ later. c.args.out.now.items ++ s_lines c.args.width (pieces c.args.run.now.address c.args.run.now.bytes.now ++ later) in
    all_written (λ later. c.loop-rest.out.items ++ s_lines c.args.width later) whole c.loop-rest.address c.loop-rest.rest.now none c.loop-rest.invariant.lines
