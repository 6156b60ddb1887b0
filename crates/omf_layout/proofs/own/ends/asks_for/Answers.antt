use Rattle.std.proofs.Common.{◌≡◌, ◌+◌, true, false, rules}
use Rattle.std.specs.Prelude.{Some, bytes_eq}
use Rattle.omf_check.specs.Module.{records_in}
use Rattle.omf_check.specs.Tables.{externals, entry}
use Rattle.omf_check.specs.WellFormed.{recs}
use Rattle.omf_layout.proofs.OrderModule.{asked-here, asked-later}
use Rattle.omf_layout.proofs.own.ends.asks_for.Goals as goal

pub returns-then-eq : goal.returns-then-eq
returns-then-eq c =
    let m = recs (records_in c.args.«module».now.bytes) in
    let j = c.loop-before.before in
    let there : entry (externals m) (j + 1) ≡ Some c.in-Some.external = search rules in
    let here : bytes_eq c.in-Some.external c.args.name.now ≡ true = search rules in
    asked-here m j c.in-Some.external c.args.name.now there here c.loop-before.invariant.same

pub loop-before-preserved : goal.loop-before-preserved
loop-before-preserved c =
    let m = recs (records_in c.args.«module».now.bytes) in
    let j = c.loop-before.before in
    let there : entry (externals m) (j + 1) ≡ Some c.in-Some.external = search rules in
    let other : bytes_eq c.in-Some.external c.args.name.now ≡ false = search rules in
    record {
      same = asked-later m j c.in-Some.external c.args.name.now there other c.loop-before.invariant.same;
      end = c.loop-before.invariant.end;
    }
