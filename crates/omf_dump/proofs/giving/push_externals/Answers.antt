use Rattle.std.proofs.Common.{◌<◌, List, ℕ, length, ap, ◌∙◌, arith}
use Rattle.std.proofs.lemmas.Bool.Decides.{nat_tests}
use Rattle.omf_dump.specs.Gives.{external_if}
use Rattle.omf_dump.proofs.GivesLaws.{names_none, names_next}
use Rattle.omf_dump.proofs.giving.push_externals.Goals as goal

pub loop-left-preserved : goal.loop-left-preserved
loop-left-preserved c =
    let some : 0 < length c.loop-left.left.now = grind (arith, nat_tests) in
    let was = c.loop-left.invariant in
    let more = c.in_ok-push_next.ensures in
    let left : List ℕ = c.loop-left.left.now in
    record {
      names = more.names ∙ was.names;
      segments = more.segments ∙ was.segments;
      groups = more.groups ∙ was.groups;
      externals = names_next c.args.tables.now.names c.args.width c.args.kind left c.next_item-left.result.now c.loop-left.tables.externals c.push_next.new.tables.externals (external_if c.loop-left.tables.names c.args.width c.args.kind left)
          some c.next_item-left.ensures (ap (λ (ns : List (List ℕ)). external_if ns c.args.width c.args.kind left) was.names) more.externals ∙ was.externals;
    }

pub returns-clause-externals : goal.returns-clause-externals
returns-clause-externals c = names_none c.args.tables.now.names c.args.width c.args.kind c.loop-left.left.now c.loop-left.tables.externals _ (grind (arith, nat_tests)) c.loop-left.invariant.externals
