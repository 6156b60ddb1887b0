use Rattle.std.proofs.Common.{ap}
use Rattle.omf_frame.specs.Framer.{Buffer}
use Rattle.omf_frame.specs.contracts.framer.Framer.{the_view}
use Rattle.omf_frame.proofs.Ahead.{passed_at}
use Rattle.omf_frame.proofs.framer.Framer.pass.Goals as goal

pub returns-clause-passed : goal.returns-clause-passed
returns-clause-passed c =
    passed_at (the_view c.self.inside).held c.args.self.now.held c.args.ahead.now c.record_len-size.result c.is_end-self-inside.result (ap (λ (b : Buffer). b.held) c.self.view_is) c.requires.between c.requires.sound c.record_len-size.ensures.same c.is_end-self-inside.ensures
