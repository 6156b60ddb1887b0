use Rattle.std.proofs.Common.{sym, subst}
use Rattle.omf_find.specs.Nearly.{AreNearlyIf}
use Rattle.omf_find.specs.Output.{near_of}
use Rattle.omf_find.proofs.host.text_of.Goals as goal

pub returns : goal.returns
returns c = (
  c.deref.result.now,
  subst (AreNearlyIf (near_of c.args.asked.now.output c.args.asked.now.near) c.args.asked.now.least c.args.loaded.now.program c.args.source.gathered.now.modules.items) (sym c.deref.ensures.value) c.in_ok-nearly.ensures,
  c.in_ok-text.ensures,
)
