use Rattle.std.proofs.Common.{rules, refl}
use Rattle.omf_finding.proofs.StrayLaws.{apart-from}
use Rattle.omf_finding.proofs.straying.elsewhere.Goals as goal

pub returns : goal.returns
returns c = record {
  offset_is = refl;
  external_is = refl;
  wanted_is = search rules;
  there_is = search rules;
  apart = apart-from c.args.wanted.now c.args.targets.now c.any_among.result c.any_among.ensures c.if-any_among.false;
}
