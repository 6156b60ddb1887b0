use Rattle.omf_finding.proofs.chaining.Tried.refers.Goals as goal

pub returns : goal.returns
returns c = λ yes. record {
  m = c.in-Some.«module».now;
  f = c.in-Some.found.now;
  module_is = c.in-Some.ensures.some.0;
  found_is = c.in-Some.ensures.some.1;
  other = c.in-Some-draft.target.now;
  g = c.in-Some-draft.there.now;
  other_is = c.in-Some-draft.ensures.some.0;
  there_is = c.in-Some-draft.ensures.some.1;
  refers = c.refers.ensures yes;
}
