use Rattle.std.proofs.Common.{refl, rules}
use Rattle.omf_find.proofs.loading.load_mz.Goals as goal

pub returns-in_ok-mz_program-in-Ok-clause-ok : goal.returns-in_ok-mz_program-in-Ok-clause-ok
returns-in_ok-mz_program-in-Ok-clause-ok c = record {
  m = c.in-Ok.mz;
  read = c.in-Ok.ensures.ok;
  program = c.in_ok-mz_program-in-Ok.ensures;
  kind = refl;
  packer = c.packer_of.ensures;
  alone = search rules;
}
