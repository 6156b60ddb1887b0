use Rattle.omf_records.specs.Inner.Meets.{whole_meets}
use Rattle.omf_lowering.specs.Inner.Readers.{cextdef_whole, bakpat_whole, comdat_whole, linnum_whole, linsym_whole, nbkpat_whole}
use Rattle.omf_lowering.proofs.laws.readings_meet_layouts.Goals as goal

pub returns : goal.returns
returns c = record {
  cextdef = λ body h. whole_meets cextdef_whole 3 body h;
  bakpat = λ wide body h. whole_meets (bakpat_whole wide) 3 body h;
  comdat = λ wide body h. whole_meets (comdat_whole wide) 3 body h;
  nbkpat = λ wide body h. whole_meets (nbkpat_whole wide) 3 body h;
  linsym = λ body h. whole_meets linsym_whole 3 body h;
  linnum = λ wide body h. whole_meets (linnum_whole wide) 3 body h;
}
