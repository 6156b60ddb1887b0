use Rattle.omf_making.proofs.making.sure.Goals as goal

pub returns : goal.returns
returns c = c.fault_of_parts.ensures c.args.is_case_sensitive
