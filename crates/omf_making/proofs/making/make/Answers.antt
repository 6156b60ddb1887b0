use Rattle.omf_making.proofs.making.make.Goals as goal

pub returns-in-Ok-false-clause-fault : goal.returns-in-Ok-false-clause-fault
returns-in-Ok-false-clause-fault c = c.fault_of_parts.ensures c.args.is_case_sensitive
