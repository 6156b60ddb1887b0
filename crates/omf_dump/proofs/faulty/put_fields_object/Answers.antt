use Rattle.omf_dump.proofs.UnjudgedLaws.{four_written, on_any}
use Rattle.omf_dump.proofs.faulty.put_fields_object.Goals as goal

pub returns-clause-text : goal.returns-clause-text
returns-clause-text c = λ before h.
    four_written c.close_fields.result _ _ _ _ _ _ _ _ _ c.in_ok-open_fields.ensures c.in_ok-put_checksum_if.ensures (c.in_ok-put_unjudged_body.ensures.text before h) c.close_fields.ensures

pub returns-clause-lost : goal.returns-clause-lost
returns-clause-lost c = on_any c.close_fields.result c.in_ok-put_unjudged_body.ensures.lost

pub returns-clause-holds : goal.returns-clause-holds
returns-clause-holds c = λ before h. on_any c.close_fields.result (c.in_ok-put_unjudged_body.ensures.holds before h)
