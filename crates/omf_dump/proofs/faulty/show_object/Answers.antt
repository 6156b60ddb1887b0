use Rattle.omf_dump.proofs.UnjudgedLaws.{on_any, three_written}
use Rattle.omf_dump.proofs.faulty.show_object.Goals as goal

pub returns-clause-text : goal.returns-clause-text
returns-clause-text c = λ before h.
    three_written c.close_record.result _ _ _ _ _ _ _ c.in_ok-open_refusal.ensures (c.in_ok-put_fields_object.ensures.text before h) c.close_record.ensures

pub returns-clause-holds : goal.returns-clause-holds
returns-clause-holds c = λ before h. on_any c.close_record.result (c.in_ok-put_fields_object.ensures.holds before h)

pub returns-clause-lost : goal.returns-clause-lost
returns-clause-lost c = on_any c.close_record.result c.in_ok-put_fields_object.ensures.lost
