use Rattle.omf_frame.specs.Framing.{present, raw_bytes}
use Rattle.omf_frame.proofs.FramingLaws.{present_raw, after_raw, front_raw}
use Rattle.omf_frame.proofs.StepLaws.{framed_of, of_framed, raw_framed, has_front, clean_steps, steps_clean}
use Rattle.omf_frame.proofs.laws.records_delimit.Goals as goal

pub returns : goal.returns
returns c = record {
  present = λ r rest h. present_raw r h rest;
  after = λ r rest h. after_raw r h rest;
  front = front_raw;
  clean = λ f r is known headed. steps_clean f (raw_bytes r) (of_framed f (raw_bytes r) (raw_framed f r is known headed));
  begins = λ f bytes fit e. has_front f bytes fit (framed_of f (present bytes) (clean_steps f (present bytes) e));
}
