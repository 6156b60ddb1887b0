use Rattle.omf_check.proofs.SoundBytes.{sound_unrefused, sound_verdict}
use Rattle.omf_check.proofs.laws.sound_bytes_are_decided.Goals as goal

pub returns : goal.returns
returns c = λ profile limits bytes small. (sound_unrefused profile limits bytes small, sound_verdict profile limits bytes small)
