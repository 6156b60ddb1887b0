use Rattle.std.proofs.Common.{◌≡◌, ◌++◌, ◌∷◌, [], take, refl, ap, length, arith}
use Rattle.omf_frame.proofs.FaultLaws.{untrue}
use Rattle.omf_check.specs.Rows.{first_module, wrong_checksum}
use Rattle.omf_check.proofs.SoundRows.{sound, not_sound}
use Rattle.omf_check.proofs.edges.sound_bytes.Goals as goal

pub returns-clause-whole : goal.returns-clause-whole
returns-clause-whole c = sound first_module refl refl

pub returns-clause-inside : goal.returns-clause-inside
returns-clause-inside c = sound (take 36 first_module) refl refl

pub returns-clause-between : goal.returns-clause-between
returns-clause-between c = sound (take 43 first_module) refl refl

pub returns-clause-nothing : goal.returns-clause-nothing
returns-clause-nothing c = sound [] refl refl

pub returns-clause-before_checksum : goal.returns-clause-before_checksum
returns-clause-before_checksum c = sound (take 33 wrong_checksum) refl refl

pub returns-clause-checksum : goal.returns-clause-checksum
returns-clause-checksum c = not_sound (take 34 wrong_checksum) refl untrue

pub returns-clause-behind : goal.returns-clause-behind
returns-clause-behind c = not_sound (first_module ++ 0xDE ∷ []) refl (λ e. let h : 48 ≡ 49 = ap length e in omega (arith, h))
