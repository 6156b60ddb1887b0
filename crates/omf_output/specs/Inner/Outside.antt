-- The first address of runs that a form does not have, and the text of runs in a form, computed.
use Rattle.std.specs.Prelude.{ℕ, ◌+◌, List, [], ◌∷◌, length, max, nat_lt, Option, Some, None, if◌then◌else◌}
use Rattle.std.specs.Option.{option_or}
use Rattle.omf_output.specs.declared.rom.form.Form.{Form}
use Rattle.omf_output.specs.declared.rom.form.Form.TheVariants as form
use Rattle.omf_output.specs.declared.rom.run.Run.{Run}
use Rattle.omf_output.specs.Rom.Binary.{binary}
use Rattle.omf_output.specs.Rom.IntelHex.{hex_text}
use Rattle.omf_output.specs.Rom.Motorola.{s_text}

-- the first address of a run that is not between two others
abbrev pub outside_of : ℕ → ℕ → Run → Option ℕ
outside_of from end r =
    if nat_lt r.address from then Some r.address else (if nat_lt end (r.address + length r.bytes.now) then Some (max r.address end) else None)

-- that of the first run with one
abbrev pub first_outside : ℕ → ℕ → List Run → Option ℕ
first_outside from end [] = None
first_outside from end (r ∷ runs) = option_or (outside_of from end r) (first_outside from end runs)

-- the text of runs
abbrev pub text_of : Form → List Run → List ℕ
text_of (form.Binary c) runs = binary c.base (c.base + c.size) c.fill runs
text_of (form.Hex base) runs = hex_text base runs
text_of (form.SRecords width) runs = s_text width 0 runs
