-- Free addresses (this profile's rule).
use Rattle.std.specs.Prelude.{ℕ, ◌+◌, ◌-◌, ◌*◌, ◌/◌, ◌^◌, Option, Some, None, ◌&&◌, nat_le, nat_lt, if◌then◌else◌}
use Rattle.omf_placement.specs.declared.frame.Frame.{Frame}
use Rattle.omf_layout.specs.declared.options.Frames.{Frames}
use Rattle.omf_layout.specs.declared.options.Frames.TheVariants.{Real, Flat}

-- Real mode has 2^20 addresses, a flat frame 2^32.
abbrev pub limit : Frames → ℕ
limit Real = 2 ^ 20
limit (Flat selector) = 2 ^ 32

-- The frame of an address: in real mode it begins at the address's paragraph.
abbrev pub frame_at : Frames → ℕ → Frame
frame_at Real address = record { base = 16 * (address / 16); selector = address / 16 }
frame_at (Flat selector) address = record { base = 0; selector = selector }

-- The address whose frame an external takes: the base if it is less than 64 KB above the base's paragraph, else its own.
abbrev pub anchor : ℕ → ℕ → ℕ
anchor base address = if nat_lt (address - base / 16 * 16) (2 ^ 16) then base else address

-- The lowest multiple of an alignment that is at least n.
abbrev pub next_multiple : ℕ → ℕ → ℕ
next_multiple alignment n = (n + (alignment - 1)) / alignment * alignment

-- The lowest aligned free address, if it is below the limit and `size` bytes from there end no higher than the limit.
abbrev pub address_from : Frames → ℕ → ℕ → ℕ → Option ℕ
address_from frames alignment free size = let address = next_multiple alignment free in
    if nat_lt address (limit frames) && nat_le (address + size) (limit frames) then Some address else None
