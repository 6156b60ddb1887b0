-- The memory that segments take, one segment after the other.
use Rattle.std.specs.Prelude.{ℕ, ◌+◌, ◌-◌, ◌&&◌, max, min, nat_lt, not, Option, Some, None, if◌then◌else◌}
use Rattle.omf_output.specs.Exe.Members.{Portion, has_byte, of_parts}
use Rattle.omf_output.specs.declared.exe.room.Stack.{Stack}

-- The first address after the segments so far; after those that are no part of the stack; the stack's segments that have a byte, and the empty ones; and
-- the bytes of its segments together, at most 65,536.
pub record Room : Type 0 where
  pub end : ℕ
  pub own_end : ℕ
  pub filled : Option Stack
  pub empty : Option Stack
  pub stack_len : ℕ

abbrev pub no_room : Room
no_room = record { end = 0; own_end = 0; filled = None; empty = None; stack_len = 0 }

abbrev pub with_stack : Option Stack → Portion → Stack
with_stack None p = of_parts p p.end
with_stack (Some s) p = if nat_lt p.place.address s.first then of_parts p (max s.end p.end) else record s { end = max s.end p.end }

abbrev pub with_portion : Room → Portion → Room
with_portion room p = record {
  end = max room.end p.end;
  own_end = if p.is_stack then room.own_end else max room.own_end p.end;
  filled = if p.is_stack && has_byte p then Some (with_stack room.filled p) else room.filled;
  empty = if p.is_stack && not (has_byte p) then Some (with_stack room.empty p) else room.empty;
  stack_len = if p.is_stack then min (room.stack_len + (p.end - p.place.address)) 65536 else room.stack_len;
}
