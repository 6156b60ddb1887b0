-- Commands without global arguments.
use Rattle.std.proofs.Common.{◌≡◌, Bool, true, false, refl}
use Rattle.std.specs.Prelude.{◌&&◌, not}

-- no argument is global: the third condition of a plain command in clap's definition
pub no_globals : (grouped external globals other : Bool) → (grouped && (not external && (not globals && other))) ≡ true → globals ≡ false
no_globals grouped external false other e = refl
no_globals false external true other e = absurd cc
no_globals true true true other e = absurd cc
no_globals true false true other e = absurd cc
