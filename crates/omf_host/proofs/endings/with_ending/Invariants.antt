use Rattle.std.proofs.Common.{◌≡◌, ℕ, List, drop, map, true}
use Rattle.omf_host.specs.Endings.{is_with}
use Rattle.omf_host.proofs.endings.with_ending.Given as goal

-- what is found with the endings that are left is found with all
abbrev pub invariant-loop-ending : goal.invariant-loop-ending
invariant-loop-ending l = (p : List ℕ) → is_with l.front l.name (map (λ e. e.now) (drop l.ending-index l.endings)) p ≡ true → is_with l.front l.name (map (λ e. e.now) l.endings) p ≡ true
