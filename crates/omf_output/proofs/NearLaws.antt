-- Near references into another frame.
use Rattle.std.proofs.Common.{◌≡◌, ℕ, ◌+◌, ◌<◌, ◌≤◌, List, [], ◌∷◌, ◌++◌, Bool, true, false, drop, get_or, length, refl, sym, ◌∙◌, ap, ap₂, arith}
use Rattle.std.specs.Prelude.{◌||◌, Option, Some, None, option_to_list}
use Rattle.std.specs.List.{list_any}
use Rattle.std.specs.Option.{option_or}
use Rattle.omf_check.specs.Module.{Module}
use Rattle.omf_placement.specs.Derive.{PlacedModule}
use Rattle.omf_placement.specs.Placement.{Places}
use Rattle.omf_output.specs.declared.near.Stray.{Stray}
use Rattle.omf_output.specs.Near.{near_from, stray_in}
use Rattle.omf_placement.proofs.StepLaws.{next_item, none_left}

-- The modules that are left, with one more and with none.
module _ (all : List PlacedModule) (j : ℕ) (ms : List Module) (pls : List Places) where
  pub next-left : (m : Module) (pl : Places) → m ≡ get_or ms j m → pl ≡ get_or pls j pl → j < length ms → length pls ≡ length ms
      → near_from all j (drop j ms) (drop j pls) ≡ option_or (stray_in all j m pl) (near_from all (j + 1) (drop (j + 1) ms) (drop (j + 1) pls))
  next-left m pl e f low same = ap₂ (near_from all j) (next_item ms j m e low) (next_item pls j pl f (omega (arith, low, same)))

  pub found-left : (m : Module) (pl : Places) (s : Stray) → m ≡ get_or ms j m → pl ≡ get_or pls j pl → j < length ms → length pls ≡ length ms → stray_in all j m pl ≡ Some s
      → Some s ≡ near_from all j (drop j ms) (drop j pls)
  found-left m pl s e f low same g = sym (next-left m pl e f low same ∙ ap (λ o. option_or o (near_from all (j + 1) (drop (j + 1) ms) (drop (j + 1) pls))) g)

  pub later-left : (m : Module) (pl : Places) → m ≡ get_or ms j m → pl ≡ get_or pls j pl → j < length ms → length pls ≡ length ms → stray_in all j m pl ≡ None
      → near_from all (j + 1) (drop (j + 1) ms) (drop (j + 1) pls) ≡ near_from all j (drop j ms) (drop j pls)
  later-left m pl e f low same g = sym (next-left m pl e f low same ∙ ap (λ o. option_or o (near_from all (j + 1) (drop (j + 1) ms) (drop (j + 1) pls))) g)

  pub nothing-left : length ms ≤ j → None ≡ near_from all j (drop j ms) (drop j pls)
  nothing-left high = sym (ap (λ l. near_from all j l (drop j pls)) (none_left ms j high))
