-- The module that a linker puts before the modules of a program for their order (this profile's rule).
use Rattle.std.specs.Prelude.{◌≡◌, ℕ, List, ◌∷◌, Option, Ok, Err}
use Rattle.omf_check.specs.Checking.{Decides}
use Rattle.omf_check.specs.Module.{Module, typed_modules}
use Rattle.omf_check.specs.declared.fault.CheckFault.TheVariants.{Refused}
use Rattle.omf_combining.specs.Classes.{IsClassOrderFault, class_order_records}
use Rattle.omf_layout.specs.Own.Order.{order_records}
use Rattle.omf_layout.specs.Own.OrderFault.{IsOrderFault}
use Rattle.omf_layout.specs.Own.Written.{written}
use Rattle.omf_aliases.specs.Aliases.{IsAskerOf, any_profile}
use Rattle.omf_exe.specs.Sharing.{with_added}
use Rattle.omf_exe.specs.declared.ordering.OrderingFault.{OrderingFault}
use Rattle.omf_exe.specs.declared.ordering.OrderingFault.TheVariants as ordering

-- A module is the one that puts these in DOS order: the checked module of its bytes.
abbrev pub IsOrderOf : List Module → Module → Type 0
IsOrderOf ms m = Decides any_profile (written (order_records (typed_modules ms))) (Ok m)

-- Modules, and before them the module of their order. That defines also the names for which they ask by aliases alone: it is made of these modules and one more,
-- which asks for them, and takes no part in the program.
pub record AreOrdered (ms all : List Module) : Type 0 where
  pub asker : Option Module
  pub asks : IsAskerOf ms asker
  pub order : Module
  pub made : IsOrderOf (with_added ms asker) order
  pub first : all ≡ order ∷ ms

-- Why modules are not put in DOS order: there is no module for it; or it is refused.
abbrev pub IsOrderingFault : List Module → OrderingFault → Type 0
IsOrderingFault ms (ordering.Order f) = IsOrderFault (typed_modules ms) f
IsOrderingFault ms (ordering.Refused why at) = Decides any_profile (written (order_records (typed_modules ms))) (Err (Refused why at))

-- A module is the one that makes these classes the first ones of modules; modules, and before them that module.
abbrev pub IsClassOrderOf : List (List ℕ) → List Module → Module → Type 0
IsClassOrderOf classes ms m = Decides any_profile (written (class_order_records classes (typed_modules ms))) (Ok m)

pub record AreInClassOrder (classes : List (List ℕ)) (ms all : List Module) : Type 0 where
  pub order : Module
  pub made : IsClassOrderOf classes ms order
  pub first : all ≡ order ∷ ms

-- Why there is no such module: it has too many segments; or it is refused.
abbrev pub IsClassOrderingFault : List (List ℕ) → List Module → OrderingFault → Type 0
IsClassOrderingFault classes ms (ordering.Order f) = IsClassOrderFault classes (typed_modules ms) f
IsClassOrderingFault classes ms (ordering.Refused why at) = Decides any_profile (written (class_order_records classes (typed_modules ms))) (Err (Refused why at))
