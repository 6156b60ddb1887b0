-- What is left of modules (laws about keys), each law the contract of a function of the same name.
use Rattle.std.specs.Prelude.{ℕ, List}
use Rattle.omf_check.specs.Module.{Module}
use Rattle.omf_trimming.specs.Choice.{AreChosen}
use Rattle.omf_trimming.specs.Without.{IsWithout}
use Rattle.omf_trimming.specs.declared.without.LeftPublics.TheVariants.{Nameless}
use Rattle.omf_keys.specs.Keys.{HaveEqualKeys, HaveOneKey}

-- Without the same segments modules of one key have one key.
abbrev pub WithoutByKeys : Type 0
WithoutByKeys = (gone : List ℕ) (m n left other : Module) → HaveOneKey m n → IsWithout Nameless gone m left → IsWithout Nameless gone n other → HaveOneKey left other

-- After the choice among COMDATs modules of equal keys have equal keys.
abbrev pub ChosenByKeys : Type 0
ChosenByKeys = (ms ns chosen others : List Module) → HaveEqualKeys ms ns → AreChosen ms chosen → AreChosen ns others → HaveEqualKeys chosen others
