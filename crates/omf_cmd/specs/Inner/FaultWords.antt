-- The words of a fault's line, as the code keeps them.
use Rattle.std.specs.Prelude.{ℕ, List, decimal}
use Rattle.omf_cmd.specs.declared.printed.Word.{Word}
use Rattle.omf_cmd.specs.declared.printed.Word.TheVariants.{Text, Number}

-- a text as it is, a number in decimal
abbrev pub word_text : Word → List ℕ
word_text (Text text) = text.now
word_text (Number n) = decimal n
