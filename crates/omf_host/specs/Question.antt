-- What a program shows of itself (a format of this profile).
use Rattle.std.specs.Prelude.{ℕ, List, [], ◌∷◌, ◌++◌, Option, Some, None, codes, bytes_eq, if◌then◌else◌}
use Rattle.omf_host.specs.declared.question.Question.{Question}
use Rattle.omf_host.specs.declared.question.Question.TheVariants as question

-- The question that an argument is.
abbrev pub question_of : List ℕ → Option Question
question_of argument = if bytes_eq argument (codes "--help") then Some question.Usage else if bytes_eq argument (codes "-h") then Some question.Usage else if bytes_eq argument (codes "--version") then Some question.Version else None

-- The question that is the only argument, if it is one.
abbrev pub question_in : List (List ℕ) → Option Question
question_in (argument ∷ []) = question_of argument
question_in _ = None

-- The question that the only argument of a program with tasks is, if it is one: there the word help is one too.
abbrev pub first_question : List ℕ → Option Question
first_question argument = if bytes_eq argument (codes "help") then Some question.Usage else question_of argument

-- The question to a program with tasks: the only argument, or the one after a task.
abbrev pub question_with_tasks : List (List ℕ) → Option Question
question_with_tasks (argument ∷ []) = first_question argument
question_with_tasks (task ∷ argument ∷ []) = question_of argument
question_with_tasks _ = None

-- The line of a version: the program's name and the version.
abbrev pub version_line : List ℕ → List ℕ
version_line name = name ++ (codes " 1.0.0" ++ 10 ∷ [])

-- The answer: the usage, or the line of the version.
abbrev pub answer_text : Question → List ℕ → List ℕ → List ℕ
answer_text question.Usage name usage = usage
answer_text question.Version name usage = version_line name
