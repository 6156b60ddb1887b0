-- What the arguments of `omf-link` ask for (a rule of this profile), stated over clap's own definitions.
use Rattle.std.specs.Prelude.{◌≡◌, ◌⊎◌, List, [], Option, Some, None, IfSome, codes}
use Rattle.clap.specs.Words.{App, Row, Text, fault_of, new_app, subcommand_of, with_subcommand}
use Rattle.omf_drafting.specs.declared.options.AskedOptions.{AskedOptions}
use Rattle.omf_drafting.specs.Options.{AreNamed, NameOnly, with_options}
use Rattle.omf_linker.specs.Link.FormWords.{IsFormNamed, with_addresses, with_chip}
use Rattle.omf_linker.specs.declared.link.words.Task.{Task}
use Rattle.omf_linker.specs.declared.link.words.Task.TheVariants as task

-- The program as a command of clap: its subcommands. Those of files for chips have options of their own, the last has the layout options.
abbrev pub link_app : App
link_app =
    with_subcommand (with_subcommand (with_subcommand (with_subcommand (with_subcommand (with_subcommand (new_app (codes "omf-link")) (new_app (codes "image")).top) (new_app (codes "map")).top)
    (with_chip (new_app (codes "bin"))).top) (with_addresses (new_app (codes "hex"))).top) (with_addresses (new_app (codes "srec"))).top) (with_options (new_app (codes "draft"))).top

-- A subcommand and the arguments after it, as clap parsed them, give a task. `named` relates these arguments to the options.
abbrev pub NamesBy : (List Row → AskedOptions → Type 0) → Text → List Row → Task → Type 0
NamesBy named name rows task.Image = name ≡ codes "image"
NamesBy named name rows (task.Rom f) = IsFormNamed name rows f
NamesBy named name rows task.Map = name ≡ codes "map"
NamesBy named name rows (task.Draft o) = (name ≡ codes "draft") × named rows o

-- The same, with exactly these options.
abbrev pub IsTask : Text → List Row → Task → Type 0
IsTask = NamesBy AreNamed

-- What clap parsed gives a task.
abbrev pub IsNamedIn : (List Row → AskedOptions → Type 0) → Option (Text × List Row) → Task → Type 0
IsNamedIn named parse asked = (name : Text) × (rows : List Row) × (parse ≡ Some (name, rows)) × NamesBy named name rows asked

-- The arguments ask for a task: clap finds no fault in them, and the subcommand that it parsed gives the task.
pub record AsksBy (named : List Row → AskedOptions → Type 0) (words : List Text) (asked : Task) : Type 0 where
  pub name : Text
  pub rows : List Row
  pub sound : fault_of link_app words ≡ []
  pub parsed : subcommand_of link_app words ≡ Some (name, rows)
  pub names : NamesBy named name rows asked

-- The arguments ask for this task.
abbrev pub IsAsked : List Text → Task → Type 0
IsAsked = AsksBy AreNamed

-- They ask for no other task.
abbrev pub IsOnlyAsked : List Text → Task → Type 0
IsOnlyAsked = AsksBy NameOnly

-- The task that the program finds in its arguments. None: they are not understood.
pub record IsFound (words : List Text) (found : Option Task) : Type 0 where
  pub asks : (asked : Task) → IsAsked words asked → found ≡ Some asked
  -- A task is found only if the arguments ask for it and no other.
  pub only : IfSome found (IsOnlyAsked words)
  -- Without a subcommand no task is found.
  pub none : subcommand_of link_app words ≡ None → found ≡ None
  -- A task is found only if clap finds no fault.
  pub refused : (found ≡ None) ⊎ (fault_of link_app words ≡ [])
