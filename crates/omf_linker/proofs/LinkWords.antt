-- What clap parses of the arguments of `omf-link`.
use Rattle.std.proofs.Common.{◌≡◌, List, [], ◌∷◌, Option, Some, None, option_map, true, false, refl, sym, ap, ◌∙◌, codes}
use Rattle.std.specs.Prelude.{IfSome}
use Rattle.std.specs.Str.{bytes_eq}
use Rattle.clap.specs.Words.{Kinds, Row, Text, fault_of, is_simple_and_free, subcommand_of}
use Rattle.clap.specs.declared.error.kind.ErrorKind.{ErrorKind}
use Rattle.clap.proofs.OnLiterals.{clap_on_literals}
use Rattle.omf_drafting.specs.declared.options.AskedOptions.{AskedOptions}
use Rattle.omf_drafting.specs.Options.{AreNamed, NameOnly}
use Rattle.omf_output.specs.declared.rom.form.Form.{Form}
use Rattle.omf_linker.specs.Link.FormWords.{IsFormNamed}
use Rattle.omf_linker.specs.Link.Words.{IsNamedIn, IsOnlyAsked, IsTask, NamesBy, link_app}
use Rattle.omf_linker.specs.declared.link.words.Task.{Task}
use Rattle.omf_linker.specs.declared.link.words.Task.TheVariants as task

pub is-free : is_simple_and_free link_app ≡ true
unfolding clap_on_literals
is-free = refl

-- arguments with a fault
pub has_fault : (k : ErrorKind) (ks : Kinds) → k ∷ ks ≡ [] → ⊥
has_fault k ks e = absurd cc

-- the result for each subcommand is the result for a task
pub task_is : (name : Text) (rows : List Row) (asked : Task) (r : Option Task) → IsTask name rows asked → (bytes_eq name (codes "image") ≡ true → r ≡ Some task.Image)
    → (bytes_eq name (codes "image") ≡ false → bytes_eq name (codes "map") ≡ true → r ≡ Some task.Map)
    → ((f : Form) → IsFormNamed name rows f → r ≡ Some (task.Rom f))
    → ((o : AskedOptions) → bytes_eq name (codes "image") ≡ false → bytes_eq name (codes "map") ≡ false → bytes_eq name (codes "draft") ≡ true → AreNamed rows o → r ≡ Some (task.Draft o)) → r ≡ Some asked
task_is name rows task.Image r is image map rom draft = image (ap (λ n. bytes_eq n (codes "image")) is)
task_is name rows (task.Rom f) r is image map rom draft = rom f is
task_is name rows task.Map r is image map rom draft = map (ap (λ n. bytes_eq n (codes "image")) is) (ap (λ n. bytes_eq n (codes "map")) is)
task_is name rows (task.Draft o) r is image map rom draft =
    draft o (ap (λ n. bytes_eq n (codes "image")) is.0) (ap (λ n. bytes_eq n (codes "map")) is.0) (ap (λ n. bytes_eq n (codes "draft")) is.0) is.1

-- a task that is found comes from what was parsed
pub only_named : (parse : Option (Text × List Row)) (name : Text) (rows : List Row) (r : Option Task) → Some name ≡ option_map (λ p. p.0) parse → Some rows ≡ option_map (λ p. p.1) parse → IfSome r (NamesBy NameOnly name rows)
    → IfSome r (IsNamedIn NameOnly parse)
only_named parse name rows None named behind h = tt
only_named None name rows (Some t) named behind h = absurd cc
only_named (Some p) name rows (Some t) named behind h =
    let first : name ≡ p.0 = cc in
    let second : rows ≡ p.1 = cc in
    (name, rows, rw (first, second) refl, h)

-- if the arguments have no fault, they ask for it
pub only_asked : (words : List Text) (parse : Option (Text × List Row)) (found : Option Task) → fault_of link_app words ≡ [] → parse ≡ subcommand_of link_app words → IfSome found (IsNamedIn NameOnly parse) → IfSome found (IsOnlyAsked words)
only_asked words parse None sound e h = tt
only_asked words parse (Some t) sound e h = record { name = h.0; rows = h.1; sound = sound; parsed = sym e ∙ h.2; names = h.3 }
