-- What clap answers on the words of the program.
use Rattle.std.proofs.Common.{◌≡◌, ◌<◌, ◌+◌, ℕ, zero, suc, List, [], ◌∷◌, Bool, Option, Some, None, refl, sym, ap, subst, ◌∙◌, codes, true, false, cond, option_map, map, drop, get_or, arith}
use Rattle.std.specs.Prelude.{option_and_then, find, fold, Result, Ok, Err, IfOk}
use Rattle.std.specs.Str.{bytes_eq}
use Rattle.std.proofs.lemmas.Slice.Eq.{bytes_eq-Decides}
use Rattle.clap.specs.Words.{App, Text, Row, fault_of, is_simple_and_free, one_of, subcommand_of}
use Rattle.clap.specs.declared.parser.matches.ArgMatches.{ArgMatches}
use Rattle.clap.proofs.OnLiterals.{clap_on_literals}
use Rattle.omf_cmd.specs.Inner.Names.{flag}
use Rattle.omf_cmd.specs.Parsed.{IsParse, IsParsed}
use Rattle.omf_cmd.specs.Words.{asks, flag_id, flag_text, job_name, job_named, jobs, omf_app, profile_of, with_flagged}
use Rattle.omf_cmd.specs.declared.words.Job.{Job}
use Rattle.omf_cmd.specs.declared.words.Job.TheVariants as job
use Rattle.omf_check.specs.declared.profile.Profile.{Profile}

-- the name and the rows of one parse
pub name_at : {A : Type 0} (name : A → Text) (rows : A → List Row) (o : Option A) → option_map name o ≡ option_map (λ (p : Text × List Row). p.0) (option_map (λ a. (name a, rows a)) o)
name_at name rows None = refl
name_at name rows (Some a) = refl

pub flag_at : (o : Option (Text × List Row)) (rows : List Row) → Some rows ≡ option_map (λ p. p.1) o → option_and_then (λ p. one_of flag_id p.1) o ≡ one_of flag_id rows
flag_at None rows e = absurd cc
flag_at (Some p) rows e = let s : rows ≡ p.1 = cc in ap (one_of flag_id) (sym s)

-- what a flag is read as
pub flag_value : (refuses set : Bool) (text : Option Text) → (text ≡ Some (codes "true") → set ≡ true) → (text ≡ Some (codes "false") → set ≡ false) → text ≡ Some (flag_text refuses) → set ≡ refuses
flag_value true set text yes_is no_is e = yes_is e
flag_value false set text yes_is no_is e = no_is e

-- the job of a parse
abbrev pub asked_of : Job → Bool → Option (Job × Profile)
asked_of j refuses = Some (j, profile_of refuses)

pub same_job : (named other : Option Job) (j k : Job) (set refuses : Bool) → named ≡ Some j → named ≡ other → other ≡ Some k → set ≡ refuses → asked_of j set ≡ asked_of k refuses
same_job named other j k set refuses a b c d = let e : j ≡ k = cc in rw (e, d) refl

pub is_free_omf : is_simple_and_free omf_app ≡ true
unfolding clap_on_literals
is_free_omf = refl

-- a subcommand alone, and with the flag, as clap answers it
pub record IsUnderstood (name : Text) : Type 0 where
  pub alone : (program : Text) → IsParsed (subcommand_of omf_app (program ∷ name ∷ [])) name false × (fault_of omf_app (program ∷ name ∷ []) ≡ [])
  pub flagged : (program : Text) → IsParsed (subcommand_of omf_app (program ∷ name ∷ flag ∷ [])) name true × (fault_of omf_app (program ∷ name ∷ flag ∷ []) ≡ [])

list_is : IsUnderstood (codes "list")
unfolding clap_on_literals
list_is = record { alone = λ p. (record { named = refl; set = refl }, refl); flagged = λ p. (record { named = refl; set = refl }, refl) }

check_is : IsUnderstood (codes "check")
unfolding clap_on_literals
check_is = record { alone = λ p. (record { named = refl; set = refl }, refl); flagged = λ p. (record { named = refl; set = refl }, refl) }

reloc_is : IsUnderstood (codes "reloc")
unfolding clap_on_literals
reloc_is = record { alone = λ p. (record { named = refl; set = refl }, refl); flagged = λ p. (record { named = refl; set = refl }, refl) }

canon_is : IsUnderstood (codes "canon")
unfolding clap_on_literals
canon_is = record { alone = λ p. (record { named = refl; set = refl }, refl); flagged = λ p. (record { named = refl; set = refl }, refl) }

-- ---- the words that are asked for

-- the name of a job is understood
first_name : (b : Bool) (name : Text) (j k : Job) (others : Option Job) → (b ≡ true → name ≡ job_name k) → IsUnderstood (job_name k) → (others ≡ Some j → IsUnderstood name) → cond b (Some k) others ≡ Some j → IsUnderstood name
first_name true name j k others is understood later e = subst IsUnderstood (sym (is refl)) understood
first_name false name j k others is understood later e = later e

pub understood : (name : Text) (j : Job) → job_named name ≡ Some j → IsUnderstood name
understood name j e =
    first_name (bytes_eq name (job_name job.List)) name j job.List _ (bytes_eq-Decides name (job_name job.List)).0 list_is
    (first_name (bytes_eq name (job_name job.Check)) name j job.Check _ (bytes_eq-Decides name (job_name job.Check)).0 check_is
    (first_name (bytes_eq name (job_name job.Reloc)) name j job.Reloc _ (bytes_eq-Decides name (job_name job.Reloc)).0 reloc_is
    (first_name (bytes_eq name (job_name job.Canon)) name j job.Canon None (bytes_eq-Decides name (job_name job.Canon)).0 canon_is (λ none. absurd cc))))
    e

map_some : (o : Option Job) (refuses : Bool) (asked : Job × Profile) → option_map (λ j. (j, profile_of refuses)) o ≡ Some asked → (j : Job) × (o ≡ Some j) × (asked_of j refuses ≡ Some asked)
map_some None refuses asked e = absurd cc
map_some (Some j) refuses asked e = (j, refl, e)

-- what a parse of the words gives, where they ask for something
pub record Answers (words : List Text) (asked : Job × Profile) : Type 0 where
  pub name : Text
  pub job : Job
  pub refuses : Bool
  pub parse : IsParsed (subcommand_of omf_app words) name refuses
  pub named : job_named name ≡ Some job
  pub is : asked_of job refuses ≡ Some asked
  pub sound : fault_of omf_app words ≡ []

answers_alone : (program name : Text) (asked : Job × Profile) → option_map (λ j. (j, profile_of false)) (job_named name) ≡ Some asked → Answers (program ∷ name ∷ []) asked
answers_alone program name asked e =
    let m = map_some (job_named name) false asked e in
    let p = (understood name m.0 m.1).alone program in
    record { name = name; job = m.0; refuses = false; parse = p.0; named = m.1; is = m.2; sound = p.1 }

answers_flagged : (program name : Text) (asked : Job × Profile) → option_map (λ j. (j, profile_of true)) (job_named name) ≡ Some asked → Answers (program ∷ name ∷ flag ∷ []) asked
answers_flagged program name asked e =
    let m = map_some (job_named name) true asked e in
    let p = (understood name m.0 m.1).flagged program in
    record { name = name; job = m.0; refuses = true; parse = p.0; named = m.1; is = m.2; sound = p.1 }

answers_third : (program name f : Text) (asked : Job × Profile) (b : Bool) → (b ≡ true → f ≡ flag) → cond b (option_map (λ j. (j, profile_of true)) (job_named name)) None ≡ Some asked → Answers (program ∷ name ∷ f ∷ []) asked
answers_third program name f asked true is e = subst (λ (w : Text). Answers (program ∷ name ∷ w ∷ []) asked) (sym (is refl)) (answers_flagged program name asked e)
answers_third program name f asked false is e = absurd cc

pub answers : (words : List Text) (asked : Job × Profile) → asks words ≡ Some asked → Answers words asked
answers [] asked e = absurd cc
answers (program ∷ []) asked e = absurd cc
answers (program ∷ name ∷ []) asked e = answers_alone program name asked e
answers (program ∷ name ∷ f ∷ []) asked e = answers_third program name f asked (bytes_eq f flag) (bytes_eq-Decides f flag).0 e
answers (program ∷ name ∷ f ∷ g ∷ words) asked e = absurd cc

-- ---- the program's command

-- one more subcommand
pub next_job : (i : ℕ) (other : Job) (app next : App) → i < 4 → next ≡ with_flagged app (job_name (get_or jobs i other)) → fold with_flagged app (map job_name (drop i jobs)) ≡ omf_app
    → fold with_flagged next (map job_name (drop (i + 1) jobs)) ≡ omf_app
next_job zero other app next low e h = rw e h
next_job (suc zero) other app next low e h = rw e h
next_job (suc (suc zero)) other app next low e h = rw e h
next_job (suc (suc (suc zero))) other app next low e h = rw e h
next_job (suc (suc (suc (suc i)))) other app next low e h = absurd (omega arith)

-- what a command makes of words, where its definition is known
pub parse_of : (app own : App) (words : List Text) (found other : Option ArgMatches) → own ≡ app → is_simple_and_free app ≡ true → (is_simple_and_free own ≡ true → IsParse own words found) → found ≡ other → IsParse app words other
parse_of app own words found other e free told is = subst (IsParse app words) is (subst (λ (a : App). IsParse a words found) e (told (ap is_simple_and_free e ∙ free)))

-- of an answer that is there, more is known
pub ok_also : {X E : Type 0} (r : Result X E) {P Q : X → Type 0} → ((x : X) → P x → Q x) → IfOk r P → IfOk r Q
ok_also (Ok x) f h = f x h
ok_also (Err e) f h = h
