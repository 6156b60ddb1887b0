-- The line of the verdict on a module: `a.obj: OK 13 records, 216 bytes`, in JSON an object, or comma-separated values (this profile's rule).
use Rattle.std.specs.Prelude.{◌≡◌, ℕ, List, [], ◌∷◌, ◌++◌, Bool, true, false, codes, decimal}
use Rattle.omf_frame.specs.Fault.{reason_name, reason_number}
use Rattle.omf_frame.specs.declared.fault.Place.{Place}
use Rattle.omf_frame.specs.declared.fault.Reason.{Reason}
use Rattle.omf_image.specs.Limits.{profile_limits}
use Rattle.omf_check.specs.Judging.{BeginsWith}
use Rattle.omf_check.specs.Refusal.{IsRefused}
use Rattle.omf_dump.specs.Fields.{Number, Word, Field, field}
use Rattle.omf_dump.specs.Render.{fields_text, record_end}
use Rattle.omf_dump.specs.declared.format.Format.TheVariants as format
use Rattle.omf_dump.specs.declared.format.Listing.{Listing}
use Rattle.omf_dump.specs.declared.format.Shape.{Shape}
use Rattle.omf_dump.specs.declared.format.Shape.TheVariants as shape
use Rattle.omf_dump.specs.declared.format.Subject.{Subject}
use Rattle.omf_dump.specs.declared.format.Subject.TheVariants as subject

-- An accepted module: the numbers of its records and bytes. A refusal: its reason and place. Both have the words of `omf check`.
abbrev pub accepted_fields : ℕ → ℕ → List Field
accepted_fields records bytes = field (codes "records") (Number records) ∷ field (codes "bytes") (Number bytes) ∷ []

abbrev pub accepted_text : Shape → ℕ → ℕ → List ℕ
accepted_text shape.Text records bytes = codes "OK " ++ (decimal records ++ (codes " records, " ++ (decimal bytes ++ codes " bytes\n")))
accepted_text shape.Json records bytes = fields_text format.Json (accepted_fields records bytes) ++ record_end format.Json
accepted_text shape.Csv records bytes = codes "," ++ (decimal records ++ (codes "," ++ (decimal bytes ++ codes ",,,,,,\n")))

abbrev pub place_fields : Place → List Field
place_fields p = field (codes "record") (Number p.number) ∷ field (codes "at") (Number p.start) ∷ field (codes "within") (Number p.within) ∷ []

abbrev pub place_text : Shape → Place → List ℕ
place_text shape.Text p = codes " record " ++ (decimal p.number ++ (codes " at " ++ (decimal p.start ++ (codes " within " ++ (decimal p.within ++ 10 ∷ [])))))
place_text shape.Json p = fields_text format.Json (place_fields p) ++ record_end format.Json
place_text shape.Csv p = codes "," ++ (decimal p.number ++ (codes "," ++ (decimal p.start ++ (codes "," ++ (decimal p.within ++ codes ",\n")))))

abbrev pub reason_fields : Reason → List Field
reason_fields why = field (codes "refused") (Number (reason_number why)) ∷ field (codes "reason") (Word (reason_name why)) ∷ []

abbrev pub reason_text : Shape → Reason → List ℕ
reason_text shape.Text why = codes "refused " ++ (decimal (reason_number why) ++ (32 ∷ reason_name why))
reason_text shape.Json why = fields_text format.Json (reason_fields why)
reason_text shape.Csv why = codes "," ++ (decimal (reason_number why) ++ (44 ∷ reason_name why))

abbrev pub refused_text : Shape → Reason → Place → List ℕ
refused_text f why at = reason_text f why ++ place_text f at

-- The empty cells before those of a refusal or a fault: the numbers of an accepted module, or the kind of a name and what follows it.
abbrev pub gap : Subject → Shape → List ℕ
gap _ shape.Text = []
gap _ shape.Json = []
gap subject.Verdicts shape.Csv = codes ",,"
gap (subject.Names which) shape.Csv = codes ",,,,,,"

abbrev pub refused_line : Listing → Reason → Place → List ℕ
refused_line l why at = gap l.subject l.shape ++ refused_text l.shape why at

-- The line of refused bytes, after `head`: their first fault.
abbrev pub IsRefusalLine : Listing → List ℕ → List ℕ → List ℕ → Type 0
IsRefusalLine l head input text = (why : Reason) × (at : Place) × IsRefused l.profile profile_limits input why at × (text ≡ head ++ refused_line l why at)

-- The line of bytes as a module, after `head`, by whether they are refused: the verdict on the module that they begin with, or their first fault.
abbrev pub IsVerdict : Listing → List ℕ → List ℕ → Bool → List ℕ → Type 0
IsVerdict l head input false text = (records size : ℕ) × BeginsWith l.profile input records size × (text ≡ head ++ accepted_text l.shape records size)
IsVerdict l head input true text = IsRefusalLine l head input text
