use Rattle.std.proofs.Common.{◌≡◌, ◌∙◌, ap, subst, sym}
use Rattle.std.specs.List.{list_any}
use Rattle.omf_records.specs.Inner.Seen.{contents_seen}
use Rattle.omf_lowering.specs.Segments.{has_thread_past, in_thread, is_past}
use Rattle.omf_lowering.proofs.segments.rec_has_thread_past.Goals as goal

pub returns-in-Fixups : goal.returns-in-Fixups
returns-in-Fixups c =
    subst (λ r. c.has_thread_past.result ≡ has_thread_past c.args.count (contents_seen r)) (sym c.in-Fixups.is)
    (c.has_thread_past.ensures ∙ ap (list_any (λ s. list_any (is_past c.args.count) (in_thread s.item))) c.iter.ensures)
