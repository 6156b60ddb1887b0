use Rattle.std.proofs.Common.{◌≡◌, sym, subst}
use Rattle.std.specs.Prelude.{IfOk}
use Rattle.omf_check.specs.Inner.Contents.{data_seen}
use Rattle.omf_reloc.specs.Inner.Measuring.{CanMeasure}
use Rattle.omf_c.specs.Data.{contents_bytes}
use Rattle.omf_c.proofs.data.source_bytes.Goals as goal

pub expanded-requires : goal.expanded-requires
expanded-requires c = subst (λ d. CanMeasure (data_seen d)) c.in-Iterated.is c.requires

pub returns-in-Iterated : goal.returns-in-Iterated
returns-in-Iterated c =
    subst (λ d. IfOk c.expanded.result (λ v. v.items ≡ contents_bytes (data_seen d).kind (data_seen d).contents)) (sym c.in-Iterated.is) c.expanded.ensures
