use Rattle.omf_dump.proofs.ListingLaws.{library_listed}
use Rattle.omf_dump.proofs.listing.show_library.Goals as goal

pub returns : goal.returns
returns g c = library_listed _ _ _ _ _ c.args.page _ _ _ _ _ _ _ c.requires.page c.deref.ensures.value c.in-Ok.ensures c.in_ok-has_refused.ensures c.in_ok-is_faulty.ensures c.is_either.ensures
