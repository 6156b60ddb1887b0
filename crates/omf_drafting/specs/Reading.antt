-- A draft read back as a link's text.
use Rattle.std.specs.Prelude.{◌≡◌, ◌<◌, ◌^◌, ℕ, List, [], filter_map, flat_map, length, zip, Ok}
use Rattle.omf_records.specs.Values.{Rec}
use Rattle.omf_check.specs.Tables.{segments, groups}
use Rattle.omf_placement.specs.Placement.{Places}
use Rattle.omf_linking.specs.Locator.Sparse.{Sparse, sparse}
use Rattle.omf_linking.specs.Placing.{given_of, places_of}

-- The text has no faulty line. It gives each module these places, stores no segment elsewhere, and gives no external a place.
pub record IsReadBack (ms : List (List Rec)) (pls : List Places) (text : List ℕ) : Type 0 where
  pub given : List Sparse
  pub reads : sparse ms text ≡ Ok given
  pub places : places_of 0 (zip ms given) ≡ Ok pls
  pub none_stored : flat_map (λ s. filter_map (λ o. o) s.stored) given ≡ []
  pub none_given : given_of given ≡ []

-- The numbers of a module's segments and groups have at most ten digits.
pub record HasFew (m : List Rec) : Type 0 where
  pub segments : length (segments m) < 2 ^ 32
  pub groups : length (groups m) < 2 ^ 32

-- The places that a text, read as a link's text, gives the modules.
pub record GivesPlaces (ms : List (List Rec)) (text : List ℕ) (pls : List Places) : Type 0 where
  pub given : List Sparse
  pub reads : sparse ms text ≡ Ok given
  pub places : places_of 0 (zip ms given) ≡ Ok pls
