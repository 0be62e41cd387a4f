-- The files that a job reads, in order.
use Rattle.std.specs.Prelude.{◌≡◌, ℕ, List, map}
use Rattle.spfc_words.specs.declared.input.Group.{Group}
use Rattle.spfc_words.specs.declared.input.Group.TheVariants.{Zones, Others}
use Rattle.spfc_words.specs.declared.input.Input.{Input}
use Rattle.spfc_words.specs.declared.input.Place.{Place}
use Rattle.spfc_words.specs.declared.input.Place.TheVariants.{Zone, Other, File}
use Rattle.spfc_words.specs.declared.zone_word.ZoneWord.{ZoneWord}
use Rattle.spfc_words.specs.ZoneWords.{AreZoneWords}

-- the zone of an origin, in its group
abbrev pub place_in : Group → (origin : List (List ℕ)) → Place
place_in Zones origin = Zone origin
place_in Others origin = Other origin

-- the input of a zone, in its group
abbrev pub place_zone : Group → ZoneWord → Input
place_zone group zone = record { place = place_in group zone.origin; file = zone.file }

-- the words name these zones of the group, in order: 1 to 64 words ORIGIN=FILE of different origins
pub record AreZoneInputs (group : Group) (words : List (List ℕ)) (inputs : List Input) : Type 0 where
  pub zones : List ZoneWord
  pub are : AreZoneWords words zones
  pub placed : inputs ≡ map (place_zone group) zones

-- the file that is no zone: its name is the word as it stands
abbrev pub file_input : (word : List ℕ) → Input
file_input word = record { place = File; file = word }
