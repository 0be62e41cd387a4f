-- The files that words name.
use Rattle.std.proofs.Common.{◌≡◌, ℕ, List, map, sym, ap, ◌∙◌}
use Rattle.spfc_words.specs.declared.input.Group.{Group}
use Rattle.spfc_words.specs.declared.input.Input.{Input}
use Rattle.spfc_words.specs.declared.zone_word.ZoneWord.{ZoneWord}
use Rattle.spfc_words.specs.Inputs.{AreZoneInputs, place_zone}
use Rattle.spfc_words.proofs.ZoneWords.{one_row}

-- zone words name one list of files at most
pub one_inputs : (group : Group) (words : List (List ℕ)) (a b : List Input) → AreZoneInputs group words a → AreZoneInputs group words b → a ≡ b
one_inputs group words a b x y =
    let zones : x.zones ≡ y.zones = one_row words x.zones y.zones x.are.each y.are.each in
    x.placed ∙ (ap (λ (zs : List ZoneWord). map (place_zone group) zs) zones ∙ sym y.placed)
