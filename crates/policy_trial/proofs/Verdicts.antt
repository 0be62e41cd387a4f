-- Over a generated zone check_host gives every address a verdict.
use Rattle.std.proofs.Common.{ℕ, List, [], ◌∷◌, ◌++◌, map, decimal, refl, arith}
use Rattle.std.specs.Prelude.{codes}
use Rattle.std.specs.List.{range_with_len}
use Rattle.addr_bits.specs.declared.address.Address.{Address}
use Rattle.spf_model.specs.Check.{check, receiver_limits}
use Rattle.spf_model.specs.Result.{Gives}
use Rattle.spf_model.specs.Run.{says}
use Rattle.spf_model.specs.declared.outcome.Outcome.TheVariants.{Is}
use Rattle.record_pack.specs.Records.{terms_text}
use Rattle.spf_gen.specs.Generated.{includes_text}
use Rattle.spf_gen.specs.Networks.{terms_in}
use Rattle.spf_gen.specs.Records.{trial_name, trial_text, zone_records}
use Rattle.spf_gen.proofs.Places.{ArePlaces, eight_places}
use Rattle.spf_gen.proofs.Reading.{zone_is_read}
use Rattle.spf_gen.proofs.Texts.{terms_have}
use Rattle.policy_trial.specs.Verdicts.{TrialsHaveVerdicts, trial_verdict}
use Rattle.policy_trial.proofs.Included.{AreIncluded, Comes, includes_record_comes}
use Rattle.policy_trial.proofs.Places.{leads_there, target_at}
use Rattle.policy_trial.proofs.Policies.{behind_includes, specs_of, terms_spell, top_spells}
use Rattle.policy_trial.proofs.ZoneLent.{holds_place, holds_top, zone_alone, zone_lent}

-- the includes of the record at the top lead to the others
are_included : (start n : ℕ) (a : Address) (places : List ℕ) → ArePlaces places → AreIncluded (says (zone_alone start n) a) trial_text (specs_of places) (map (terms_in start n) places)
are_included start n a [] h = tt
are_included start n a (k ∷ places) h = (
  record {
    there = target_at (decimal k);
    label = codes "n" ++ decimal k;
    next = codes "trial";
    labels = codes "example" ∷ [];
    text = terms_text (terms_in start n k);
    leads = record { reached = (leads_there k h.0).reached; named = (leads_there k h.0).named };
    holds = holds_place start n k h.0 a;
    spells = terms_spell (terms_in start n k) (terms_have start n k);
  },
  are_included start n a places h.1,
)

gives : (start n : ℕ) (a : Address) → Gives (says (zone_alone start n)) receiver_limits trial_text a (Is (trial_verdict start n a))
unfolding Rattle.spf_model.specs.Check.check_host Rattle.spf_model.specs.Judging.name_of
gives start n a =
    given (includes_record_comes (says (zone_alone start n) a) receiver_limits a 9 trial_text (codes "trial") (codes "example") [] includes_text (specs_of (range_with_len 0 8)) (map (terms_in start n) (range_with_len 0 8)) behind_includes
    (record { lookups = 0; voids = 0 }) (holds_top start n a) top_spells (are_included start n a (range_with_len 0 8) eight_places) (omega arith))
  where
    given : Comes (says (zone_alone start n) a) (check receiver_limits a 11 trial_text trial_name (record { lookups = 0; voids = 0 })) (trial_verdict start n a) 8 0 → Gives (says (zone_alone start n)) receiver_limits trial_text a (Is (trial_verdict start n a))
    given h = (trial_name, h.0, refl, h.1)

pub trials_have_verdicts : TrialsHaveVerdicts
trials_have_verdicts start networks few = record {
  zones = zone_alone start networks;
  zone = record {
    records = zone_records start networks;
    reads = zone_is_read start networks few;
    lent = zone_lent start networks;
    alone = refl;
  };
  verdicts = λ a one. gives start networks a;
}
