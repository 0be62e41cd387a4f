-- The bodies of an answer are as the records of lent zones are.
use Rattle.std.proofs.Common.{◌≡◌, ℕ, zero, suc, Bool, true, false, cond, List, [], ◌∷◌, map, filter, filter_map, find, Option, None, Some, refl, sym, subst, ◌∙◌, if◌then◌else◌}
use Rattle.zone_answers.proofs.Distinct.{all_filter}
use Rattle.std.specs.List.{AllByRecursion}
use Rattle.dns_name.specs.Name.{IsUnder}
use Rattle.master_reader.specs.declared.record.Body.{Body}
use Rattle.master_reader.specs.declared.record.Record.{Record}
use Rattle.zone_answers.specs.declared.answer.QKind.{QKind}
use Rattle.zone_answers.specs.declared.answer.Answer.{Answer}
use Rattle.zone_answers.specs.declared.answer.Answer.TheVariants.{Outside, NoName, NoData, Loop, Found}
use Rattle.zone_answers.specs.Zone.{Zone}
use Rattle.zone_answers.specs.Same.{same_name}
use Rattle.zone_answers.specs.Answers.{zone_of, or_above, in_zone, at_node, answer_at, answer_of_bodies, answer_of, bodies_at, is_cut_off, node_of, target_of, is_of}
use Rattle.zone_answers.specs.Lend.{AreLendable, AreZones, IsBodyFit}
use Rattle.zone_answers.proofs.Holding.{within, eight_steps, within_first, within_more, within_none}

-- an answer with bodies has fit ones
abbrev IsFit : Answer → Type 0
IsFit (Found bodies) = AllByRecursion IsBodyFit bodies
IsFit Outside = Unit {0}
IsFit NoName = Unit {0}
IsFit NoData = Unit {0}
IsFit Loop = Unit {0}

-- ---- the zone that holds a name is a lent one

abbrev Lends : Option Zone → Type 0
Lends None = Unit {0}
Lends (Some zone) = AreLendable zone.origin zone.records

found_lends : (test : Zone → Bool) (zones : List Zone) → AllByRecursion (λ z. AreLendable z.origin z.records) zones → Lends (find test zones)
found_lends test [] h = tt
found_lends test (z ∷ zones) h = by (test z) (found_lends test zones h.1)
  where
    by : (t : Bool) → Lends (find test zones) → Lends (cond t (Some z) (find test zones))
    by true rest = h.0
    by false rest = rest

either_lends : (here above : Option Zone) → Lends here → Lends above → Lends (or_above here above)
either_lends None above h k = k
either_lends (Some zone) above h k = h

zone_lends : (zones : List Zone) (name : List (List ℕ)) → AllByRecursion (λ z. AreLendable z.origin z.records) zones → Lends (zone_of zones name)
zone_lends zones [] h = found_lends (λ z. same_name z.origin []) zones h
zone_lends zones (label ∷ name) h = either_lends (find (λ z. same_name z.origin (label ∷ name)) zones) (zone_of zones name) (found_lends (λ z. same_name z.origin (label ∷ name)) zones h) (zone_lends zones name h)

-- ---- the bodies at a node

fit_bodies : (origin : List (List ℕ)) (records : List Record) → AreLendable origin records → AllByRecursion IsBodyFit (map (λ r. r.body) records)
fit_bodies origin [] h = tt
fit_bodies origin (r ∷ records) h = (h.0.1, fit_bodies origin records h.1)

fit_at : (zone : Zone) (name : List (List ℕ)) → AreLendable zone.origin zone.records → AllByRecursion IsBodyFit (bodies_at zone name)
fit_at zone name h = fit_bodies zone.origin (filter (λ r. same_name r.owner name) zone.records) (all_filter (λ r. IsUnder r.owner zone.origin × IsBodyFit r.body) (λ r. same_name r.owner name) zone.records h)

fit_found : (bodies : List Body) → AllByRecursion IsBodyFit bodies → IsFit (answer_of_bodies bodies)
fit_found [] h = tt
fit_found (body ∷ bodies) h = h

fit_answer_at : (kind : QKind) (follow : List (List ℕ) → Answer) (bodies : List Body) (targets : List (List (List ℕ))) → ((target : List (List ℕ)) → IsFit (follow target)) → AllByRecursion IsBodyFit bodies → IsFit (answer_at kind follow bodies targets)
fit_answer_at kind follow bodies [] f h = fit_found (filter (is_of kind) bodies) (all_filter IsBodyFit (is_of kind) bodies h)
fit_answer_at kind follow bodies (target ∷ others) f h = f target

fit_node : (kind : QKind) (follow : List (List ℕ) → Answer) (zone : Zone) (node : Option (List (List ℕ))) → ((target : List (List ℕ)) → IsFit (follow target)) → AreLendable zone.origin zone.records → IsFit (at_node kind follow zone node)
fit_node kind follow zone None f h = tt
fit_node kind follow zone (Some node) f h = fit_answer_at kind follow (bodies_at zone node) (filter_map target_of (bodies_at zone node)) f (fit_at zone node h)

fit_cut : (cut : Bool) (answer : Answer) → IsFit answer → IsFit (if cut then Outside else answer)
fit_cut true answer h = tt
fit_cut false answer h = h

fit_zone : (kind : QKind) (follow : List (List ℕ) → Answer) (name : List (List ℕ)) (zone : Option Zone) → ((target : List (List ℕ)) → IsFit (follow target)) → Lends zone → IsFit (in_zone kind follow name zone)
fit_zone kind follow name None f h = tt
fit_zone kind follow name (Some zone) f h = fit_cut (is_cut_off zone name) (at_node kind follow zone (node_of zone name)) (fit_node kind follow zone (node_of zone name) f h)

fit_within : (n : ℕ) (zones : List Zone) (name : List (List ℕ)) (kind : QKind) → AllByRecursion (λ z. AreLendable z.origin z.records) zones → IsFit (within n zones name kind)
fit_within zero zones name kind h = subst IsFit (sym (within_none zero zones name kind refl)) tt
fit_within (suc n) zones name kind h =
    subst IsFit (sym (within_more (suc n) n zones name kind refl))
    (fit_zone kind (λ target. within n zones target kind) name (zone_of zones name) (λ target. fit_within n zones target kind h) (zone_lends zones name h))

pub found_fit : (zones : List Zone) (name : List (List ℕ)) (kind : QKind) (bodies : List Body) → AreZones zones → answer_of zones name kind ≡ Found bodies → AllByRecursion IsBodyFit bodies
found_fit zones name kind bodies h e = subst IsFit (sym (sym (eight_steps zones name kind) ∙ within_first 8 9 zones name kind refl) ∙ e) (fit_within 9 zones name kind h.lendable)
