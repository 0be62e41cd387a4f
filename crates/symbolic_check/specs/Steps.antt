-- What a step of the walk makes of what stands at one address (the project's own form).
use Rattle.std.specs.Prelude.{◌+◌, Bool, true, false, nat_le, Option, Some, None, if◌then◌else◌}
use Rattle.zone_answers.specs.declared.class.Class.{Class}
use Rattle.zone_answers.specs.declared.class.Class.TheVariants.{Hit, Void, Beyond, Round}
use Rattle.spf_grammar.specs.declared.verdict.Verdict.{Verdict}
use Rattle.spf_grammar.specs.declared.verdict.Verdict.TheVariants.{Neutral}
use Rattle.spf_model.specs.declared.outcome.Counts.{Counts}
use Rattle.spf_model.specs.Judging.{is_pass}
pub use Rattle.spf_model.specs.Leads.{required}
use Rattle.spf_model.specs.declared.outcome.Limits.{Limits}
use Rattle.spf_model.specs.declared.outcome.Cause.TheVariants as cause
use Rattle.spf_model.specs.declared.outcome.Place.{Place}
use Rattle.spf_model.specs.declared.outcome.Outcome.{Outcome}
use Rattle.spf_model.specs.declared.outcome.Outcome.TheVariants.{Is, Perm, Temp, Unsettled}
use Rattle.symbolic_check.specs.declared.state.State.{State}
use Rattle.symbolic_check.specs.declared.state.Purpose.{Purpose}
use Rattle.symbolic_check.specs.declared.state.Purpose.TheVariants.{Include, Redirect}
use Rattle.symbolic_check.specs.declared.state.State.TheVariants.{Live, Decided, Failed}

-- no directive has matched so far, and the evaluation goes on
abbrev pub is_live : State → Bool
is_live (Live counts) = true
is_live (Decided verdict counts) = false
is_live (Failed outcome) = false

-- RFC 7208, section 4.6.4: a term that asks the DNS counts one lookup, which must be within the limit
abbrev pub after_lookup : Limits → Place → State → State
after_lookup limits place (Live counts) =
    if nat_le (counts.lookups + 1) limits.lookups
    then Live (record counts { lookups = counts.lookups + 1 })
    else Failed (Perm cause.Lookups place)
after_lookup limits place (Decided verdict counts) = Decided verdict counts
after_lookup limits place (Failed outcome) = Failed outcome

-- RFC 7208, section 4.6.4: a term of which some answer was void counts one void lookup, which must be within the limit
abbrev pub after_void : Limits → Place → Bool → State → State
after_void limits place false state = state
after_void limits place true (Live counts) =
    if nat_le (counts.voids + 1) limits.voids
    then Live (record counts { voids = counts.voids + 1 })
    else Failed (Perm cause.Voids place)
after_void limits place true (Decided verdict counts) = Decided verdict counts
after_void limits place true (Failed outcome) = Failed outcome

-- RFC 7208, section 4.6.2: a directive that matches gives its verdict
abbrev pub after_match : Verdict → Bool → State → State
after_match verdict false state = state
after_match verdict true (Live counts) = Decided verdict counts
after_match verdict true (Decided other counts) = Decided other counts
after_match verdict true (Failed outcome) = Failed outcome

-- a term that ends every evaluation that comes to it
abbrev pub after_failure : Outcome → State → State
after_failure outcome (Live counts) = Failed outcome
after_failure outcome (Decided verdict counts) = Decided verdict counts
after_failure outcome (Failed other) = Failed other

-- RFC 7208, sections 4.6.4 and 5.7: an `exists` that asks at the reversed name of each address, by the class of the
-- answer there. One that leads out of the zones leaves the run open, and one that goes round is an error
abbrev pub after_class : Limits → Place → Verdict → Class → State → State
after_class limits place verdict Hit state = after_match verdict true state
after_class limits place verdict Void state = after_void limits place true state
after_class limits place verdict Beyond state = after_failure (Unsettled cause.Outside place) state
after_class limits place verdict Round state = after_failure (Temp cause.Alias place) state

-- RFC 7208, section 5.2: a record that is asked for is evaluated for the addresses that are live; the others stand
-- there alike
abbrev pub entered : State → State
entered (Live counts) = Live counts
entered (Decided verdict counts) = Decided Neutral (record { lookups = 0; voids = 0 })
entered (Failed outcome) = Decided Neutral (record { lookups = 0; voids = 0 })

-- RFC 7208, sections 5.2 and 6.1: what a term makes of the verdict of the record that it asks for
abbrev pub used : Purpose → Verdict → Counts → State
used (Include verdict) found counts = if is_pass found then Decided verdict counts else Live counts
used Redirect found counts = Decided found counts

-- what stands after this record is evaluated, whose evaluation leaves no address live
abbrev pub from_target : Place → Purpose → State → State
from_target place purpose (Live counts) = Live counts
from_target place purpose (Decided found counts) = used purpose found counts
from_target place purpose (Failed outcome) = Failed (required place outcome)

-- RFC 7208, sections 5.2 and 6.1: a term that asks for a record, at the end of which this stands
abbrev pub after_target : Place → Purpose → State → State → State
after_target place purpose inner (Live counts) = from_target place purpose inner
after_target place purpose inner (Decided verdict counts) = Decided verdict counts
after_target place purpose inner (Failed outcome) = Failed outcome

-- RFC 7208, section 2.6: the outcome where the record is evaluated whole
abbrev pub outcome_of : State → Outcome
outcome_of (Live counts) = Is Neutral
outcome_of (Decided verdict counts) = Is verdict
outcome_of (Failed outcome) = outcome

-- a row of networks, of which the first that has the address gives this verdict
abbrev pub after_networks : Option Verdict → State → State
after_networks None state = state
after_networks (Some verdict) state = after_match verdict true state
