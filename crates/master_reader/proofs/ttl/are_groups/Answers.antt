use Rattle.std.proofs.Common.{◌+◌, ◌-◌, ◌*◌, ◌^◌, ◌∙◌, ◌++◌, ◌∷◌, [], ap, sym, arith, length, min, take, drop, get_or}
use Rattle.std.proofs.lemmas.Bool.{eqb-false}
use Rattle.std.specs.List.{list_all}
use Rattle.master_reader.specs.Tokens.{bytes_in}
use Rattle.master_reader.specs.Ttl.{groups_in, is_group}
use Rattle.master_reader.proofs.Spelling.{no_octet}
use Rattle.master_reader.proofs.Groups.{first_group_is, groups_fail, group_fails, summed_first, summed_more}
use Rattle.master_reader.proofs.ttl.are_groups.Goals as goal

pub loop-rest-init : goal.loop-rest-init
loop-rest-init c = summed_first c.args.units.now

pub returns-in_default : goal.returns-in_default
returns-in_default c =
    let some = eqb-false (length c.loop-rest.rest.now) 0 (sym c.is_empty.ensures ∙ c.loop-rest-test.true) in
    groups_fail c.args.units.now c.loop-rest.rest.now c.loop-rest.invariant.groups (omega arith) (sym c.unit_place.ensures ∙ c.in_default.is)

pub returns-then-not-are_digits : goal.returns-then-not-are_digits
returns-then-not-are_digits c =
    let f = first_group_is c.loop-rest.rest.now c.split_at.result.0.now c.split_at.result.1.now c.in-Some.place (sym c.unit_place.ensures ∙ c.in-Some.is) c.split_at.ensures.front c.split_at.ensures.back in
    let behind = c.split_at.result.1.now in
    group_fails c.args.units.now (bytes_in c.split_at.result.0.now ++ (get_or behind 0 no_octet).byte ∷ []) (groups_in (bytes_in (take (length behind - 1) (drop 1 behind)))) (c.loop-rest.invariant.groups ∙ ap (list_all is_group) f.cut) (f.group ∙ sym c.are_digits.ensures ∙ c.if-not-are_digits.true)

pub loop-rest-preserved : goal.loop-rest-preserved
loop-rest-preserved c =
    let behind = c.split_at.result.1.now in
    let f = first_group_is c.loop-rest.rest.now c.split_at.result.0.now c.split_at.result.1.now c.in-Some.place (sym c.unit_place.ensures ∙ c.in-Some.is) c.split_at.ensures.front c.split_at.ensures.back in
    summed_more c.args.units.now c.loop-rest.rest.now c.split_at.result.0.now behind c.in-Some.place c.loop-rest.seconds c.number_of.result c.min-seconds.result c.loop-rest.invariant f (sym c.are_digits.ensures ∙ c.if-not-are_digits.false) c.number_of.ensures
    (c.min-seconds.ensures ∙ ap (λ n. min (2 ^ 32) (c.loop-rest.seconds + c.number_of.result * n)) c.seconds_in.ensures.value)
