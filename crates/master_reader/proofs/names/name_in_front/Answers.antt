use Rattle.std.proofs.Common.{◌∙◌, ◌++◌, ◌∷◌, ◌<◌, ℕ, List, length, ap, sym, map, rules, tests, arith}
use Rattle.std.proofs.lemmas.List.{map-append}
use Rattle.std.specs.List.{slice_split}
use Rattle.dns_name.specs.Name.{lowercase_label, extended_of}
use Rattle.dns_name.specs.declared.fault.NameFault.TheVariants.{LabelLong}
use Rattle.dns_name.proofs.Splits.{split_turn, split_end}
use Rattle.master_reader.specs.Tokens.{bytes_in, is_unescaped}
use Rattle.master_reader.proofs.Spelling.{length-bytes_in}
use Rattle.master_reader.proofs.Labels.{base_is_bad, joined_is, label_is_bad, long_label, name_is_made}
use Rattle.master_reader.proofs.names.name_in_front.Goals as goal

pub returns-in_default : goal.returns-in_default
returns-in_default c =
    let cut = split_turn _ (is_unescaped 46) c.args.units.now c.loop-part.yielded _ c.loop-part.yielded_by _ _
    c.in-Some.part c.in-Some.is c.next.ensures.steps (cc) (cc) c.split-part-items.ensures.closure
    (λ x b q k. search (rules, tests)) in
    let front = map (λ x. x.now) c.loop-part.yielded in
    let label : List ℕ = bytes_in c.in-Some.part.now in
    let long : 63 < length label = omega (arith, length-bytes_in c.in-Some.part.now, c.in_default.ensures) in
    label_is_bad (map bytes_in (slice_split (is_unescaped 46) c.args.units.now)) (map bytes_in front) label
    (map bytes_in cut.0) c.args.behind.now c.loop-part.name LabelLong
    (ap (map bytes_in) cut.1 ∙ map-append bytes_in front (c.in-Some.part.now ∷ cut.0)) c.loop-part.invariant
    (long_label label c.loop-part.name long)

pub returns-in_default-push_label : goal.returns-in_default-push_label
returns-in_default-push_label c =
    let cut = split_turn _ (is_unescaped 46) c.args.units.now c.loop-part.yielded _ c.loop-part.yielded_by _ _
    c.in-Some.part c.in-Some.is c.next.ensures.steps (cc) (cc) c.split-part-items.ensures.closure
    (λ x b q k. search (rules, tests)) in
    let front = map (λ x. x.now) c.loop-part.yielded in
    label_is_bad (map bytes_in (slice_split (is_unescaped 46) c.args.units.now)) (map bytes_in front)
    (bytes_in c.in-Some.part.now) (map bytes_in cut.0) c.args.behind.now c.loop-part.name
    c.in_default-push_label.field-0
    (ap (map bytes_in) cut.1 ∙ map-append bytes_in front (c.in-Some.part.now ∷ cut.0)) c.loop-part.invariant
    (sym (ap (extended_of c.loop-part.name) (c.deref.ensures.0 ∙ c.in-Some-label_of.ensures))
    ∙ c.in_default-push_label.ensures.answer)

pub returns-in_default-push_name : goal.returns-in_default-push_name
returns-in_default-push_name c =
    let cut = split_end _ (is_unescaped 46) c.args.units.now c.loop-part.yielded _ c.loop-part.yielded_by _ _
    c.in-None.is c.next.ensures.steps (cc) (cc) c.split-part-items.ensures.closure
    (λ x b q k. search (rules, tests)) in
    base_is_bad (map bytes_in (slice_split (is_unescaped 46) c.args.units.now)) c.args.behind.now c.loop-part.name
    c.in_default-push_name.field-0
    (c.loop-part.invariant ∙ ap (λ parts. map lowercase_label (map bytes_in parts)) cut)
    c.in_default-push_name.ensures.answer

pub returns : goal.returns
returns c =
    let cut = split_end _ (is_unescaped 46) c.args.units.now c.loop-part.yielded _ c.loop-part.yielded_by _ _
    c.in-None.is c.next.ensures.steps (cc) (cc) c.split-part-items.ensures.closure
    (λ x b q k. search (rules, tests)) in
    name_is_made (map bytes_in (slice_split (is_unescaped 46) c.args.units.now)) c.args.behind.now c.push_name.new.self
    (joined_is c.loop-part.name c.args.behind.now c.push_name.new.self c.in-Ok-push_name.ensures.answer
    ∙ ap (λ (n : List (List ℕ)). n ++ c.args.behind.now)
    (c.loop-part.invariant ∙ ap (λ parts. map lowercase_label (map bytes_in parts)) cut))
    c.in-Ok-push_name.ensures.legal
