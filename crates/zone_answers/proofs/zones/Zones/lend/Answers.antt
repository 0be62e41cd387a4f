use Rattle.std.proofs.Common.{◌≡◌, ℕ, ◌+◌, List, [], ◌∷◌, ◌++◌, length, is_some, sym, ap, ap₂, ◌∙◌, subst, arith}
use Rattle.master_reader.specs.declared.record.Record.{Record}
use Rattle.zone_answers.specs.Zone.{Zone}
use Rattle.zone_answers.specs.Same.{distinct_records, records_in}
use Rattle.zone_answers.specs.Lend.{AreLendable, AreZones, with_zone}
use Rattle.zone_answers.proofs.Holding.{copied_some}
use Rattle.zone_answers.proofs.Distinct.{distinct_twice}
use Rattle.zone_answers.proofs.Lending.{origin_found, count_with, lendable_distinct, zones_more, clash_of, no_clash_of}
use Rattle.zone_answers.proofs.zones.Zones.lend.Goals as goal

total : (zones : List Zone) (origin : List (List ℕ)) (records keys : List Record) (held more : ℕ) → held ≡ records_in zones → more ≡ length keys → keys ≡ distinct_records records → held + more ≡ records_in (with_zone zones origin records)
total zones origin records keys held more h m k = ap₂ (λ (a b : ℕ). a + b) h (m ∙ ap length k) ∙ sym (count_with zones origin records)

made : (origin : List (List ℕ)) (zone : Zone) (keys records : List Record) → zone ≡ record { origin = origin; records = keys } → keys ≡ distinct_records records → zone ≡ record { origin = origin; records = distinct_records records }
made origin zone keys records z k = z ∙ ap (λ (l : List Record). let y : Zone = record { origin = origin; records = l } in y) k

pub returns-then-is_some-clause-refused : goal.returns-then-is_some-clause-refused
returns-then-is_some-clause-refused c =
    sym (c.is_some.ensures ∙ copied_some c.zone_at.result ∙ ap is_some c.zone_at.ensures ∙ origin_found c.args.self.now c.args.origin) ∙ c.if-is_some.true

pub returns-then-count-gt-MAX_RECORDS-clause-refused : goal.returns-then-count-gt-MAX_RECORDS-clause-refused
returns-then-count-gt-MAX_RECORDS-clause-refused c = (
  sym (c.is_some.ensures ∙ copied_some c.zone_at.result ∙ ap is_some c.zone_at.ensures ∙ origin_found c.args.self.now c.args.origin) ∙ c.if-is_some.false,
  total c.args.self.now c.args.origin c.args.records c.in_ok-records.records.keys c.count.result c.len.result c.count.ensures.count c.len.ensures.len c.in_ok-records.ensures,
  c.if-count-gt-MAX_RECORDS.true,
)

pub new-requires-clause-lendable : goal.new-requires-clause-lendable
new-requires-clause-lendable c = subst (AreLendable c.args.origin) (sym c.in_ok-records.ensures) (lendable_distinct c.args.origin c.args.records c.requires.lendable)

pub new-requires-clause-distinct : goal.new-requires-clause-distinct
new-requires-clause-distinct c = ap distinct_records c.in_ok-records.ensures ∙ distinct_twice c.args.records ∙ sym c.in_ok-records.ensures

pub returns-in-Some-clause-refused : goal.returns-in-Some-clause-refused
returns-in-Some-clause-refused c = (
  sym (c.is_some.ensures ∙ copied_some c.zone_at.result ∙ ap is_some c.zone_at.ensures ∙ origin_found c.args.self.now c.args.origin) ∙ c.if-is_some.false,
  omega (arith, total c.args.self.now c.args.origin c.args.records c.in_ok-records.records.keys c.count.result c.len.result c.count.ensures.count c.len.ensures.len c.in_ok-records.ensures, c.if-count-gt-MAX_RECORDS.false),
  clash_of c.in_ok-zone.zone _ c.in_ok-name.field-0 c.in-Some.name (made c.args.origin c.in_ok-zone.zone c.in_ok-records.records.keys c.args.records c.in_ok-zone.ensures c.in_ok-records.ensures) c.in-Some.is c.in_ok-name.ensures,
)

pub invariant_of-self-2 : goal.invariant_of-self-2
invariant_of-self-2 c =
    zones_more c.args.self.now c.push_zone.new.zones.items c.in_ok-zone.zone c.args.origin c.args.records
    (subst AreZones c.self.view_is c.self.invariant)
    (sym (c.is_some.ensures ∙ copied_some c.zone_at.result ∙ ap is_some c.zone_at.ensures ∙ origin_found c.args.self.now c.args.origin) ∙ c.if-is_some.false)
    c.requires.lendable
    (omega (arith, total c.args.self.now c.args.origin c.args.records c.in_ok-records.records.keys c.count.result c.len.result c.count.ensures.count c.len.ensures.len c.in_ok-records.ensures, c.if-count-gt-MAX_RECORDS.false))
    (made c.args.origin c.in_ok-zone.zone c.in_ok-records.records.keys c.args.records c.in_ok-zone.ensures c.in_ok-records.ensures)
    (c.in_ok-push_zone.ensures.ok ∙ ap (λ (l : List Zone). l ++ c.in_ok-zone.zone ∷ []) c.self.view_is)

pub returns-clause-free : goal.returns-clause-free
returns-clause-free c = record {
  new_origin = sym (c.is_some.ensures ∙ copied_some c.zone_at.result ∙ ap is_some c.zone_at.ensures ∙ origin_found c.args.self.now c.args.origin) ∙ c.if-is_some.false;
  room = omega (arith, total c.args.self.now c.args.origin c.args.records c.in_ok-records.records.keys c.count.result c.len.result c.count.ensures.count c.len.ensures.len c.in_ok-records.ensures, c.if-count-gt-MAX_RECORDS.false);
  no_clash = no_clash_of c.in_ok-zone.zone _ c.in_ok-name.field-0 (made c.args.origin c.in_ok-zone.zone c.in_ok-records.records.keys c.args.records c.in_ok-zone.ensures c.in_ok-records.ensures) c.in_default.is c.in_ok-name.ensures;
}
