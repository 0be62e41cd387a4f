-- How the names of a zone are found. All of it is the project's own.
use Rattle.std.specs.Prelude.{◌≡◌, ℕ, suc, ◌≤◌, Bool, true, false, ◌&&◌, ◌||◌, List, [], ◌∷◌, ◌++◌, length, Option}
use Rattle.std.specs.Prelude.{Some, None, is_some, filter_map, slice_get, option_map, nat_lt, if◌then◌else◌}
use Rattle.std.specs.List.{list_any}
use Rattle.std.specs.Map.{lookup}
use Rattle.std.specs.Option.{unwrap_or}
use Rattle.master_reader.specs.declared.record.Body.{Body}
use Rattle.master_reader.specs.declared.record.Record.{Record}
use Rattle.zone_answers.specs.declared.answer.Answer.{Answer}
use Rattle.zone_answers.specs.declared.answer.Step.{Step}
use Rattle.zone_answers.specs.declared.answer.Step.TheVariants.{Known, Alias}
use Rattle.zone_answers.specs.declared.answer.QKind.TheVariants as kinds
use Rattle.zone_answers.specs.declared.node.Chosen.{Chosen}
use Rattle.zone_answers.specs.declared.node.Chosen.TheVariants.{Every, Asked, Aliases}
use Rattle.zone_answers.specs.declared.node.Node.{Node}
use Rattle.zone_answers.specs.declared.zone.Lent.{Lent}
use Rattle.zone_answers.specs.declared.zone.Lent.TheVariants.{All, Parts}
use Rattle.zone_answers.specs.Zone.{Zone}
use Rattle.zone_answers.specs.Same.{same_name, distinct_records}
use Rattle.zone_answers.specs.declared.order.Entry.{Entry}
use Rattle.dns_name.specs.Name.{is_under}
use Rattle.zone_answers.specs.Answers.{is_delegation, is_of, target_of}
use Rattle.zone_answers.specs.Order.{ArePlaced, AreSorted}
use Rattle.zone_answers.specs.Lend.{AreLendable}

-- whether a record with this body is one of those that are looked at
abbrev pub is_chosen : Chosen → Body → Bool
is_chosen Every body = true
is_chosen (Asked kind) body = is_of kind body
is_chosen Aliases body = is_some (target_of body)

-- the places of the chosen records with this owner, where the first record of the list has this place
abbrev pub places_of : Chosen → ℕ → List Record → List (List ℕ) → List ℕ
places_of chosen place [] name = []
places_of chosen place (r ∷ records) name =
    let rest = places_of chosen (suc place) records name in
    if same_name r.owner name && is_chosen chosen r.body then place ∷ rest else rest

-- whether an NS record has this owner
abbrev pub has_delegation : List Record → List (List ℕ) → Bool
has_delegation records name = list_any (λ r. same_name r.owner name && is_delegation r.body) records

-- whether a record has this owner
abbrev pub has_owner : List Record → List (List ℕ) → Bool
has_owner records name = list_any (λ r. same_name r.owner name) records

-- what stands at a name
abbrev pub summary : List Record → List (List ℕ) → Node
summary records name = record {
  every = places_of Every 0 records name;
  a = places_of (Asked kinds.A) 0 records name;
  aaaa = places_of (Asked kinds.Aaaa) 0 records name;
  mx = places_of (Asked kinds.Mx) 0 records name;
  txt = places_of (Asked kinds.Txt) 0 records name;
  aliases = places_of Aliases 0 records name;
  delegates = has_delegation records name;
}

-- the places of the chosen records of a node
abbrev pub places_in : Chosen → Node → List ℕ
places_in Every node = node.every
places_in (Asked kinds.A) node = node.a
places_in (Asked kinds.Aaaa) node = node.aaaa
places_in (Asked kinds.Mx) node = node.mx
places_in (Asked kinds.Txt) node = node.txt
places_in Aliases node = node.aliases

-- each owner is there, with what stands at it, and no other name
pub record IsIndex (records : List Record) (nodes : List (List (List ℕ) × Node)) : Type 0 where
  pub at : (name : List (List ℕ)) → lookup (same_name name) nodes ≡
      (if has_owner records name then Some (summary records name) else None)

-- a name with no record
abbrev pub empty_node : Node
empty_node = record { every = []; a = []; aaaa = []; mx = []; txt = []; aliases = []; delegates = false }

-- the places, with one more behind them where it is to be there
abbrev pub with_place : Bool → List ℕ → ℕ → List ℕ
with_place true places place = places ++ place ∷ []
with_place false places place = places

-- a node with one more record, which has this body, at the place
abbrev pub with_record : Node → ℕ → Body → Node
with_record node place body = record {
  every = with_place (is_chosen Every body) node.every place;
  a = with_place (is_chosen (Asked kinds.A) body) node.a place;
  aaaa = with_place (is_chosen (Asked kinds.Aaaa) body) node.aaaa place;
  mx = with_place (is_chosen (Asked kinds.Mx) body) node.mx place;
  txt = with_place (is_chosen (Asked kinds.Txt) body) node.txt place;
  aliases = with_place (is_chosen Aliases body) node.aliases place;
  delegates = is_delegation body || node.delegates;
}

-- a node where one is to be, and else what was there
abbrev pub filled : Bool → Option Node → Option Node
filled true node = Some (unwrap_or node empty_node)
filled false node = node

-- a lent zone: what its records are, their owners by name and by key, and whether some record delegates
pub record IsLentZone (zone : Zone) (nodes : List (List (List ℕ) × Node)) (order : List Entry) (parted : Bool)
    : Type 0 where
  pub lendable : AreLendable zone.origin zone.records
  pub distinct : distinct_records zone.records ≡ zone.records
  pub few : length zone.records ≤ 65536
  pub index : IsIndex zone.records nodes
  pub sorted : AreSorted order
  pub placed : ArePlaced zone.records order
  pub delegates : parted ≡ list_any (λ r. is_delegation r.body) zone.records

-- the origin of the zone is at or above the name, and has more labels than that of the zone found before
abbrev pub is_deeper : Zone → Option Zone → List (List ℕ) → Bool
is_deeper zone None name = is_under name zone.origin
is_deeper zone (Some other) name = is_under name zone.origin && nat_lt (length other.origin) (length zone.origin)

-- the first item, if there is one
abbrev pub first_of : {X : Type 0} → List X → Option X
first_of [] = None
first_of (x ∷ xs) = Some x

-- the body of the record at the place
abbrev pub body_at : List Record → ℕ → Option Body
body_at records place = option_map (λ r. r.body) (slice_get records place)

-- what the body is an alias for, if there is one
abbrev pub target_in : Option Body → Option (List (List ℕ))
target_in None = None
target_in (Some body) = target_of body

-- the bodies of the records at the places
abbrev pub bodies_at_places : List Record → List ℕ → List Body
bodies_at_places records places = filter_map (body_at records) places

-- the answer of a step, where an alias leads on as told
abbrev pub outcome_of : (List (List ℕ) → Answer) → Step → Answer
outcome_of follow (Known answer) = answer
outcome_of follow (Alias target) = follow target

-- whether the owner of a record is listed
abbrev pub counts : Lent → Record → Bool
counts All r = true
counts Parts r = is_delegation r.body

-- whether the zone's origin is at the name, or an owner that is listed
abbrev pub stands_at : Lent → Zone → List (List ℕ) → Bool
stands_at lent zone name =
    same_name zone.origin name || list_any (λ r. same_name r.owner name && counts lent r) zone.records
