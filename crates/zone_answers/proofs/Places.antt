-- The bodies of a name's records, by their places.
use Rattle.std.proofs.Common.{◌≡◌, ℕ, suc, ◌+◌, ◌<◌, ◌≤◌, Bool, true, false, cond, ◌&&◌, List, [], ◌∷◌, ◌++◌, length, map, filter, filter_map, take, drop, get_or, slice_get, option_map, Option, None, Some, refl, sym, ap, ap₂, ◌∙◌, arith, if◌then◌else◌, append_assoc, length-append, take-append-drop}
use Rattle.std.specs.Option.{option_to_list}
use Rattle.std.proofs.lemmas.List.{take_all, take_more}
use Rattle.std.proofs.lemmas.List.Elements.{filter_map-append}
use Rattle.std.proofs.lemmas.Option.{slice_get-get_or}
use Rattle.std.proofs.Math.Seq.{get_or-append_seam}
use Rattle.master_reader.specs.declared.record.Body.{Body}
use Rattle.master_reader.specs.declared.record.Body.TheVariants.{A, Aaaa, Mx, Txt, Cname, Ns, Other}
use Rattle.master_reader.specs.declared.record.Record.{Record}
use Rattle.zone_answers.specs.declared.answer.QKind.{QKind}
use Rattle.zone_answers.specs.declared.node.Chosen.{Chosen}
use Rattle.zone_answers.specs.declared.node.Chosen.TheVariants.{Every, Asked, Aliases}
use Rattle.zone_answers.specs.Zone.{Zone}
use Rattle.zone_answers.specs.Same.{same_name}
use Rattle.zone_answers.specs.Answers.{bodies_at, is_of, target_of}
use Rattle.zone_answers.specs.Index.{is_chosen, places_of, body_at, bodies_at_places, first_of, target_in}

abbrev owned : List Record → List (List ℕ) → List Record
owned records name = filter (λ r. same_name r.owner name) records

abbrev own_bodies : Chosen → List Record → List (List ℕ) → List Body
own_bodies chosen records name = filter (is_chosen chosen) (map (λ r. r.body) (owned records name))

at_seam : (whole front : List Record) (r : Record) (back : List Record) (place : ℕ) → whole ≡ front ++ r ∷ back → place ≡ length front → body_at whole place ≡ Some r.body
at_seam whole front r back place w p =
    ap₂ (λ (l : List Record) (n : ℕ). body_at l n) w p
    ∙ ap (option_map (λ (s : Record). s.body)) (slice_get-get_or (front ++ r ∷ back) (length front) r (omega (arith, length-append front (r ∷ back))) ∙ ap Some (get_or-append_seam front r back r))

place_one : (whole : List Record) (place : ℕ) (body : Body) (t : Bool) (rest : List ℕ) (bodies : List Body) → body_at whole place ≡ Some body → bodies_at_places whole rest ≡ bodies
    → bodies_at_places whole (if t then place ∷ rest else rest) ≡ (if t then body ∷ bodies else bodies)
place_one whole place body false rest bodies h e = e
place_one whole place body true rest bodies h e = ap (λ o. option_cons o (bodies_at_places whole rest)) h ∙ ap (λ l. body ∷ l) e
  where
    option_cons : Option Body → List Body → List Body
    option_cons (Some b) l = b ∷ l
    option_cons None l = l

filter_one : (chosen : Chosen) (r : Record) (records : List Record) (name : List (List ℕ)) (t : Bool)
    → (if t && is_chosen chosen r.body then r.body ∷ own_bodies chosen records name else own_bodies chosen records name) ≡ filter (is_chosen chosen) (map (λ s. s.body) (cond t (r ∷ owned records name) (owned records name)))
filter_one chosen r records name true = refl
filter_one chosen r records name false = refl

places_bodies : (chosen : Chosen) (whole front back : List Record) (place : ℕ) (name : List (List ℕ)) → whole ≡ front ++ back → place ≡ length front → bodies_at_places whole (places_of chosen place back name) ≡ own_bodies chosen back name
places_bodies chosen whole front [] place name w p = refl
places_bodies chosen whole front (r ∷ back) place name w p =
    place_one whole place r.body (same_name r.owner name && is_chosen chosen r.body) (places_of chosen (suc place) back name) (own_bodies chosen back name)
    (at_seam whole front r back place w p)
    (places_bodies chosen whole (front ++ r ∷ []) back (suc place) name (w ∙ sym (append_assoc front (r ∷ []) back)) (omega (arith, p, length-append front (r ∷ []))))
    ∙ filter_one chosen r back name (same_name r.owner name)

-- the bodies at the chosen places of a name are those of its records that are chosen
pub bodies_by_places : (chosen : Chosen) (zone : Zone) (places : List ℕ) (name : List (List ℕ)) → places ≡ places_of chosen 0 zone.records name → bodies_at_places zone.records places ≡ filter (is_chosen chosen) (bodies_at zone name)
bodies_by_places chosen zone places name e = ap (bodies_at_places zone.records) e ∙ places_bodies chosen zone.records [] zone.records 0 name refl refl

every_body : (bodies : List Body) → filter (is_chosen Every) bodies ≡ bodies
every_body [] = refl
every_body (b ∷ bodies) = ap (λ (l : List Body). b ∷ l) (every_body bodies)

pub all_by_places : (zone : Zone) (places : List ℕ) (name : List (List ℕ)) → places ≡ places_of Every 0 zone.records name → bodies_at_places zone.records places ≡ bodies_at zone name
all_by_places zone places name e = bodies_by_places Every zone places name e ∙ every_body (bodies_at zone name)

-- one more place
one_body : (o : Option Body) → filter_map (λ (x : Option Body). x) (o ∷ []) ≡ option_to_list o
one_body None = refl
one_body (Some b) = refl

pub bodies_more : (records : List Record) (places : List ℕ) (i : ℕ) (o : Option Body) → i < length places → o ≡ body_at records (get_or places i 0)
    → bodies_at_places records (take (i + 1) places) ≡ bodies_at_places records (take i places) ++ option_to_list o
bodies_more records places i o lt e =
    ap (bodies_at_places records) (take_more places i 0 lt)
    ∙ filter_map-append (body_at records) (take i places) (get_or places i 0 ∷ [])
    ∙ ap (λ l. bodies_at_places records (take i places) ++ l) (ap (λ (x : Option Body). filter_map (λ (y : Option Body). y) (x ∷ [])) (sym e) ∙ one_body o)

pub bodies_all : (records : List Record) (places : List ℕ) (i : ℕ) → length places ≤ i → bodies_at_places records (take i places) ≡ bodies_at_places records places
bodies_all records places i h = ap (bodies_at_places records) (take_all i places h)

pub bodies_behind : (records : List Record) (places : List ℕ) (i : ℕ) → bodies_at_places records places ≡ bodies_at_places records (take i places) ++ bodies_at_places records (drop i places)
bodies_behind records places i = ap (bodies_at_places records) (sym (take-append-drop i places)) ∙ filter_map-append (body_at records) (take i places) (drop i places)

-- ---- the first alias

abbrev target_at : List Record → Option ℕ → Option (List (List ℕ))
target_at records None = None
target_at records (Some place) = target_in (body_at records place)

alias_one : (whole rest : List Record) (place : ℕ) (places : List ℕ) (t : Bool) (body : Body) → body_at whole place ≡ Some body
    → target_at whole (slice_get places 0) ≡ first_of (filter_map target_of (map (λ s. s.body) rest))
    → target_at whole (slice_get (if t && is_chosen Aliases body then place ∷ places else places) 0) ≡ first_of (filter_map target_of (cond t (body ∷ map (λ s. s.body) rest) (map (λ s. s.body) rest)))
alias_one whole rest place places false body e h = h
alias_one whole rest place places true (A n) e h = h
alias_one whole rest place places true (Aaaa n) e h = h
alias_one whole rest place places true (Mx p x) e h = h
alias_one whole rest place places true (Txt s) e h = h
alias_one whole rest place places true (Cname x) e h = ap target_in e
alias_one whole rest place places true (Ns x) e h = h
alias_one whole rest place places true Other e h = h

bodies_cond : (r : Record) (rest : List Record) (t : Bool) → cond t (r.body ∷ map (λ s. s.body) rest) (map (λ s. s.body) rest) ≡ map (λ (s : Record). s.body) (cond t (r ∷ rest) rest)
bodies_cond r rest true = refl
bodies_cond r rest false = refl

alias_first : (whole front back : List Record) (place : ℕ) (name : List (List ℕ)) → whole ≡ front ++ back → place ≡ length front
    → target_at whole (slice_get (places_of Aliases place back name) 0) ≡ first_of (filter_map target_of (map (λ s. s.body) (owned back name)))
alias_first whole front [] place name w p = refl
alias_first whole front (r ∷ back) place name w p =
    alias_one whole (owned back name) place (places_of Aliases (suc place) back name) (same_name r.owner name) r.body (at_seam whole front r back place w p)
    (alias_first whole (front ++ r ∷ []) back (suc place) name (w ∙ sym (append_assoc front (r ∷ []) back)) (omega (arith, p, length-append front (r ∷ []))))
    ∙ ap (λ (l : List Body). first_of (filter_map target_of l)) (bodies_cond r (owned back name) (same_name r.owner name))

-- the alias at a name is the target at the first place of its aliases
pub alias_at : (zone : Zone) (places : List ℕ) (name : List (List ℕ)) (first : Option ℕ) → places ≡ places_of Aliases 0 zone.records name → first ≡ slice_get places 0
    → target_at zone.records first ≡ first_of (filter_map target_of (bodies_at zone name))
alias_at zone places name first is e =
    ap (target_at zone.records) (e ∙ ap (λ (l : List ℕ). slice_get l 0) is) ∙ alias_first zone.records [] zone.records 0 name refl refl

-- ---- the bodies of a kind

pub found_all : (kind : QKind) (zone : Zone) (name : List (List ℕ)) (places : List ℕ) (i : ℕ) (found : List Body) → places ≡ places_of (Asked kind) 0 zone.records name → length places ≤ i
    → found ≡ bodies_at_places zone.records (take i places) → found ≡ filter (is_of kind) (bodies_at zone name)
found_all kind zone name places i found is le h = h ∙ bodies_all zone.records places i le ∙ bodies_by_places (Asked kind) zone places name is
