-- The index of a zone's records, one record at a time.
use Rattle.std.proofs.Common.{◌≡◌, ℕ, suc, ◌+◌, Bool, true, false, cond, ◌||◌, ◌&&◌, List, [], ◌∷◌, ◌++◌, length, Option, None, Some, refl, sym, ap, ap₂, ◌∙◌, true≢false, arith, if◌then◌else◌, IsSome}
use Rattle.std.proofs.lemmas.Bool.{or_right}
use Rattle.std.proofs.Math.Bool.{or_comm}
use Rattle.std.specs.List.{list_any}
use Rattle.master_reader.specs.declared.record.Record.{Record}
use Rattle.zone_answers.specs.declared.node.Chosen.{Chosen}
use Rattle.zone_answers.specs.declared.node.Chosen.TheVariants.{Every}
use Rattle.zone_answers.specs.declared.node.Node.{Node}
use Rattle.zone_answers.specs.Same.{same_name}
use Rattle.zone_answers.specs.Answers.{is_delegation}
use Rattle.zone_answers.specs.Index.{is_chosen, places_of, has_delegation, has_owner, summary, IsIndex, empty_node, filled, with_place, with_record}
use Rattle.zone_answers.proofs.Nodes.{at, same_true, same_self, same_node, in_empty, in_summary, in_more}

or_false : (b : Bool) → b || false ≡ b
or_false true = refl
or_false false = refl

or_assoc : (a b c : Bool) → a || (b || c) ≡ (a || b) || c
or_assoc true b c = refl
or_assoc false b c = refl

pub any_push : {X : Type 0} (test : X → Bool) (xs : List X) (x : X) → list_any test (xs ++ x ∷ []) ≡ (list_any test xs || test x)
any_push test [] x = or_false (test x)
any_push test (y ∷ ys) x = ap (λ b. test y || b) (any_push test ys x) ∙ or_assoc (test y) (list_any test ys) (test x)

has_owner-push : (records : List Record) (added : Record) (name : List (List ℕ)) → has_owner (records ++ added ∷ []) name ≡ (has_owner records name || same_name added.owner name)
has_owner-push records added name = any_push (λ r. same_name r.owner name) records added

has_delegation-push : (records : List Record) (added : Record) (name : List (List ℕ)) → has_delegation (records ++ added ∷ []) name ≡ (has_delegation records name || (same_name added.owner name && is_delegation added.body))
has_delegation-push records added name = any_push (λ r. same_name r.owner name && is_delegation r.body) records added

-- one more record: each list of its owner's places has one more, if the record is one of those that are chosen
place-push : (place last : ℕ) (t u : Bool) (rest whole : List ℕ) → whole ≡ with_place u rest last → (if t then place ∷ whole else whole) ≡ with_place u (if t then place ∷ rest else rest) last
place-push place last true true rest whole e = ap (λ l. place ∷ l) e
place-push place last true false rest whole e = ap (λ l. place ∷ l) e
place-push place last false u rest whole e = e

place-first : (place : ℕ) (t : Bool) → (if t then place ∷ [] else []) ≡ with_place t [] (place + 0)
place-first place true = ap (λ n. n ∷ []) (omega arith)
place-first place false = refl

places-push : (chosen : Chosen) (place : ℕ) (records : List Record) (added : Record) (name : List (List ℕ))
    → places_of chosen place (records ++ added ∷ []) name ≡ with_place (same_name added.owner name && is_chosen chosen added.body) (places_of chosen place records name) (place + length records)
places-push chosen place [] added name = place-first place (same_name added.owner name && is_chosen chosen added.body)
places-push chosen place (r ∷ records) added name =
    let here : Bool = same_name added.owner name && is_chosen chosen added.body in
    place-push place (place + suc (length records)) (same_name r.owner name && is_chosen chosen r.body) here (places_of chosen (suc place) records name) (places_of chosen (suc place) (records ++ added ∷ []) name)
    (places-push chosen (suc place) records added name ∙ ap (with_place here (places_of chosen (suc place) records name)) (omega arith))

-- a name that is no owner has no record
no_place-one : (place : ℕ) (chosen is had rest : Bool) (places : List ℕ) (t : Bool) → t || rest ≡ false → (rest ≡ false → (places ≡ []) × (had ≡ false))
    → ((if t && chosen then place ∷ places else places) ≡ []) × ((t && is) || had ≡ false)
no_place-one place chosen is had rest places true k more = absurd (true≢false k)
no_place-one place chosen is had rest places false k more = more k

pub no_place : (chosen : Chosen) (place : ℕ) (records : List Record) (name : List (List ℕ)) → has_owner records name ≡ false → (places_of chosen place records name ≡ []) × (has_delegation records name ≡ false)
no_place chosen place [] name h = (refl, refl)
no_place chosen place (r ∷ records) name h =
    no_place-one place (is_chosen chosen r.body) (is_delegation r.body) (has_delegation records name) (has_owner records name) (places_of chosen (suc place) records name) (same_name r.owner name) h (no_place chosen (suc place) records name)

no_record : (records : List Record) (name : List (List ℕ)) → has_owner records name ≡ false → summary records name ≡ empty_node
no_record records name h = same_node (summary records name) empty_node (λ chosen. in_summary chosen records name ∙ (no_place chosen 0 records name h).0 ∙ sym (in_empty chosen)) (no_place Every 0 records name h).1

-- one more owner, with what stood at it
abbrev if_there : Bool → Node → Option Node
if_there there node = if there then Some node else None

filled_more : (h u : Bool) (node : Node) → (h ≡ false → node ≡ empty_node) → filled u (if_there h node) ≡ if_there (h || u) node
filled_more true true node e = refl
filled_more true false node e = refl
filled_more false true node e = ap Some (sym (e refl))
filled_more false false node e = refl

-- what stands at a name beside one more record
pushed_here : (records : List Record) (added : Record) (name : List (List ℕ)) → same_name added.owner name ≡ true → summary (records ++ added ∷ []) name ≡ with_record (summary records name) (length records) added.body
pushed_here records added name e = same_node _ _
    (λ chosen. in_summary chosen (records ++ added ∷ []) name ∙ places-push chosen 0 records added name
    ∙ ap₂ (λ (t : Bool) (n : ℕ). with_place (t && is_chosen chosen added.body) (places_of chosen 0 records name) n) e (omega arith)
    ∙ ap (λ (l : List ℕ). with_place (is_chosen chosen added.body) l (length records)) (sym (in_summary chosen records name))
    ∙ sym (in_more chosen (summary records name) (length records) added.body))
    (has_delegation-push records added name ∙ ap (λ t. has_delegation records name || (t && is_delegation added.body)) e ∙ or_comm (has_delegation records name) (is_delegation added.body))

pushed_elsewhere : (records : List Record) (added : Record) (name : List (List ℕ)) → same_name added.owner name ≡ false → summary (records ++ added ∷ []) name ≡ summary records name
pushed_elsewhere records added name e = same_node _ _
    (λ chosen. in_summary chosen (records ++ added ∷ []) name ∙ places-push chosen 0 records added name
    ∙ ap (λ t. with_place (t && is_chosen chosen added.body) (places_of chosen 0 records name) (0 + length records)) e ∙ sym (in_summary chosen records name))
    (has_delegation-push records added name ∙ ap (λ t. has_delegation records name || (t && is_delegation added.body)) e ∙ or_false (has_delegation records name))

pub index_more : (records : List Record) (added : Record) (old mid final : List (List (List ℕ) × Node)) (node new : Node)
    → IsIndex records old
    → ((name : List (List ℕ)) → at mid name ≡ filled (same_name added.owner name) (at old name))
    → at mid added.owner ≡ Some node
    → new ≡ with_record node (length records) added.body
    → ((name : List (List ℕ)) → at final name ≡ cond (same_name added.owner name) (Some new) (at mid name))
    → IsIndex (records ++ added ∷ []) final
index_more records added old mid final node new index names here is writes = record { at = each }
  where
    in_mid : (name : List (List ℕ)) → at mid name ≡ if_there (has_owner (records ++ added ∷ []) name) (summary records name)
    in_mid name = names name ∙ ap (filled (same_name added.owner name)) (index.at name)
        ∙ filled_more (has_owner records name) (same_name added.owner name) (summary records name) (no_record records name)
        ∙ ap (λ t. if_there t (summary records name)) (sym (has_owner-push records added name))

    there : (name : List (List ℕ)) → same_name added.owner name ≡ true → has_owner (records ++ added ∷ []) name ≡ true
    there name e = has_owner-push records added name ∙ or_right (has_owner records name) (same_name added.owner name) e

    own : node ≡ summary records added.owner
    own = let e = sym here ∙ in_mid added.owner ∙ ap (λ t. if_there t (summary records added.owner)) (there added.owner (same_self added.owner added.owner refl)) in cc

    each : (name : List (List ℕ)) → at final name ≡ if_there (has_owner (records ++ added ∷ []) name) (summary (records ++ added ∷ []) name)
    each name = writes name ∙ by (same_name added.owner name) refl
      where
        by : (t : Bool) → same_name added.owner name ≡ t → cond t (Some new) (at mid name) ≡ if_there (has_owner (records ++ added ∷ []) name) (summary (records ++ added ∷ []) name)
        by false e = in_mid name ∙ ap (if_there (has_owner (records ++ added ∷ []) name)) (sym (pushed_elsewhere records added name e))
        by true e =
            ap Some (is ∙ ap (λ (n : Node). with_record n (length records) added.body) (own ∙ ap (summary records) (same_true added.owner name e)) ∙ sym (pushed_here records added name e))
            ∙ ap (λ t. if_there t (summary (records ++ added ∷ []) name)) (sym (there name e))

-- an owner is there once its names are
pub owner_there : (owner : List (List ℕ)) (old mid : Option Node) → mid ≡ filled (same_name owner owner) old → mid ≡ None → ⊥
owner_there owner old mid e none = let f : filled true old ≡ None = ap (λ t. filled t old) (sym (same_self owner owner refl)) ∙ sym e ∙ none in absurd cc

pub some_there : {X : Type 0} (o : Option X) (x : X) → o ≡ Some x → IsSome o
some_there None x e = absurd cc
some_there (Some y) x e = refl
