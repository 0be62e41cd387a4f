-- The owners of a zone: one more name, and the places that stand at one.
use Rattle.std.proofs.Common.{◌≡◌, ℕ, Bool, true, false, cond, List, [], Option, None, Some, is_some, refl, sym, ap, ap₂, ◌∙◌, true≢false}
use Rattle.std.specs.Map.{lookup}
use Rattle.dns_name.proofs.Names.{same_name_decides}
use Rattle.master_reader.specs.declared.record.Body.{Body}
use Rattle.master_reader.specs.declared.record.Record.{Record}
use Rattle.zone_answers.specs.declared.answer.QKind.TheVariants as kinds
use Rattle.zone_answers.specs.declared.node.Chosen.{Chosen}
use Rattle.zone_answers.specs.declared.node.Chosen.TheVariants.{Every, Asked, Aliases}
use Rattle.zone_answers.specs.declared.node.Node.{Node}
use Rattle.zone_answers.specs.Same.{same_name}
use Rattle.zone_answers.specs.Index.{filled, empty_node, is_chosen, places_of, places_in, summary, with_place, with_record}

abbrev pub at : List (List (List ℕ) × Node) → List (List ℕ) → Option Node
at nodes name = lookup (same_name name) nodes

pub same_true : (a b : List (List ℕ)) → same_name a b ≡ true → a ≡ b
same_true a b h = (same_name_decides a b).0 h

pub same_self : (a b : List (List ℕ)) → a ≡ b → same_name a b ≡ true
same_self a b h = (same_name_decides a b).1 h

pub same_not : (a b : List (List ℕ)) → same_name a b ≡ false → a ≡ b → ⊥
same_not a b h e = true≢false (sym ((same_name_decides a b).1 e) ∙ h)

-- a name that is there
filled_some : (o : Option Node) → is_some o ≡ true → o ≡ filled true o
filled_some None h = absurd (true≢false (sym h))
filled_some (Some v) h = refl

pub filled_there : (nodes : List (List (List ℕ) × Node)) (added name : List (List ℕ)) → is_some (at nodes added) ≡ true → at nodes name ≡ filled (same_name added name) (at nodes name)
filled_there nodes added name h = by (same_name added name) refl
  where
    by : (t : Bool) → same_name added name ≡ t → at nodes name ≡ filled t (at nodes name)
    by false e = refl
    by true e = filled_some (at nodes name) (ap (λ n. is_some (at nodes n)) (sym (same_true added name e)) ∙ h)

-- a name that was not there, and was put there with no record
filled_none : (o : Option Node) → is_some o ≡ false → Some empty_node ≡ filled true o
filled_none None h = refl
filled_none (Some v) h = absurd (true≢false h)

pub filled_new : (old new : List (List (List ℕ) × Node)) (added name : List (List ℕ)) → is_some (at old added) ≡ false
    → at new name ≡ cond (same_name added name) (Some empty_node) (at old name) → at new name ≡ filled (same_name added name) (at old name)
filled_new old new added name h is = by (same_name added name) refl is
  where
    by : (t : Bool) → same_name added name ≡ t → at new name ≡ cond t (Some empty_node) (at old name) → at new name ≡ filled t (at old name)
    by false e i = i
    by true e i = i ∙ filled_none (at old name) (ap (λ n. is_some (at old n)) (sym (same_true added name e)) ∙ h)

-- ---- the places that stand at a name

-- nodes with the same places, whichever are chosen
pub same_node : (n m : Node) → ((chosen : Chosen) → places_in chosen n ≡ places_in chosen m) → n.delegates ≡ m.delegates → n ≡ m
same_node n m f d =
    ap₂ (λ (l k : List ℕ). let x : Node = record { every = l; a = k; aaaa = n.aaaa; mx = n.mx; txt = n.txt; aliases = n.aliases; delegates = n.delegates } in x) (f Every) (f (Asked kinds.A))
    ∙ ap₂ (λ (l k : List ℕ). let x : Node = record { every = m.every; a = m.a; aaaa = l; mx = k; txt = n.txt; aliases = n.aliases; delegates = n.delegates } in x) (f (Asked kinds.Aaaa)) (f (Asked kinds.Mx))
    ∙ ap₂ (λ (l k : List ℕ). let x : Node = record { every = m.every; a = m.a; aaaa = m.aaaa; mx = m.mx; txt = l; aliases = k; delegates = n.delegates } in x) (f (Asked kinds.Txt)) (f Aliases)
    ∙ ap (λ (b : Bool). let x : Node = record { every = m.every; a = m.a; aaaa = m.aaaa; mx = m.mx; txt = m.txt; aliases = m.aliases; delegates = b } in x) d

pub in_empty : (chosen : Chosen) → places_in chosen empty_node ≡ []
in_empty Every = refl
in_empty (Asked kinds.A) = refl
in_empty (Asked kinds.Aaaa) = refl
in_empty (Asked kinds.Mx) = refl
in_empty (Asked kinds.Txt) = refl
in_empty Aliases = refl

pub in_summary : (chosen : Chosen) (records : List Record) (name : List (List ℕ)) → places_in chosen (summary records name) ≡ places_of chosen 0 records name
in_summary Every records name = refl
in_summary (Asked kinds.A) records name = refl
in_summary (Asked kinds.Aaaa) records name = refl
in_summary (Asked kinds.Mx) records name = refl
in_summary (Asked kinds.Txt) records name = refl
in_summary Aliases records name = refl

pub in_more : (chosen : Chosen) (node : Node) (place : ℕ) (body : Body) → places_in chosen (with_record node place body) ≡ with_place (is_chosen chosen body) (places_in chosen node) place
in_more Every node place body = refl
in_more (Asked kinds.A) node place body = refl
in_more (Asked kinds.Aaaa) node place body = refl
in_more (Asked kinds.Mx) node place body = refl
in_more (Asked kinds.Txt) node place body = refl
in_more Aliases node place body = refl
