-- Macro texts of literals alone.
use Rattle.std.proofs.Common.{◌≡◌, ℕ, Bool, true, List, [], ◌∷◌, ◌++◌, map, refl, sym, ap, inl, append-nil}
use Rattle.std.proofs.lemmas.Bool.{and_parts, or_right}
use Rattle.std.specs.Prelude.{IsTrue}
use Rattle.std.specs.List.{list_all}
use Rattle.spf_macros.specs.declared.piece.Piece.TheVariants.{Literal}
use Rattle.spf_macros.specs.Grammar.{is_literal, is_for_all, is_toplabel, SpellsMacroText, SpellsDomainSpec}

-- a text of literals spells them
pub literals_spell : (text : List ℕ) → IsTrue (list_all is_literal text) → SpellsMacroText text (map Literal text)
literals_spell [] h = refl
literals_spell (b ∷ bs) h =
    let split = and_parts (is_literal b) (list_all is_literal bs) h in
    (b ∷ [], bs, (split.0, refl), literals_spell bs split.1, refl)

pub literals_for_all : (text : List ℕ) → list_all is_for_all (map Literal text) ≡ true
literals_for_all [] = refl
literals_for_all (b ∷ bs) = literals_for_all bs

pub map_append : (xs ys : List ℕ) → map Literal (xs ++ ys) ≡ map Literal xs ++ map Literal ys
map_append [] ys = refl
map_append (x ∷ xs) ys = ap (λ rest. Literal x ∷ rest) (map_append xs ys)

-- a text of literals that ends in a dot and a toplabel is a domain-spec
pub host_spells : (explain : Bool) (front label : List ℕ) → IsTrue (list_all is_literal front) → IsTrue (is_toplabel label)
    → SpellsDomainSpec explain (front ++ 46 ∷ label) (map Literal (front ++ 46 ∷ label))
host_spells explain front label literals top = record {
  front = front;
  end = 46 ∷ label;
  begins = map Literal front;
  ends = map Literal (46 ∷ label);
  first = literals_spell front literals;
  last = inl (label, [], top, inl refl, ap (λ rest. 46 ∷ rest) (sym (append-nil label)), refl);
  letters = or_right explain (list_all is_for_all (map Literal (front ++ 46 ∷ label))) (literals_for_all (front ++ 46 ∷ label));
  whole = refl;
  all = map_append front (46 ∷ label);
}
