-- The records of a chain, one after another.
use Rattle.std.proofs.Common.{ℕ, ◌≡◌, ◌+◌, ◌<◌, ◌==◌, List, [], ◌∷◌, ◌++◌, length, drop, get_or, sym, ap, ◌∙◌, subst, arith, append_assoc, eq-eqb, ne_eqb}
use Rattle.std.proofs.lemmas.List.{drop_more, length-drop}
use Rattle.spf_grammar.specs.declared.flat.FlatTerm.{FlatTerm}
use Rattle.record_pack.specs.Records.{RiseTo, piece, pieces_from, record_text}
use Rattle.zone_writer.specs.Fragment.{is_none, owner_text, record_line, record_lines}

-- the last record is the one behind which no end is left
last_is : (list : List FlatTerm) (from i n : ℕ) (ends : List ℕ) → n ≡ i + 1 + length ends → (i + 1 == n) ≡ is_none (pieces_from list from ends)
last_is list from i n [] e = eq-eqb (i + 1) n (omega (arith, e))
last_is list from i n (to ∷ ends) e = ne_eqb (i + 1) n (λ same. absurd (omega (arith, e, same)))

-- what a loop over the ends keeps
pub record Lacks (domain label : List ℕ) (list : List FlatTerm) (ends : List ℕ) (whole : List ℕ) (from i : ℕ) (zone : List ℕ) : Type 0 where
  pub rise : RiseTo from (length list) (drop i ends)
  pub missing : zone ++ record_lines domain label i (pieces_from list from (drop i ends)) ≡ whole

-- a record is written
pub lacks_less : (domain label : List ℕ) (list : List FlatTerm) (ends whole : List ℕ) (from i : ℕ) (zone new : List ℕ) → i < length ends
    → new ≡ zone ++ record_line (owner_text label i) (record_text domain label (piece list from (get_or ends i 0)) i (i + 1 == length ends))
    → Lacks domain label list ends whole from i zone → Lacks domain label list ends whole (get_or ends i 0) (i + 1) new
lacks_less domain label list ends whole from i zone new inside w lacks =
    let to : ℕ = get_or ends i 0 in
    let rest : List ℕ = drop (i + 1) ends in
    let e : drop i ends ≡ to ∷ rest = drop_more ends i 0 inside in
    let n : length ends ≡ i + 1 + length rest = omega (arith, length-drop (i + 1) ends) in
    let rise : RiseTo from (length list) (to ∷ rest) = subst (λ es. RiseTo from (length list) es) e lacks.rise in
    record {
      rise = rise.2;
      missing =
          ap (λ z. z ++ record_lines domain label (i + 1) (pieces_from list to rest))
          (w ∙ ap (λ b. zone ++ record_line (owner_text label i) (record_text domain label (piece list from to) i b)) (last_is list to i (length ends) rest n))
          ∙ append_assoc zone _ _
          ∙ sym (ap (λ es. zone ++ record_lines domain label i (pieces_from list from es)) e)
          ∙ lacks.missing;
    }
