use Rattle.std.proofs.Common.{◌≡◌, ◌++◌, ◌∷◌, flat_map, drop}
use Rattle.spf_grammar.specs.Written.{written_flat}
use Rattle.record_pack.specs.Records.{terms_text}
use Rattle.zone_writer.proofs.record.write_terms.Given as goal

-- the terms that are left are what is missing
abbrev pub invariant-loop-term : goal.invariant-loop-term
invariant-loop-term l = l.text ++ flat_map (λ term. 32 ∷ written_flat term) (drop l.term-index l.terms) ≡ terms_text l.terms
