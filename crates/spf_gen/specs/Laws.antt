-- What the numbers of a zone's networks are.
use Rattle.std.specs.Prelude.{◌≡◌}
use Rattle.spf_grammar.specs.declared.flat.Net.TheVariants.{V4}
use Rattle.spf_grammar.specs.declared.verdict.Verdict.TheVariants.{Pass}
use Rattle.spf_gen.specs.Networks.{term}

-- project's own choice: the first network that the number 0 makes is 20.5.123.96/27 (335903584 is its first address)
abbrev pub FirstOfZero : Type 0
FirstOfZero = term 0 0 ≡ record { verdict = Pass; net = V4 (record { start = 335903584; len = 27 }) }
