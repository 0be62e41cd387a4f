use Rattle.std.proofs.Common.{◌≡◌, drop}
use Rattle.spf_grammar.specs.Flat.{first as first_of}
use Rattle.spf_grammar.proofs.flat.first.Given as goal

-- the terms that are left decide
abbrev pub invariant-loop-term : goal.invariant-loop-term
invariant-loop-term l = first_of (drop l.term-index l.list) l.a ≡ first_of l.fn.list l.fn.a
