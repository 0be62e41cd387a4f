use Rattle.std.proofs.Common.{[], List, None, subst, sym}
use Rattle.master_lex.specs.declared.entry.Token.{Token}
use Rattle.master_lex.specs.declared.part.Part.TheVariants.{Outside}
use Rattle.master_lex.specs.Pieces.{StandsFor}
use Rattle.master_lex.proofs.Pieces.{fresh_stands}
use Rattle.master_lex.proofs.cutter.Cutter.from_line.Goals as goal

pub returns-clause-none : goal.returns-clause-none
returns-clause-none c = λ some.
    subst (λ (tokens : List Token). StandsFor c.args.line (record { line = c.args.line; here = c.args.line; lead = None; depth = 0; tokens = tokens; part = Outside }) [] []) (sym c.new.ensures)
    (fresh_stands c.args.line some c.ranges.line.fits)
