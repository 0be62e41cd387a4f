use Rattle.master_lex.proofs.Lexers.{one_broken as law}
use Rattle.master_lex.proofs.laws.one_broken.Goals as goal

pub returns : goal.returns
returns c = law
