use Rattle.master_lex.proofs.Lexers.{none_not_broken}
use Rattle.master_lex.proofs.laws.broken_alone.Goals as goal

pub returns : goal.returns
returns c = λ line bytes broken kind x a. none_not_broken line bytes broken kind a x
