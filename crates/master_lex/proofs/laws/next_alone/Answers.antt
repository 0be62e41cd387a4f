use Rattle.master_lex.proofs.Lexers.{next_not_none, next_not_broken}
use Rattle.master_lex.proofs.laws.next_alone.Goals as goal

pub returns : goal.returns
returns c = λ line bytes entry number behind n. ((λ x. next_not_none line bytes entry number behind n x), (λ broken kind x. next_not_broken line bytes entry number behind broken kind n x))
