use Rattle.master_lex.proofs.Lexers.{one_next as law}
use Rattle.master_lex.proofs.laws.one_next.Goals as goal

pub returns : goal.returns
returns c = λ line bytes entry other number number' behind behind' n x. law line bytes entry other number number' behind behind' n x
