use Rattle.spf_macros.proofs.WrittenForm.{written_spells}
use Rattle.spf_macros.proofs.laws.written_macro_text.Goals as goal

pub returns : goal.returns
returns c = written_spells
