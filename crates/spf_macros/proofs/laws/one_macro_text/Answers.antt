use Rattle.spf_macros.proofs.OneReading.{one_macro_text}
use Rattle.spf_macros.proofs.laws.one_macro_text.Goals as goal

pub returns : goal.returns
returns c = one_macro_text
