-- What an entry asks for, by how it begins.
use Rattle.std.proofs.Common.{◌≡◌, ℕ, true, false, cond, not, ◌&&◌, List, [], ◌∷◌, Option, Some, Result, Ok, Err, sym, ap, ap₂, ◌∙◌, subst, ◌-◌, ◌<◌, length, get_or, take, drop, arith}
use Rattle.std.proofs.Math.Seq.{take_all}
use Rattle.std.specs.Prelude.{MatchResult}
use Rattle.master_lex.specs.declared.entry.Token.{Token}
use Rattle.master_lex.specs.declared.entry.Entry.{Entry}
use Rattle.master_reader.specs.declared.fault.Kind.{Kind}
use Rattle.master_reader.specs.declared.meaning.Ask.{Ask as Answer}
use Rattle.master_reader.specs.Tokens.{name_in}
use Rattle.master_reader.specs.Entry.{◌>>=◌, Context, Ask, ask_of, record_ask, last_owner_ask, stated_owner_ask, first_word_ask, first_passes, is_dollar_word}
use Rattle.master_reader.specs.Asks.{ask_in}

pub answers_along : (x y : Result Ask Kind) (r : Result Answer Kind) → x ≡ y → MatchResult r (λ ask. x ≡ Ok (ask_in ask)) (λ kind. x ≡ Err kind) → MatchResult r (λ ask. y ≡ Ok (ask_in ask)) (λ kind. y ≡ Err kind)
answers_along x y r e h = subst (λ (t : Result Ask Kind). MatchResult r (λ ask. t ≡ Ok (ask_in ask)) (λ kind. t ≡ Err kind)) e h

-- an entry that begins with a blank
pub blank_asks : (context : Context) (entry : Entry) (owner : List (List ℕ)) (tokens : List Token) → entry.blank ≡ true → context.owner ≡ Some owner → tokens ≡ entry.tokens → record_ask owner tokens ≡ ask_of context entry
blank_asks context entry owner tokens blank last same =
    sym (ap (λ b. cond b (last_owner_ask context.owner entry.tokens) (cond (not b && first_passes is_dollar_word entry.tokens) (first_word_ask context.origin entry.tokens) (stated_owner_ask context.origin entry.tokens))) blank
    ∙ ap₂ (λ (o : Option (List (List ℕ))) (l : List Token). last_owner_ask o l) last (sym same))

-- an entry that states its owner
pub stated_asks : (context : Context) (entry : Entry) (first : Token) (behind : List Token) (owner : List (List ℕ)) → entry.blank ≡ false → entry.tokens ≡ first ∷ behind → is_dollar_word first ≡ false → name_in context.origin first ≡ Ok owner
    → record_ask owner behind ≡ ask_of context entry
stated_asks context entry first behind owner blank cut word named =
    sym (ap (λ b. cond b (last_owner_ask context.owner entry.tokens) (cond (not b && first_passes is_dollar_word entry.tokens) (first_word_ask context.origin entry.tokens) (stated_owner_ask context.origin entry.tokens))) blank
    ∙ ap (λ (l : List Token). cond (first_passes is_dollar_word l) (first_word_ask context.origin l) (stated_owner_ask context.origin l)) cut
    ∙ ap (λ b. cond b (first_word_ask context.origin (first ∷ behind)) (stated_owner_ask context.origin (first ∷ behind))) word
    ∙ ap (λ (r : Result (List (List ℕ)) Kind). r >>= λ owner. record_ask owner behind) named)

-- what holds of a result that is Ok
pub at_ok : {A E : Type 0} (P : A → Type 0) (Q : E → Type 0) (r : Result A E) (x : A) → MatchResult r P Q → r ≡ Ok x → P x
at_ok P Q r x h e = subst (λ t. MatchResult t P Q) e h

pub split_first : (tokens : List Token) (first : Token) → 0 < length tokens → first ≡ get_or tokens 0 first → tokens ≡ first ∷ take (length tokens - 1) (drop 1 tokens)
split_first [] first some is = absurd (omega arith)
split_first (t ∷ tokens) first some is = ap₂ (λ (x : Token) (l : List Token). x ∷ l) (sym is) (sym (take_all (length (t ∷ tokens) - 1) tokens (omega arith)))
