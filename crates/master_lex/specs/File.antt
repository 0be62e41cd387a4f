-- The next entry of a file, and the first broken one.
use Rattle.std.specs.Prelude.{◌≡◌, ℕ, List, [], ◌∷◌, ◌++◌, filter, IsTrue}
use Rattle.master_lex.specs.declared.entry.Entry.{Entry}
use Rattle.master_lex.specs.declared.fault.LexKind.{LexKind}
use Rattle.master_lex.specs.Entries.{AreEntries, has_token}
use Rattle.master_lex.specs.Broken.{IsBroken}

-- the bytes that a lexer has left, and the line on which they begin
pub record Left : Type 0 where
  pub line : ℕ
  pub bytes : List ℕ

-- project's own choice: entries without a token are passed over. The next one that has a token, and the line and the
-- bytes behind it
pub record IsNext (line : ℕ) (bytes : List ℕ) (entry : Entry) (line_behind : ℕ) (behind : List ℕ) : Type 0 where
  pub passed : List Entry
  pub no_tokens : filter has_token passed ≡ []
  pub token : IsTrue (has_token entry)
  pub in_order : AreEntries line bytes (passed ++ entry ∷ []) line_behind behind

-- no entry that has a token is left, and none is broken
pub record IsNoneLeft (line : ℕ) (bytes : List ℕ) : Type 0 where
  pub passed : List Entry
  pub no_tokens : filter has_token passed ≡ []
  pub last : ℕ
  pub in_order : AreEntries line bytes passed last []

-- the next entry is broken: the line on which it begins, and the kind
pub record IsNextBroken (line : ℕ) (bytes : List ℕ) (broken : ℕ) (kind : LexKind) : Type 0 where
  pub passed : List Entry
  pub no_tokens : filter has_token passed ≡ []
  pub rest : List ℕ
  pub place : ℕ
  pub in_order : AreEntries line bytes passed broken rest
  pub fault : IsBroken rest kind place
