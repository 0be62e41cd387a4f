-- What holds of the texts of answers and of kept lists, as statements.
use Rattle.std.specs.Prelude.{◌≡◌, ℕ, ◌↔◌, List}
use Rattle.zone_answers.specs.Zone.{Zone}
use Rattle.zone_answers.specs.declared.answer.Question.{Question}
use Rattle.bound_table.specs.Reading.{lines_of}
use Rattle.std.specs.List.{AllByRecursion}
use Rattle.dns_name.specs.Name.{IsName}
use Rattle.kept_lists.specs.declared.kept.Kept.{Kept}
use Rattle.kept_lists.specs.declared.kept.KeptLine.{KeptLine}
use Rattle.kept_lists.specs.Alike.{AreAlike, IsText}
use Rattle.kept_lists.specs.Lists.{Agrees, AreReadingLimits, HasRoom, IsKeptDomain, kept_text}
use Rattle.kept_lists.specs.Reading.{AreKept, AreNotKept}

-- a question has one text over zones; and two zones answer a question alike exactly where their texts are equal
pub record TextsTell : Type 0 where
  pub one : (zones : List Zone) (question : Question) (a b : List ℕ) → IsText zones question a
      → IsText zones question b → a ≡ b
  pub tell : (zones others : List Zone) (question : Question) (a b : List ℕ) → IsText zones question a
      → IsText others question b → AreAlike zones others question ↔ (a ≡ b)

-- lines are at most one kept list; they are never one and none, and at most one of them is the first at fault
pub record OneKept : Type 0 where
  pub one : (texts : List (List ℕ)) (a b : Kept) → AreKept texts a → AreKept texts b → a ≡ b
  pub never_both : (texts : List (List ℕ)) (kept : Kept) (place : ℕ) → AreKept texts kept → ¬ AreNotKept texts place
  pub one_fault : (texts : List (List ℕ)) (a b : ℕ) → AreNotKept texts a → AreNotKept texts b → a ≡ b

-- a question with a legal name, which has room to be reversed
abbrev pub IsKeepable : Question → Type 0
IsKeepable question = IsName question.name × HasRoom question.kind question.name

-- what may be kept: a domain in lower case, limits in their ranges, and lines of such questions, each with what some
-- zones say to it
pub record IsKeep (zones : List Zone) (kept : Kept) : Type 0 where
  pub named : IsKeptDomain kept.domain
  pub ranges : AreReadingLimits kept.limits
  pub legal : AllByRecursion (λ line. IsKeepable line.question) kept.lines
  pub agree : AllByRecursion (Agrees zones) kept.lines

-- the text of what may be kept is read back as it
abbrev pub KeptIsRead : Type 0
KeptIsRead = (zones : List Zone) (kept : Kept) → IsKeep zones kept → AreKept (lines_of (kept_text kept)) kept
