-- What the lent zones say for an address.
use Rattle.std.proofs.Common.{◌≡◌, List, refl, sym, ◌∙◌, ap, arith}
use Rattle.addr_bits.specs.Address.{family_of}
use Rattle.addr_bits.specs.declared.address.Address.{Address}
use Rattle.addr_bits.specs.declared.address.Address.TheVariants.{V4, V6}
use Rattle.addr_bits.specs.declared.address.Family.{Family}
use Rattle.addr_bits.specs.declared.address.Family.TheVariants as family
use Rattle.zone_answers.specs.Answers.{answer_of}
use Rattle.zone_answers.specs.Questions.{ask_kind_of, reversed_kind}
use Rattle.zone_answers.specs.Reversed.{class_of, reversed_class, reversed_name}
use Rattle.zone_answers.specs.Zone.{Zone}
use Rattle.zone_answers.specs.declared.answer.Answer.{Answer}
use Rattle.zone_answers.specs.declared.answer.QKind.{QKind}
use Rattle.zone_answers.specs.declared.answer.QKind.TheVariants.{A, Aaaa, Mx, Txt}
use Rattle.zone_answers.specs.declared.class.Class.{Class}
use Rattle.zone_answers.specs.declared.class.Class.TheVariants.{Hit, Void, Beyond, Round}
use Rattle.spf_model.specs.Judging.{Labels, question_of, reversed_question}
use Rattle.spf_model.specs.Laws.{SaidAlike}
use Rattle.spf_model.specs.Run.{heard, said, says}

said_plainly : (zones : List Zone) (name : Labels) (a : Address) (kind : QKind) → answer_of zones name kind ≡ said zones name a (ask_kind_of kind)
said_plainly zones name a A = refl
said_plainly zones name a Aaaa = refl
said_plainly zones name a Mx = refl
said_plainly zones name a Txt = refl

-- records of a kind are answered alike for all addresses
pub plainly : (zones : List Zone) (name : Labels) (kind : QKind) (a : Address) → answer_of zones name kind ≡ says zones a (question_of kind name)
unfolding says
plainly zones name kind a = said_plainly zones name a kind

said_reversed : (zones : List Zone) (name : Labels) (a : Address) → said zones name a (reversed_kind (family_of a)) ≡ heard (reversed_class zones name a)
said_reversed zones name (V4 a) = refl
said_reversed zones name (V6 a) = refl

-- at the reversed name of an address the class is heard
pub reversely : (zones : List Zone) (name : Labels) (a : Address) → says zones a (reversed_question (family_of a) name) ≡ heard (reversed_class zones name a)
unfolding says
reversely zones name a = said_reversed zones name a

-- so it is where the zones were asked
pub class_told : (zones : List Zone) (name : Labels) (f : Family) (a : Address) (found : Answer) (class : Class) → f ≡ family_of a → found ≡ answer_of zones (reversed_name a name) A
    → class ≡ class_of found → says zones a (reversed_question f name) ≡ heard class
unfolding reversed_class
class_told zones name f a found class is e told =
    ap (λ (g : Family). says zones a (reversed_question g name)) is ∙ reversely zones name a ∙ ap heard (sym (told ∙ ap class_of e))

-- and nothing of an address of the other family
said_other : (zones others : List Zone) (name : Labels) (f : Family) (a : Address)
    → ((family_of a ≡ f) → reversed_class others name a ≡ reversed_class zones name a)
    → said others name a (reversed_kind f) ≡ said zones name a (reversed_kind f)
said_other zones others name family.V4 (V4 a) e = ap heard (e refl)
said_other zones others name family.V6 (V6 a) e = ap heard (e refl)
said_other zones others name family.V4 (V6 a) e = refl
said_other zones others name family.V6 (V4 a) e = refl

other_says : (zones others : List Zone) (name : Labels) (f : Family) (a : Address)
    → ((family_of a ≡ f) → reversed_class others name a ≡ reversed_class zones name a)
    → says others a (reversed_question f name) ≡ says zones a (reversed_question f name)
unfolding says
other_says zones others name f a e = said_other zones others name f a e

-- a class is heard as it is
class_heard : (c : Class) → class_of (heard c) ≡ c
class_heard Hit = refl
class_heard Void = refl
class_heard Beyond = refl
class_heard Round = refl

heard_once : (c d : Class) → heard c ≡ heard d → c ≡ d
heard_once c d e = sym (class_heard c) ∙ ap class_of e ∙ class_heard d

one_class : (zones others : List Zone) (name : Labels) (f : Family) (a : Address) → family_of a ≡ f
    → says others a (reversed_question f name) ≡ says zones a (reversed_question f name) → reversed_class others name a ≡ reversed_class zones name a
one_class zones others name f a is e =
    heard_once (reversed_class others name a) (reversed_class zones name a)
    (sym (reversely others name a) ∙ ap (λ (g : Family). says others a (reversed_question g name)) is ∙ e
    ∙ sym (ap (λ (g : Family). says zones a (reversed_question g name)) is) ∙ reversely zones name a)

pub said_alike : SaidAlike
said_alike = record {
  plain = λ zones others name kind. (
    (λ alike. plainly others name kind (V4 0) ∙ alike (V4 0) (omega arith) ∙ sym (plainly zones name kind (V4 0))),
    (λ e a is. sym (plainly others name kind a) ∙ e ∙ plainly zones name kind a),
  );
  reversed = λ zones others name f. (
    (λ alike a is fam. one_class zones others name f a fam (alike a is)),
    (λ e a is. other_says zones others name f a (λ fam. e a is fam)),
  );
}
