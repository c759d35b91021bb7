-- The texts of answers.
use Rattle.std.proofs.Common.{◌≡◌, ℕ, List, length, Some, None, Ok, Err, codes, sym, subst, ◌∙◌}
use Rattle.spelling.specs.Spelling.{IsRead}
use Rattle.presentation.specs.Presented.{Presented, IsPresented}
use Rattle.presentation.proofs.WritingBack.{names_of}
use Rattle.outcomes.specs.declared.verdicts.Verdict.{Verdict}
use Rattle.session_text.specs.declared.question.Question.{Question}
use Rattle.session_text.specs.Questions.{IsWritable}
use Rattle.session_text.specs.Writing.{written_question}
use Rattle.session_text.proofs.QuestionBack.{one_spelling}
use Rattle.vector_text.specs.declared.fault.SpellFault.{SpellFault}
use Rattle.vector_text.specs.declared.fault.SpellFault.TheVariants.{Spelling, NoMemory}
use Rattle.vector_text.specs.Reading.{Reads}
use Rattle.report_lines.specs.Parts.{headed, IsHead, paired, AreBoth, itself, HasNoColon}
use Rattle.report_lines.specs.Texts.{verdict_text, answer_text}
use Rattle.report_lines.specs.Lines.{IsVerdictOf, MayAnswer, IsAnswer}
use Rattle.report_lines.proofs.Pairs.{IsFirst, colon_first, colon_missing, front_fails, back_fails, around_both, pair_same}
use Rattle.report_lines.proofs.QuestionTexts.{question_lacks}
use Rattle.report_lines.proofs.VerdictTexts.{verdict_same}

-- a question and its verdict
abbrev pub answer : List (List ℕ) → Question × Verdict → List ℕ
answer names x = answer_text names x.0 x.1

abbrev pub IsPair : Presented → Question × Verdict → Type 0
IsPair p x = IsAnswer p x.0 x.1

-- the same without the rule on which verdict may stand for which question
abbrev parts_text : List (List ℕ) → Question × Verdict → List ℕ
parts_text names = paired (written_question names) (codes " : ") (verdict_text names)

abbrev AreParts : Presented → Question × Verdict → Type 0
AreParts p = AreBoth (IsWritable p) (IsVerdictOf (length p.names))

lacks : (p : Presented) → IsPresented p → (q : Question) → IsWritable p q → HasNoColon (written_question p.names q)
lacks p known q h = question_lacks p known q h

parts_fail : (p : Presented) (text : List ℕ) (f : SpellFault) → Reads (parts_text p.names) (AreParts p) text (Err f)
    → Reads (answer p.names) (IsPair p) text (Err f)
parts_fail p text Spelling bad = λ x h e. bad x (h.question, h.verdict) e
parts_fail p text NoMemory bad = tt

pub no_parts : (p : Presented) → IsPresented p → (text : List ℕ) → IsRead (headed itself (codes " : ")) (IsHead HasNoColon) text None
    → Reads (answer p.names) (IsPair p) text (Err Spelling)
no_parts p known text bad =
    parts_fail p text Spelling (colon_missing (written_question p.names) (IsWritable p) (verdict_text p.names) (IsVerdictOf (length p.names))
    (lacks p known) text bad)

pub no_question : (p : Presented) → IsPresented p → (text front rest : List ℕ)
    → IsRead (headed itself (codes " : ")) (IsHead HasNoColon) text (Some (front, rest))
    → IsRead (written_question p.names) (IsWritable p) front None → Reads (answer p.names) (IsPair p) text (Err Spelling)
no_question p known text front rest a bad =
    parts_fail p text Spelling (front_fails (written_question p.names) (IsWritable p) (verdict_text p.names) (IsVerdictOf (length p.names)) (lacks p known) text
    front rest a Spelling bad)

pub verdict_fails : (p : Presented) → IsPresented p → (text front rest : List ℕ)
    → IsRead (headed itself (codes " : ")) (IsHead HasNoColon) text (Some (front, rest))
    → (f : SpellFault) → Reads (verdict_text p.names) (IsVerdictOf (length p.names)) rest (Err f) → Reads (answer p.names) (IsPair p) text (Err f)
verdict_fails p known text front rest a f bad =
    parts_fail p text f (back_fails (written_question p.names) (IsWritable p) (verdict_text p.names) (IsVerdictOf (length p.names)) (lacks p known) text
    front rest a f bad)

both : (p : Presented) (text front rest : List ℕ) (q : Question) (v : Verdict)
    → IsRead (headed itself (codes " : ")) (IsHead HasNoColon) text (Some (front, rest))
    → IsRead (written_question p.names) (IsWritable p) front (Some q) → Reads (verdict_text p.names) (IsVerdictOf (length p.names)) rest (Ok v)
    → Reads (parts_text p.names) (AreParts p) text (Ok (q, v))
both p text front rest q v a b c = around_both (written_question p.names) (IsWritable p) (verdict_text p.names) (IsVerdictOf (length p.names)) text front
    rest q v a b c

question_first : (p : Presented) → IsPresented p → IsFirst (written_question p.names) (IsWritable p) (codes " : ")
question_first p known = colon_first (written_question p.names) (IsWritable p) (lacks p known) (λ q r h k e. one_spelling p q r known h k e)

same_parts : (p : Presented) → IsPresented p → (x y : Question × Verdict) → AreParts p x → AreParts p y → parts_text p.names x ≡ parts_text p.names y
    → (x.0 ≡ y.0) × (x.1 ≡ y.1)
same_parts p known x y h k e =
    pair_same (written_question p.names) (IsWritable p) (codes " : ") (verdict_text p.names) (IsVerdictOf (length p.names)) (question_first p known)
    (λ v w m n f. verdict_same p.names (names_of p known) v w m n f) x y h k e

pub answer_same : (p : Presented) → IsPresented p → (x y : Question × Verdict) → IsPair p x → IsPair p y → answer p.names x ≡ answer p.names y
    → (x.0 ≡ y.0) × (x.1 ≡ y.1)
answer_same p known x y h k e = same_parts p known x y (h.question, h.verdict) (k.question, k.verdict) e

-- the verdict that is read may not stand for the question
pub not_answered : (p : Presented) → IsPresented p → (text front rest : List ℕ) (q : Question) (v : Verdict)
    → IsRead (headed itself (codes " : ")) (IsHead HasNoColon) text (Some (front, rest))
    → IsRead (written_question p.names) (IsWritable p) front (Some q) → Reads (verdict_text p.names) (IsVerdictOf (length p.names)) rest (Ok v)
    → (MayAnswer q v → ⊥)
    → Reads (answer p.names) (IsPair p) text (Err Spelling)
not_answered p known text front rest q v a b c bad = λ x h e.
    let r = both p text front rest q v a b c in
    let s = same_parts p known x (q, v) (h.question, h.verdict) r.0 (sym e ∙ r.1) in
    let P : Question → Type 0 = λ y. MayAnswer y x.1 in
    let Q : Verdict → Type 0 = MayAnswer q in
    bad (subst Q s.1 (subst P s.0 h.answers))

pub answer_read : (p : Presented) (text front rest : List ℕ) (q : Question) (v : Verdict)
    → IsRead (headed itself (codes " : ")) (IsHead HasNoColon) text (Some (front, rest))
    → IsRead (written_question p.names) (IsWritable p) front (Some q) → Reads (verdict_text p.names) (IsVerdictOf (length p.names)) rest (Ok v) → MayAnswer q v
    → Reads (answer p.names) (IsPair p) text (Ok (q, v))
answer_read p text front rest q v a b c may =
    let r = both p text front rest q v a b c in
    (record { question = r.0.0; verdict = r.0.1; answers = may }, r.1)
