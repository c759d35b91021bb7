-- The texts of lines.
use Rattle.std.proofs.Common.{◌≡◌, ℕ, List, ◌++◌, length, drop, Some, None, Result, Ok, Err, codes, decimal, refl, sym, ap, subst, ◌∙◌}
use Rattle.spelling.specs.Spelling.{IsRead, IsSmall}
use Rattle.presentation.specs.Presented.{Presented, IsPresented}
use Rattle.presentation.proofs.WritingBack.{names_of}
use Rattle.module_vec.specs.declared.places.Term.{Term}
use Rattle.module_vec.specs.declared.steps.Step.{Step}
use Rattle.outcomes.specs.declared.ends.End as ends
use Rattle.outcomes.specs.declared.verdicts.Verdict.{Verdict}
use Rattle.session_text.specs.declared.question.Question.{Question}
use Rattle.vector_text.specs.declared.fault.SpellFault.{SpellFault}
use Rattle.vector_text.specs.declared.fault.SpellFault.TheVariants.{Spelling, NoMemory}
use Rattle.vector_text.specs.Spelling.{vector_text}
use Rattle.vector_text.specs.Over.{IsVectorOf}
use Rattle.vector_text.specs.Reading.{Reads}
use Rattle.vector_text.proofs.VectorTexts.{vector_same}
use Rattle.step_text.specs.Spelling.{steps_text}
use Rattle.step_text.specs.Over.{AreStepsOf}
use Rattle.step_text.proofs.StepLists.{steps_same}
use Rattle.report_lines.specs.declared.lines.Made.{Made}
use Rattle.report_lines.specs.declared.lines.Line.{Line}
use Rattle.report_lines.specs.declared.lines.Line.TheVariants.{Entry, Seal, Live, Proof, End, Close, Done}
use Rattle.report_lines.specs.Parts.{headed, IsHead, paired, AreBoth, itself, HasNoColon}
use Rattle.report_lines.specs.Texts.{made_text, end_text, line_text}
use Rattle.report_lines.specs.Lines.{IsMadeOf, IsEndOf, IsLineOf}
use Rattle.report_lines.proofs.Pairs.{clash, no_first, second_fails, both_read, pair_same, colon_first, colon_missing, front_fails, back_fails, around_both}
use Rattle.report_lines.proofs.Numbers.{number_first}
use Rattle.report_lines.proofs.MadeTexts.{made_same, made_lacks}
use Rattle.report_lines.proofs.EndTexts.{end_same}
use Rattle.report_lines.proofs.AnswerTexts.{answer, IsPair, answer_same}

-- ---- the parts behind the words of a line

abbrev Behind : Type 0
Behind = Question × Verdict

abbrev pub Recipe : Type 0
Recipe = Made × List Term

abbrev pub recipe : Presented → Recipe → List ℕ
recipe p = paired (made_text p.names) (codes " : ") (vector_text p.names)

abbrev pub IsRecipe : Presented → Recipe → Type 0
IsRecipe p = AreBoth (IsMadeOf (length p.names)) (IsVectorOf (length p.names))

abbrev pub entry : Presented → ℕ × Recipe → List ℕ
entry p = paired decimal (codes " ") (recipe p)

abbrev pub IsEntry : Presented → ℕ × Recipe → Type 0
IsEntry p = AreBoth IsSmall (IsRecipe p)

-- an answer behind one number, behind two, and behind three
abbrev numbered : Presented → ℕ × Behind → List ℕ
numbered p = paired decimal (codes " ") (answer p.names)

abbrev IsNumbered : Presented → ℕ × Behind → Type 0
IsNumbered p = AreBoth IsSmall (IsPair p)

abbrev close : Presented → ℕ × (ℕ × Behind) → List ℕ
close p = paired decimal (codes " ") (numbered p)

abbrev IsClose : Presented → ℕ × (ℕ × Behind) → Type 0
IsClose p = AreBoth IsSmall (IsNumbered p)

abbrev live : Presented → ℕ × (ℕ × (ℕ × Behind)) → List ℕ
live p = paired decimal (codes " ") (close p)

abbrev IsLive : Presented → ℕ × (ℕ × (ℕ × Behind)) → Type 0
IsLive p = AreBoth IsSmall (IsClose p)

abbrev proof : Presented → ℕ × List Step → List ℕ
proof p = paired decimal (codes " ") (steps_text p.names)

abbrev IsProof : Presented → ℕ × List Step → Type 0
IsProof p = AreBoth IsSmall (AreStepsOf (length p.names))

-- ---- which line a text begins like

pub is_entry : (p : Presented) (rest : List ℕ) (l : Line) → codes "entry " ++ rest ≡ line_text p l
    → (x : ℕ × Recipe) × (l ≡ Entry x.0 x.1.0 x.1.1) × (rest ≡ entry p x)
is_entry p rest (Entry number made vector) e = ((number, (made, vector)), refl, ap (drop 6) e)
is_entry p rest Seal e = absurd (clash 3 _ _ e refl)
is_entry p rest (Live session number front question verdict) e = absurd (clash 3 _ _ e refl)
is_entry p rest (Proof subject steps) e = absurd (clash 3 _ _ e refl)
is_entry p rest (End end) e = absurd (clash 3 _ _ e refl)
is_entry p rest (Close session number question verdict) e = absurd (clash 3 _ _ e refl)
is_entry p rest Done e = absurd (clash 3 _ _ e refl)

is_seal : (p : Presented) (l : Line) → codes "seal" ≡ line_text p l → l ≡ Seal
is_seal p (Entry number made vector) e = absurd (clash 3 _ _ e refl)
is_seal p Seal e = refl
is_seal p (Live session number front question verdict) e = absurd (clash 3 _ _ e refl)
is_seal p (Proof subject steps) e = absurd (clash 3 _ _ e refl)
is_seal p (End end) e = absurd (clash 3 _ _ e refl)
is_seal p (Close session number question verdict) e = absurd (clash 3 _ _ e refl)
is_seal p Done e = absurd (clash 3 _ _ e refl)

is_live : (p : Presented) (rest : List ℕ) (l : Line) → codes "live " ++ rest ≡ line_text p l
    → (x : ℕ × (ℕ × (ℕ × Behind))) × (l ≡ Live x.0 x.1.0 x.1.1.0 x.1.1.1.0 x.1.1.1.1) × (rest ≡ live p x)
is_live p rest (Entry number made vector) e = absurd (clash 3 _ _ e refl)
is_live p rest Seal e = absurd (clash 3 _ _ e refl)
is_live p rest (Live session number front question verdict) e = ((session, (number, (front, (question, verdict)))), refl, ap (drop 5) e)
is_live p rest (Proof subject steps) e = absurd (clash 3 _ _ e refl)
is_live p rest (End end) e = absurd (clash 3 _ _ e refl)
is_live p rest (Close session number question verdict) e = absurd (clash 3 _ _ e refl)
is_live p rest Done e = absurd (clash 3 _ _ e refl)

is_proof : (p : Presented) (rest : List ℕ) (l : Line) → codes "proof " ++ rest ≡ line_text p l → (x : ℕ × List Step) × (l ≡ Proof x.0 x.1) × (rest ≡ proof p x)
is_proof p rest (Entry number made vector) e = absurd (clash 3 _ _ e refl)
is_proof p rest Seal e = absurd (clash 3 _ _ e refl)
is_proof p rest (Live session number front question verdict) e = absurd (clash 3 _ _ e refl)
is_proof p rest (Proof subject steps) e = ((subject, steps), refl, ap (drop 6) e)
is_proof p rest (End end) e = absurd (clash 3 _ _ e refl)
is_proof p rest (Close session number question verdict) e = absurd (clash 3 _ _ e refl)
is_proof p rest Done e = absurd (clash 3 _ _ e refl)

is_end : (p : Presented) (rest : List ℕ) (l : Line) → codes "end " ++ rest ≡ line_text p l → (x : ends.End) × (l ≡ End x) × (rest ≡ end_text p.names x)
is_end p rest (Entry number made vector) e = absurd (clash 3 _ _ e refl)
is_end p rest Seal e = absurd (clash 3 _ _ e refl)
is_end p rest (Live session number front question verdict) e = absurd (clash 3 _ _ e refl)
is_end p rest (Proof subject steps) e = absurd (clash 3 _ _ e refl)
is_end p rest (End end) e = (end, refl, ap (drop 4) e)
is_end p rest (Close session number question verdict) e = absurd (clash 3 _ _ e refl)
is_end p rest Done e = absurd (clash 3 _ _ e refl)

is_close : (p : Presented) (rest : List ℕ) (l : Line) → codes "close " ++ rest ≡ line_text p l
    → (x : ℕ × (ℕ × Behind)) × (l ≡ Close x.0 x.1.0 x.1.1.0 x.1.1.1) × (rest ≡ close p x)
is_close p rest (Entry number made vector) e = absurd (clash 3 _ _ e refl)
is_close p rest Seal e = absurd (clash 3 _ _ e refl)
is_close p rest (Live session number front question verdict) e = absurd (clash 3 _ _ e refl)
is_close p rest (Proof subject steps) e = absurd (clash 3 _ _ e refl)
is_close p rest (End end) e = absurd (clash 3 _ _ e refl)
is_close p rest (Close session number question verdict) e = ((session, (number, (question, verdict))), refl, ap (drop 6) e)
is_close p rest Done e = absurd (clash 3 _ _ e refl)

is_done : (p : Presented) (l : Line) → codes "done" ≡ line_text p l → l ≡ Done
is_done p (Entry number made vector) e = absurd (clash 3 _ _ e refl)
is_done p Seal e = absurd (clash 3 _ _ e refl)
is_done p (Live session number front question verdict) e = absurd (clash 3 _ _ e refl)
is_done p (Proof subject steps) e = absurd (clash 3 _ _ e refl)
is_done p (End end) e = absurd (clash 3 _ _ e refl)
is_done p (Close session number question verdict) e = absurd (clash 3 _ _ e refl)
is_done p Done e = refl

-- ---- the exits of the readers

entry_fails : (p : Presented) (rest : List ℕ) (f : SpellFault) → Reads (entry p) (IsEntry p) rest (Err f)
    → Reads (line_text p) (IsLineOf p) (codes "entry " ++ rest) (Err f)
entry_fails p rest Spelling bad = λ l h e.
    let i = is_entry p rest l e in
    let P : Line → Type 0 = IsLineOf p in
    bad i.0 (subst P i.1 h) i.2
entry_fails p rest NoMemory bad = tt

entry_reads : (p : Presented) (rest : List ℕ) (x : ℕ × Recipe) → Reads (entry p) (IsEntry p) rest (Ok x)
    → Reads (line_text p) (IsLineOf p) (codes "entry " ++ rest) (Ok (Entry x.0 x.1.0 x.1.1))
entry_reads p rest x a = (a.0, ap (λ (t : List ℕ). codes "entry " ++ t) a.1)

live_fails : (p : Presented) (rest : List ℕ) (f : SpellFault) → Reads (live p) (IsLive p) rest (Err f)
    → Reads (line_text p) (IsLineOf p) (codes "live " ++ rest) (Err f)
live_fails p rest Spelling bad = λ l h e.
    let i = is_live p rest l e in
    let P : Line → Type 0 = IsLineOf p in
    bad i.0 (subst P i.1 h) i.2
live_fails p rest NoMemory bad = tt

live_reads : (p : Presented) (rest : List ℕ) (x : ℕ × (ℕ × (ℕ × Behind))) → Reads (live p) (IsLive p) rest (Ok x)
    → Reads (line_text p) (IsLineOf p) (codes "live " ++ rest) (Ok (Live x.0 x.1.0 x.1.1.0 x.1.1.1.0 x.1.1.1.1))
live_reads p rest x a = (a.0, ap (λ (t : List ℕ). codes "live " ++ t) a.1)

proof_fails : (p : Presented) (rest : List ℕ) (f : SpellFault) → Reads (proof p) (IsProof p) rest (Err f)
    → Reads (line_text p) (IsLineOf p) (codes "proof " ++ rest) (Err f)
proof_fails p rest Spelling bad = λ l h e.
    let i = is_proof p rest l e in
    let P : Line → Type 0 = IsLineOf p in
    bad i.0 (subst P i.1 h) i.2
proof_fails p rest NoMemory bad = tt

proof_reads : (p : Presented) (rest : List ℕ) (x : ℕ × List Step) → Reads (proof p) (IsProof p) rest (Ok x)
    → Reads (line_text p) (IsLineOf p) (codes "proof " ++ rest) (Ok (Proof x.0 x.1))
proof_reads p rest x a = (a.0, ap (λ (t : List ℕ). codes "proof " ++ t) a.1)

end_fails : (p : Presented) (rest : List ℕ) (f : SpellFault) → Reads (end_text p.names) (IsEndOf (length p.names)) rest (Err f)
    → Reads (line_text p) (IsLineOf p) (codes "end " ++ rest) (Err f)
end_fails p rest Spelling bad = λ l h e.
    let i = is_end p rest l e in
    let P : Line → Type 0 = IsLineOf p in
    bad i.0 (subst P i.1 h) i.2
end_fails p rest NoMemory bad = tt

end_reads : (p : Presented) (rest : List ℕ) (x : ends.End) → Reads (end_text p.names) (IsEndOf (length p.names)) rest (Ok x)
    → Reads (line_text p) (IsLineOf p) (codes "end " ++ rest) (Ok (End x))
end_reads p rest x a = (a.0, ap (λ (t : List ℕ). codes "end " ++ t) a.1)

close_fails : (p : Presented) (rest : List ℕ) (f : SpellFault) → Reads (close p) (IsClose p) rest (Err f)
    → Reads (line_text p) (IsLineOf p) (codes "close " ++ rest) (Err f)
close_fails p rest Spelling bad = λ l h e.
    let i = is_close p rest l e in
    let P : Line → Type 0 = IsLineOf p in
    bad i.0 (subst P i.1 h) i.2
close_fails p rest NoMemory bad = tt

close_reads : (p : Presented) (rest : List ℕ) (x : ℕ × (ℕ × Behind)) → Reads (close p) (IsClose p) rest (Ok x)
    → Reads (line_text p) (IsLineOf p) (codes "close " ++ rest) (Ok (Close x.0 x.1.0 x.1.1.0 x.1.1.1))
close_reads p rest x a = (a.0, ap (λ (t : List ℕ). codes "close " ++ t) a.1)

-- an entry
pub no_entry_number : (p : Presented) (text : List ℕ) → IsRead (headed decimal (codes " ")) (IsHead IsSmall) text None
    → Reads (line_text p) (IsLineOf p) (codes "entry " ++ text) (Err Spelling)
no_entry_number p text bad = entry_fails p text Spelling (no_first decimal IsSmall (codes " ") (recipe p) (IsRecipe p) text bad)

recipe_fails : (p : Presented) (text rest : List ℕ) (n : ℕ) → IsRead (headed decimal (codes " ")) (IsHead IsSmall) text (Some (n, rest)) → (f : SpellFault)
    → Reads (recipe p) (IsRecipe p) rest (Err f)
    → Reads (line_text p) (IsLineOf p) (codes "entry " ++ text) (Err f)
recipe_fails p text rest n a f bad = entry_fails p text f (second_fails decimal IsSmall (codes " ") (recipe p) (IsRecipe p) number_first text rest n a f bad)

pub no_recipe : (p : Presented) → IsPresented p → (text rest : List ℕ) (n : ℕ) → IsRead (headed decimal (codes " ")) (IsHead IsSmall) text (Some (n, rest))
    → IsRead (headed itself (codes " : ")) (IsHead HasNoColon) rest None → Reads (line_text p) (IsLineOf p) (codes "entry " ++ text) (Err Spelling)
no_recipe p known text rest n a bad =
    recipe_fails p text rest n a Spelling
    (colon_missing (made_text p.names) (IsMadeOf (length p.names)) (vector_text p.names) (IsVectorOf (length p.names))
    (made_lacks p.names (names_of p known)) rest bad)

pub made_fails : (p : Presented) → IsPresented p → (text rest front last : List ℕ) (n : ℕ)
    → IsRead (headed decimal (codes " ")) (IsHead IsSmall) text (Some (n, rest))
    → IsRead (headed itself (codes " : ")) (IsHead HasNoColon) rest (Some (front, last)) → (f : SpellFault)
    → Reads (made_text p.names) (IsMadeOf (length p.names)) front (Err f)
    → Reads (line_text p) (IsLineOf p) (codes "entry " ++ text) (Err f)
made_fails p known text rest front last n a b f bad =
    recipe_fails p text rest n a f
    (front_fails (made_text p.names) (IsMadeOf (length p.names)) (vector_text p.names) (IsVectorOf (length p.names)) (made_lacks p.names (names_of p known))
    rest front last b f bad)

pub vector_fails : (p : Presented) → IsPresented p → (text rest front last : List ℕ) (n : ℕ)
    → IsRead (headed decimal (codes " ")) (IsHead IsSmall) text (Some (n, rest))
    → IsRead (headed itself (codes " : ")) (IsHead HasNoColon) rest (Some (front, last)) → (f : SpellFault)
    → Reads (vector_text p.names) (IsVectorOf (length p.names)) last (Err f)
    → Reads (line_text p) (IsLineOf p) (codes "entry " ++ text) (Err f)
vector_fails p known text rest front last n a b f bad =
    recipe_fails p text rest n a f
    (back_fails (made_text p.names) (IsMadeOf (length p.names)) (vector_text p.names) (IsVectorOf (length p.names)) (made_lacks p.names (names_of p known)) rest
    front last b f bad)

pub entry_read : (p : Presented) (text rest front last : List ℕ) (n : ℕ) (made : Made) (vector : List Term)
    → IsRead (headed decimal (codes " ")) (IsHead IsSmall) text (Some (n, rest))
    → IsRead (headed itself (codes " : ")) (IsHead HasNoColon) rest (Some (front, last)) → Reads (made_text p.names) (IsMadeOf (length p.names)) front (Ok made)
    → Reads (vector_text p.names) (IsVectorOf (length p.names)) last (Ok vector)
    → Reads (line_text p) (IsLineOf p) (codes "entry " ++ text) (Ok (Entry n made vector))
entry_read p text rest front last n made vector a b c d =
    let r = around_both (made_text p.names) (IsMadeOf (length p.names)) (vector_text p.names) (IsVectorOf (length p.names)) rest front last made vector b c d in
    entry_reads p text (n, (made, vector)) (both_read decimal IsSmall (codes " ") (recipe p) (IsRecipe p) text rest n (made, vector) a r)

-- a proof
pub no_subject : (p : Presented) (text : List ℕ) → IsRead (headed decimal (codes " ")) (IsHead IsSmall) text None
    → Reads (line_text p) (IsLineOf p) (codes "proof " ++ text) (Err Spelling)
no_subject p text bad = proof_fails p text Spelling (no_first decimal IsSmall (codes " ") (steps_text p.names) (AreStepsOf (length p.names)) text bad)

pub steps_fail : (p : Presented) (text rest : List ℕ) (n : ℕ) → IsRead (headed decimal (codes " ")) (IsHead IsSmall) text (Some (n, rest)) → (f : SpellFault)
    → Reads (steps_text p.names) (AreStepsOf (length p.names)) rest (Err f) → Reads (line_text p) (IsLineOf p) (codes "proof " ++ text) (Err f)
steps_fail p text rest n a f bad = proof_fails p text f (second_fails decimal IsSmall (codes " ") (steps_text p.names) (AreStepsOf (length p.names))
    number_first text rest n a f bad)

pub proof_read : (p : Presented) (text rest : List ℕ) (n : ℕ) (steps : List Step) → IsRead (headed decimal (codes " ")) (IsHead IsSmall) text (Some (n, rest))
    → Reads (steps_text p.names) (AreStepsOf (length p.names)) rest (Ok steps) → Reads (line_text p) (IsLineOf p) (codes "proof " ++ text) (Ok (Proof n steps))
proof_read p text rest n steps a b = proof_reads p text (n, steps) (both_read decimal IsSmall (codes " ") (steps_text p.names) (AreStepsOf (length p.names))
    text rest n steps a b)

-- an end
pub no_end : (p : Presented) (text : List ℕ) → IsRead (end_text p.names) (IsEndOf (length p.names)) text None
    → Reads (line_text p) (IsLineOf p) (codes "end " ++ text) (Err Spelling)
no_end p text bad = end_fails p text Spelling bad

pub end_read : (p : Presented) (text : List ℕ) (end : ends.End) → IsRead (end_text p.names) (IsEndOf (length p.names)) text (Some end)
    → Reads (line_text p) (IsLineOf p) (codes "end " ++ text) (Ok (End end))
end_read p text end a = end_reads p text end a

-- a closing line
pub no_close_session : (p : Presented) (text : List ℕ) → IsRead (headed decimal (codes " ")) (IsHead IsSmall) text None
    → Reads (line_text p) (IsLineOf p) (codes "close " ++ text) (Err Spelling)
no_close_session p text bad = close_fails p text Spelling (no_first decimal IsSmall (codes " ") (numbered p) (IsNumbered p) text bad)

pub no_close_number : (p : Presented) (text rest : List ℕ) (s : ℕ) → IsRead (headed decimal (codes " ")) (IsHead IsSmall) text (Some (s, rest))
    → IsRead (headed decimal (codes " ")) (IsHead IsSmall) rest None
    → Reads (line_text p) (IsLineOf p) (codes "close " ++ text) (Err Spelling)
no_close_number p text rest s a bad =
    close_fails p text Spelling (second_fails decimal IsSmall (codes " ") (numbered p) (IsNumbered p) number_first text rest s a Spelling
    (no_first decimal IsSmall (codes " ") (answer p.names) (IsPair p) rest bad))

pub close_answer_fails : (p : Presented) (text rest last : List ℕ) (s n : ℕ) → IsRead (headed decimal (codes " ")) (IsHead IsSmall) text (Some (s, rest))
    → IsRead (headed decimal (codes " ")) (IsHead IsSmall) rest (Some (n, last)) → (f : SpellFault) → Reads (answer p.names) (IsPair p) last (Err f)
    → Reads (line_text p) (IsLineOf p) (codes "close " ++ text) (Err f)
close_answer_fails p text rest last s n a b f bad =
    close_fails p text f (second_fails decimal IsSmall (codes " ") (numbered p) (IsNumbered p) number_first text rest s a f
    (second_fails decimal IsSmall (codes " ") (answer p.names) (IsPair p) number_first rest last n b f bad))

pub close_read : (p : Presented) (text rest last : List ℕ) (s n : ℕ) (q : Question) (v : Verdict)
    → IsRead (headed decimal (codes " ")) (IsHead IsSmall) text (Some (s, rest))
    → IsRead (headed decimal (codes " ")) (IsHead IsSmall) rest (Some (n, last)) → Reads (answer p.names) (IsPair p) last (Ok (q, v))
    → Reads (line_text p) (IsLineOf p) (codes "close " ++ text) (Ok (Close s n q v))
close_read p text rest last s n q v a b c =
    close_reads p text (s, (n, (q, v))) (both_read decimal IsSmall (codes " ") (numbered p) (IsNumbered p) text rest s (n, (q, v)) a
    (both_read decimal IsSmall (codes " ") (answer p.names) (IsPair p) rest last n (q, v) b c))

-- a live line
pub no_live_session : (p : Presented) (text : List ℕ) → IsRead (headed decimal (codes " ")) (IsHead IsSmall) text None
    → Reads (line_text p) (IsLineOf p) (codes "live " ++ text) (Err Spelling)
no_live_session p text bad = live_fails p text Spelling (no_first decimal IsSmall (codes " ") (close p) (IsClose p) text bad)

pub no_live_number : (p : Presented) (text rest : List ℕ) (s : ℕ) → IsRead (headed decimal (codes " ")) (IsHead IsSmall) text (Some (s, rest))
    → IsRead (headed decimal (codes " ")) (IsHead IsSmall) rest None
    → Reads (line_text p) (IsLineOf p) (codes "live " ++ text) (Err Spelling)
no_live_number p text rest s a bad =
    live_fails p text Spelling (second_fails decimal IsSmall (codes " ") (close p) (IsClose p) number_first text rest s a Spelling
    (no_first decimal IsSmall (codes " ") (numbered p) (IsNumbered p) rest bad))

pub no_live_front : (p : Presented) (text rest more : List ℕ) (s n : ℕ) → IsRead (headed decimal (codes " ")) (IsHead IsSmall) text (Some (s, rest))
    → IsRead (headed decimal (codes " ")) (IsHead IsSmall) rest (Some (n, more)) → IsRead (headed decimal (codes " ")) (IsHead IsSmall) more None
    → Reads (line_text p) (IsLineOf p) (codes "live " ++ text) (Err Spelling)
no_live_front p text rest more s n a b bad =
    live_fails p text Spelling (second_fails decimal IsSmall (codes " ") (close p) (IsClose p) number_first text rest s a Spelling
    (second_fails decimal IsSmall (codes " ") (numbered p) (IsNumbered p) number_first rest more n b Spelling
    (no_first decimal IsSmall (codes " ") (answer p.names) (IsPair p) more bad)))

pub live_answer_fails : (p : Presented) (text rest more last : List ℕ) (s n front : ℕ)
    → IsRead (headed decimal (codes " ")) (IsHead IsSmall) text (Some (s, rest))
    → IsRead (headed decimal (codes " ")) (IsHead IsSmall) rest (Some (n, more))
    → IsRead (headed decimal (codes " ")) (IsHead IsSmall) more (Some (front, last))
    → (f : SpellFault) → Reads (answer p.names) (IsPair p) last (Err f) → Reads (line_text p) (IsLineOf p) (codes "live " ++ text) (Err f)
live_answer_fails p text rest more last s n front a b c f bad =
    live_fails p text f (second_fails decimal IsSmall (codes " ") (close p) (IsClose p) number_first text rest s a f
    (second_fails decimal IsSmall (codes " ") (numbered p) (IsNumbered p) number_first rest more n b f
    (second_fails decimal IsSmall (codes " ") (answer p.names) (IsPair p) number_first more last front c f bad)))

pub live_read : (p : Presented) (text rest more last : List ℕ) (s n front : ℕ) (q : Question) (v : Verdict)
    → IsRead (headed decimal (codes " ")) (IsHead IsSmall) text (Some (s, rest))
    → IsRead (headed decimal (codes " ")) (IsHead IsSmall) rest (Some (n, more))
    → IsRead (headed decimal (codes " ")) (IsHead IsSmall) more (Some (front, last))
    → Reads (answer p.names) (IsPair p) last (Ok (q, v)) → Reads (line_text p) (IsLineOf p) (codes "live " ++ text) (Ok (Live s n front q v))
live_read p text rest more last s n front q v a b c d =
    live_reads p text (s, (n, (front, (q, v)))) (both_read decimal IsSmall (codes " ") (close p) (IsClose p) text rest s (n, (front, (q, v))) a
    (both_read decimal IsSmall (codes " ") (numbered p) (IsNumbered p) rest more n (front, (q, v)) b
    (both_read decimal IsSmall (codes " ") (answer p.names) (IsPair p) more last front (q, v) c d)))

-- a text that begins like no line is none's
pub no_line : (p : Presented) (text : List ℕ) → (text ≡ codes "seal" → ⊥) → (text ≡ codes "done" → ⊥) → ((r : List ℕ) → text ≡ codes "entry " ++ r → ⊥)
    → ((r : List ℕ) → text ≡ codes "live " ++ r → ⊥) → ((r : List ℕ) → text ≡ codes "proof " ++ r → ⊥) → ((r : List ℕ) → text ≡ codes "end " ++ r → ⊥)
    → ((r : List ℕ) → text ≡ codes "close " ++ r → ⊥) → (l : Line) → text ≡ line_text p l → ⊥
no_line p text no_seal no_done no_entry no_live no_proof no_end no_close (Entry number made vector) e = no_entry (entry p (number, (made, vector))) e
no_line p text no_seal no_done no_entry no_live no_proof no_end no_close Seal e = no_seal e
no_line p text no_seal no_done no_entry no_live no_proof no_end no_close (Live session number front question verdict) e =
    no_live (live p (session, (number, (front, (question, verdict))))) e
no_line p text no_seal no_done no_entry no_live no_proof no_end no_close (Proof subject steps) e = no_proof (proof p (subject, steps)) e
no_line p text no_seal no_done no_entry no_live no_proof no_end no_close (End end) e = no_end (end_text p.names end) e
no_line p text no_seal no_done no_entry no_live no_proof no_end no_close (Close session number question verdict) e =
    no_close (close p (session, (number, (question, verdict)))) e
no_line p text no_seal no_done no_entry no_live no_proof no_end no_close Done e = no_done e

-- the line that is read behind a word is read of the whole text
pub behind_word : (p : Presented) (text word rest : List ℕ) (r : Result Line SpellFault) → text ≡ word ++ rest
    → Reads (line_text p) (IsLineOf p) (word ++ rest) r → Reads (line_text p) (IsLineOf p) text r
behind_word p text word rest r is h = let P : List ℕ → Type 0 = λ t. Reads (line_text p) (IsLineOf p) t r in subst P (sym is) h

-- ---- a text is that of one line

pub recipe_same : (p : Presented) → IsPresented p → (x y : Recipe) → IsRecipe p x → IsRecipe p y → recipe p x ≡ recipe p y → x ≡ y
recipe_same p known x y h k e =
    let names = names_of p known in
    let first = colon_first (made_text p.names) (IsMadeOf (length p.names)) (made_lacks p.names names) (λ m o a b f. made_same p.names names m o a b f) in
    let a = pair_same (made_text p.names) (IsMadeOf (length p.names)) (codes " : ") (vector_text p.names) (IsVectorOf (length p.names)) first
    (λ v w m n f. vector_same p.names names v w m n f) x y h k e in
    λ i. (a.0 i, a.1 i)

numbered_same : (p : Presented) → IsPresented p → (x y : ℕ × Behind) → IsNumbered p x → IsNumbered p y → numbered p x ≡ numbered p y → x ≡ y
numbered_same p known x y h k e =
    let a = pair_same decimal IsSmall (codes " ") (answer p.names) (IsPair p) number_first
    (λ u w m n f. let b = answer_same p known u w m n f in λ i. (b.0 i, b.1 i)) x y h k e in
    λ i. (a.0 i, a.1 i)

close_same : (p : Presented) → IsPresented p → (x y : ℕ × (ℕ × Behind)) → IsClose p x → IsClose p y → close p x ≡ close p y → x ≡ y
close_same p known x y h k e =
    let a = pair_same decimal IsSmall (codes " ") (numbered p) (IsNumbered p) number_first (λ u w m n f. numbered_same p known u w m n f) x y h k e in
    λ i. (a.0 i, a.1 i)

pub line_same : (p : Presented) → IsPresented p → (l m : Line) → IsLineOf p l → IsLineOf p m → line_text p l ≡ line_text p m → l ≡ m
line_same p known (Entry number made vector) m h k e =
    let i = is_entry p (entry p (number, (made, vector))) m e in
    let P : Line → Type 0 = IsLineOf p in
    let a = pair_same decimal IsSmall (codes " ") (recipe p) (IsRecipe p) number_first (λ x y q r f. recipe_same p known x y q r f) (number, (made, vector)) i.0
    h (subst P i.1 k) i.2 in
    (λ x. Entry (a.0 x) (a.1 x).0 (a.1 x).1) ∙ sym i.1
line_same p known Seal m h k e = sym (is_seal p m e)
line_same p known (Live session number front question verdict) m h k e =
    let i = is_live p (live p (session, (number, (front, (question, verdict))))) m e in
    let P : Line → Type 0 = IsLineOf p in
    let a = pair_same decimal IsSmall (codes " ") (close p) (IsClose p) number_first (λ x y q r f. close_same p known x y q r f)
    (session, (number, (front, (question, verdict)))) i.0 h (subst P i.1 k) i.2 in
    (λ x. Live (a.0 x) (a.1 x).0 (a.1 x).1.0 (a.1 x).1.1.0 (a.1 x).1.1.1) ∙ sym i.1
line_same p known (Proof subject steps) m h k e =
    let i = is_proof p (proof p (subject, steps)) m e in
    let P : Line → Type 0 = IsLineOf p in
    let a = pair_same decimal IsSmall (codes " ") (steps_text p.names) (AreStepsOf (length p.names)) number_first
    (λ x y q r f. steps_same p.names (names_of p known) x y q r f) (subject, steps) i.0 h (subst P i.1 k) i.2 in
    (λ x. Proof (a.0 x) (a.1 x)) ∙ sym i.1
line_same p known (End end) m h k e =
    let i = is_end p (end_text p.names end) m e in
    let P : Line → Type 0 = IsLineOf p in
    ap (λ (x : ends.End). End x) (end_same p.names (names_of p known) end i.0 h (subst P i.1 k) i.2) ∙ sym i.1
line_same p known (Close session number question verdict) m h k e =
    let i = is_close p (close p (session, (number, (question, verdict)))) m e in
    let P : Line → Type 0 = IsLineOf p in
    let a = close_same p known (session, (number, (question, verdict))) i.0 h (subst P i.1 k) i.2 in
    (λ x. Close (a x).0 (a x).1.0 (a x).1.1.0 (a x).1.1.1) ∙ sym i.1
line_same p known Done m h k e = sym (is_done p m e)
