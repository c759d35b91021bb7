-- The texts of verdicts.
use Rattle.std.proofs.Common.{◌≡◌, ℕ, List, ◌++◌, length, drop, Some, None, Ok, Err, codes, decimal, refl, sym, ap, subst, ◌∙◌}
use Rattle.spelling.specs.Spelling.{IsRead, IsSmall}
use Rattle.presentation.proofs.WritingBack.{AreNames}
use Rattle.module_vec.specs.declared.places.Term.{Term}
use Rattle.module_vec.specs.declared.faults.Stop as stops
use Rattle.outcomes.specs.declared.verdicts.Verdict.{Verdict}
use Rattle.outcomes.specs.declared.verdicts.Verdict.TheVariants.{Trivial, NotTrivial, Normal, Extends, Fails, Unknown, Stop}
use Rattle.vector_text.specs.declared.fault.SpellFault.{SpellFault}
use Rattle.vector_text.specs.declared.fault.SpellFault.TheVariants.{Spelling, NoMemory}
use Rattle.vector_text.specs.Spelling.{vector_text}
use Rattle.vector_text.specs.Over.{IsVectorOf}
use Rattle.vector_text.specs.Reading.{Reads}
use Rattle.vector_text.proofs.VectorTexts.{vector_same}
use Rattle.report_lines.specs.Parts.{headed, IsHead, paired, AreBoth}
use Rattle.report_lines.specs.Texts.{stop_text, verdict_text}
use Rattle.report_lines.specs.Lines.{IsStopOf, IsVerdictOf}
use Rattle.report_lines.proofs.Pairs.{clash, no_first, no_second, both_read, pair_same}
use Rattle.report_lines.proofs.Numbers.{number_first, number_same}
use Rattle.report_lines.proofs.StopTexts.{stop_same}

-- the parts behind `stop `
abbrev stopped_text : List (List ℕ) → ℕ × stops.Stop → List ℕ
stopped_text names = paired decimal (codes " ") (stop_text names)

abbrev AreStopped : ℕ → ℕ × stops.Stop → Type 0
AreStopped n = AreBoth IsSmall (IsStopOf n)

-- ---- which verdict a text begins like

is_trivial : (names : List (List ℕ)) (v : Verdict) → codes "trivial" ≡ verdict_text names v → v ≡ Trivial
is_trivial names Trivial e = refl
is_trivial names NotTrivial e = absurd (clash 3 _ _ e refl)
is_trivial names (Normal v) e = absurd (clash 3 _ _ e refl)
is_trivial names Extends e = absurd (clash 3 _ _ e refl)
is_trivial names (Fails subject) e = absurd (clash 3 _ _ e refl)
is_trivial names (Unknown subject) e = absurd (clash 3 _ _ e refl)
is_trivial names (Stop subject stop) e = absurd (clash 3 _ _ e refl)

is_not_trivial : (names : List (List ℕ)) (v : Verdict) → codes "not-trivial" ≡ verdict_text names v → v ≡ NotTrivial
is_not_trivial names Trivial e = absurd (clash 3 _ _ e refl)
is_not_trivial names NotTrivial e = refl
is_not_trivial names (Normal v) e = absurd (clash 3 _ _ e refl)
is_not_trivial names Extends e = absurd (clash 3 _ _ e refl)
is_not_trivial names (Fails subject) e = absurd (clash 3 _ _ e refl)
is_not_trivial names (Unknown subject) e = absurd (clash 3 _ _ e refl)
is_not_trivial names (Stop subject stop) e = absurd (clash 3 _ _ e refl)

is_normal : (names : List (List ℕ)) (rest : List ℕ) (v : Verdict) → codes "normal " ++ rest ≡ verdict_text names v
    → (x : List Term) × (v ≡ Normal x) × (rest ≡ vector_text names x)
is_normal names rest Trivial e = absurd (clash 3 _ _ e refl)
is_normal names rest NotTrivial e = absurd (clash 3 _ _ e refl)
is_normal names rest (Normal v) e = (v, refl, ap (drop 7) e)
is_normal names rest Extends e = absurd (clash 3 _ _ e refl)
is_normal names rest (Fails subject) e = absurd (clash 3 _ _ e refl)
is_normal names rest (Unknown subject) e = absurd (clash 3 _ _ e refl)
is_normal names rest (Stop subject stop) e = absurd (clash 3 _ _ e refl)

is_extends : (names : List (List ℕ)) (v : Verdict) → codes "extends" ≡ verdict_text names v → v ≡ Extends
is_extends names Trivial e = absurd (clash 3 _ _ e refl)
is_extends names NotTrivial e = absurd (clash 3 _ _ e refl)
is_extends names (Normal v) e = absurd (clash 3 _ _ e refl)
is_extends names Extends e = refl
is_extends names (Fails subject) e = absurd (clash 3 _ _ e refl)
is_extends names (Unknown subject) e = absurd (clash 3 _ _ e refl)
is_extends names (Stop subject stop) e = absurd (clash 3 _ _ e refl)

is_fails : (names : List (List ℕ)) (rest : List ℕ) (v : Verdict) → codes "fails " ++ rest ≡ verdict_text names v
    → (x : ℕ) × (v ≡ Fails x) × (rest ≡ decimal x)
is_fails names rest Trivial e = absurd (clash 3 _ _ e refl)
is_fails names rest NotTrivial e = absurd (clash 3 _ _ e refl)
is_fails names rest (Normal v) e = absurd (clash 3 _ _ e refl)
is_fails names rest Extends e = absurd (clash 3 _ _ e refl)
is_fails names rest (Fails subject) e = (subject, refl, ap (drop 6) e)
is_fails names rest (Unknown subject) e = absurd (clash 3 _ _ e refl)
is_fails names rest (Stop subject stop) e = absurd (clash 3 _ _ e refl)

is_unknown : (names : List (List ℕ)) (rest : List ℕ) (v : Verdict) → codes "unknown " ++ rest ≡ verdict_text names v
    → (x : ℕ) × (v ≡ Unknown x) × (rest ≡ decimal x)
is_unknown names rest Trivial e = absurd (clash 3 _ _ e refl)
is_unknown names rest NotTrivial e = absurd (clash 3 _ _ e refl)
is_unknown names rest (Normal v) e = absurd (clash 3 _ _ e refl)
is_unknown names rest Extends e = absurd (clash 3 _ _ e refl)
is_unknown names rest (Fails subject) e = absurd (clash 3 _ _ e refl)
is_unknown names rest (Unknown subject) e = (subject, refl, ap (drop 8) e)
is_unknown names rest (Stop subject stop) e = absurd (clash 3 _ _ e refl)

is_stop : (names : List (List ℕ)) (rest : List ℕ) (v : Verdict) → codes "stop " ++ rest ≡ verdict_text names v
    → (x : ℕ × stops.Stop) × (v ≡ Stop x.0 x.1) × (rest ≡ stopped_text names x)
is_stop names rest Trivial e = absurd (clash 3 _ _ e refl)
is_stop names rest NotTrivial e = absurd (clash 3 _ _ e refl)
is_stop names rest (Normal v) e = absurd (clash 3 _ _ e refl)
is_stop names rest Extends e = absurd (clash 3 _ _ e refl)
is_stop names rest (Fails subject) e = absurd (clash 3 _ _ e refl)
is_stop names rest (Unknown subject) e = absurd (clash 3 _ _ e refl)
is_stop names rest (Stop subject stop) e = ((subject, stop), refl, ap (drop 5) e)

-- ---- the exits of the readers

pub normal_fails : (names : List (List ℕ)) (text rest : List ℕ) → text ≡ codes "normal " ++ rest → (f : SpellFault)
    → Reads (vector_text names) (IsVectorOf (length names)) rest (Err f)
    → Reads (verdict_text names) (IsVerdictOf (length names)) text (Err f)
normal_fails names text rest is Spelling bad = λ v h e.
    let i = is_normal names rest v (sym is ∙ e) in
    let P : Verdict → Type 0 = IsVerdictOf (length names) in
    bad i.0 (subst P i.1 h) i.2
normal_fails names text rest is NoMemory bad = tt

pub normal_read : (names : List (List ℕ)) (text rest : List ℕ) (v : List Term) → text ≡ codes "normal " ++ rest
    → Reads (vector_text names) (IsVectorOf (length names)) rest (Ok v)
    → Reads (verdict_text names) (IsVerdictOf (length names)) text (Ok (Normal v))
normal_read names text rest v is a = (a.0, is ∙ ap (λ (t : List ℕ). codes "normal " ++ t) a.1)

pub no_fails : (names : List (List ℕ)) (text rest : List ℕ) → text ≡ codes "fails " ++ rest → IsRead decimal IsSmall rest None
    → IsRead (verdict_text names) (IsVerdictOf (length names)) text None
no_fails names text rest is bad = λ v h e.
    let i = is_fails names rest v (sym is ∙ e) in
    let P : Verdict → Type 0 = IsVerdictOf (length names) in
    bad i.0 (subst P i.1 h) i.2

pub fails_read : (names : List (List ℕ)) (text rest : List ℕ) (j : ℕ) → text ≡ codes "fails " ++ rest → IsRead decimal IsSmall rest (Some j)
    → Reads (verdict_text names) (IsVerdictOf (length names)) text (Ok (Fails j))
fails_read names text rest j is a = (a.0, is ∙ ap (λ (t : List ℕ). codes "fails " ++ t) a.1)

pub no_unknown : (names : List (List ℕ)) (text rest : List ℕ) → text ≡ codes "unknown " ++ rest → IsRead decimal IsSmall rest None
    → IsRead (verdict_text names) (IsVerdictOf (length names)) text None
no_unknown names text rest is bad = λ v h e.
    let i = is_unknown names rest v (sym is ∙ e) in
    let P : Verdict → Type 0 = IsVerdictOf (length names) in
    bad i.0 (subst P i.1 h) i.2

pub unknown_read : (names : List (List ℕ)) (text rest : List ℕ) (j : ℕ) → text ≡ codes "unknown " ++ rest → IsRead decimal IsSmall rest (Some j)
    → Reads (verdict_text names) (IsVerdictOf (length names)) text (Ok (Unknown j))
unknown_read names text rest j is a = (a.0, is ∙ ap (λ (t : List ℕ). codes "unknown " ++ t) a.1)

no_stop : (names : List (List ℕ)) (text : List ℕ) → IsRead (stopped_text names) (AreStopped (length names)) text None
    → IsRead (verdict_text names) (IsVerdictOf (length names)) (codes "stop " ++ text) None
no_stop names text bad = λ v h e.
    let i = is_stop names text v e in
    let P : Verdict → Type 0 = IsVerdictOf (length names) in
    bad i.0 (subst P i.1 h) i.2

pub no_stop_subject : (names : List (List ℕ)) (text : List ℕ) → IsRead (headed decimal (codes " ")) (IsHead IsSmall) text None
    → IsRead (verdict_text names) (IsVerdictOf (length names)) (codes "stop " ++ text) None
no_stop_subject names text bad = no_stop names text (no_first decimal IsSmall (codes " ") (stop_text names) (IsStopOf (length names)) text bad)

pub no_stop_reason : (names : List (List ℕ)) (text rest : List ℕ) (j : ℕ) → IsRead (headed decimal (codes " ")) (IsHead IsSmall) text (Some (j, rest))
    → IsRead (stop_text names) (IsStopOf (length names)) rest None → IsRead (verdict_text names) (IsVerdictOf (length names)) (codes "stop " ++ text) None
no_stop_reason names text rest j a bad = no_stop names text (no_second decimal IsSmall (codes " ") (stop_text names) (IsStopOf (length names)) number_first
    text rest j a bad)

pub stop_read : (names : List (List ℕ)) (text rest : List ℕ) (j : ℕ) (stop : stops.Stop)
    → IsRead (headed decimal (codes " ")) (IsHead IsSmall) text (Some (j, rest))
    → IsRead (stop_text names) (IsStopOf (length names)) rest (Some stop)
    → IsRead (verdict_text names) (IsVerdictOf (length names)) (codes "stop " ++ text) (Some (Stop j stop))
stop_read names text rest j stop a b =
    let r = both_read decimal IsSmall (codes " ") (stop_text names) (IsStopOf (length names)) text rest j stop a b in
    (r.0, ap (λ (t : List ℕ). codes "stop " ++ t) r.1)

pub no_verdict : (names : List (List ℕ)) (text : List ℕ) → (text ≡ codes "trivial" → ⊥) → (text ≡ codes "not-trivial" → ⊥) → (text ≡ codes "extends" → ⊥)
    → ((r : List ℕ) → text ≡ codes "normal " ++ r → ⊥) → ((r : List ℕ) → text ≡ codes "fails " ++ r → ⊥) → ((r : List ℕ) → text ≡ codes "unknown " ++ r → ⊥)
    → ((r : List ℕ) → text ≡ codes "stop " ++ r → ⊥) → (v : Verdict) → text ≡ verdict_text names v → ⊥
no_verdict names text trivial other extends normal fails unknown stop Trivial e = trivial e
no_verdict names text trivial other extends normal fails unknown stop NotTrivial e = other e
no_verdict names text trivial other extends normal fails unknown stop (Normal v) e = normal (vector_text names v) e
no_verdict names text trivial other extends normal fails unknown stop Extends e = extends e
no_verdict names text trivial other extends normal fails unknown stop (Fails j) e = fails (decimal j) e
no_verdict names text trivial other extends normal fails unknown stop (Unknown j) e = unknown (decimal j) e
no_verdict names text trivial other extends normal fails unknown stop (Stop j s) e = stop (stopped_text names (j, s)) e

-- ---- a text is that of one verdict

pub verdict_same : (names : List (List ℕ)) → AreNames names → (v w : Verdict) → IsVerdictOf (length names) v → IsVerdictOf (length names) w
    → verdict_text names v ≡ verdict_text names w → v ≡ w
verdict_same names known Trivial w h k e = sym (is_trivial names w e)
verdict_same names known NotTrivial w h k e = sym (is_not_trivial names w e)
verdict_same names known (Normal v) w h k e =
    let i = is_normal names (vector_text names v) w e in
    let P : Verdict → Type 0 = IsVerdictOf (length names) in
    ap (λ (x : List Term). Normal x) (vector_same names known v i.0 h (subst P i.1 k) i.2) ∙ sym i.1
verdict_same names known Extends w h k e = sym (is_extends names w e)
verdict_same names known (Fails j) w h k e =
    let i = is_fails names (decimal j) w e in
    let P : Verdict → Type 0 = IsVerdictOf (length names) in
    ap (λ (x : ℕ). Fails x) (number_same j i.0 h (subst P i.1 k) i.2) ∙ sym i.1
verdict_same names known (Unknown j) w h k e =
    let i = is_unknown names (decimal j) w e in
    let P : Verdict → Type 0 = IsVerdictOf (length names) in
    ap (λ (x : ℕ). Unknown x) (number_same j i.0 h (subst P i.1 k) i.2) ∙ sym i.1
verdict_same names known (Stop j s) w h k e =
    let i = is_stop names (stopped_text names (j, s)) w e in
    let P : Verdict → Type 0 = IsVerdictOf (length names) in
    let a = pair_same decimal IsSmall (codes " ") (stop_text names) (IsStopOf (length names)) number_first (λ x y p q g. stop_same names known x y p q g) (j, s)
    i.0 h (subst P i.1 k) i.2 in
    (λ x. Stop (a.0 x) (a.1 x)) ∙ sym i.1
