-- The texts of measures and ends.
use Rattle.std.proofs.Common.{◌≡◌, ℕ, List, ◌++◌, length, drop, Some, None, codes, decimal, refl, sym, ap, subst, ◌∙◌}
use Rattle.spelling.specs.Spelling.{IsRead, IsSmall}
use Rattle.spelling.proofs.Lacking.{Lacks}
use Rattle.presentation.proofs.WritingBack.{AreNames}
use Rattle.module_vec.specs.declared.faults.Stop.{Stop}
use Rattle.outcomes.specs.declared.tasks.Task.{Task}
use Rattle.outcomes.specs.declared.ends.Measure.{Measure}
use Rattle.outcomes.specs.declared.ends.Measure.TheVariants.{Entries, Terms, Steps}
use Rattle.outcomes.specs.declared.ends.End.{End}
use Rattle.outcomes.specs.declared.ends.End.TheVariants.{Sealed, Stopped, Full, Spent}
use Rattle.vector_text.proofs.Parts.{IsApart}
use Rattle.report_lines.specs.Parts.{headed, IsHead, paired, AreBoth}
use Rattle.report_lines.specs.Texts.{measure_text, task_text, stop_text, end_text}
use Rattle.report_lines.specs.Lines.{IsMeasure, IsTask, IsStopOf, IsEndOf}
use Rattle.report_lines.proofs.Pairs.{IsFirst, first_by_cut, literal, clash, no_first, no_second, both_read, pair_same}
use Rattle.report_lines.proofs.Numbers.{number_first, number_same}
use Rattle.report_lines.proofs.TaskTexts.{task_first, task_same}
use Rattle.report_lines.proofs.StopTexts.{stop_same}

-- ---- measures

measure_same : (a b : Measure) → measure_text a ≡ measure_text b → a ≡ b
measure_same Entries Entries e = refl
measure_same Entries Terms e = absurd (clash 1 _ _ e refl)
measure_same Entries Steps e = absurd (clash 1 _ _ e refl)
measure_same Terms Entries e = absurd (clash 1 _ _ e refl)
measure_same Terms Terms e = refl
measure_same Terms Steps e = absurd (clash 1 _ _ e refl)
measure_same Steps Entries e = absurd (clash 1 _ _ e refl)
measure_same Steps Terms e = absurd (clash 1 _ _ e refl)
measure_same Steps Steps e = refl

measure_lacks : (a : Measure) → IsMeasure a → Lacks 32 (measure_text a)
measure_lacks Entries h = literal 32 (codes "entries") refl
measure_lacks Terms h = literal 32 (codes "terms") refl
measure_lacks Steps h = literal 32 (codes "steps") refl

pub measures_apart : IsApart 32 measure_text IsMeasure
measures_apart = record { lacks = measure_lacks; one = λ a b h k e. measure_same a b e }

measure_first : IsFirst measure_text IsMeasure (codes " ")
measure_first = first_by_cut 32 measure_text IsMeasure measures_apart

pub no_measure : (text : List ℕ) → (text ≡ codes "entries" → ⊥) → (text ≡ codes "terms" → ⊥) → (text ≡ codes "steps" → ⊥)
    → IsRead measure_text IsMeasure text None
no_measure text entries terms steps = λ m h e. by m e where
  by : (m : Measure) → text ≡ measure_text m → ⊥
  by Entries e = entries e
  by Terms e = terms e
  by Steps e = steps e

-- ---- the parts behind the words of an end

abbrev stopped_text : List (List ℕ) → Task × Stop → List ℕ
stopped_text names = paired task_text (codes " ") (stop_text names)

abbrev AreStopped : ℕ → Task × Stop → Type 0
AreStopped n = AreBoth IsTask (IsStopOf n)

abbrev full_text : Measure × ℕ → List ℕ
full_text = paired measure_text (codes " ") decimal

abbrev AreFull : Measure × ℕ → Type 0
AreFull = AreBoth IsMeasure IsSmall

abbrev spent_text : ℕ × Task → List ℕ
spent_text = paired decimal (codes " ") task_text

abbrev AreSpent : ℕ × Task → Type 0
AreSpent = AreBoth IsSmall IsTask

-- ---- which end a text begins like

is_sealed : (names : List (List ℕ)) (e : End) → codes "sealed" ≡ end_text names e → e ≡ Sealed
is_sealed names Sealed e = refl
is_sealed names (Stopped task stop) e = absurd (clash 2 _ _ e refl)
is_sealed names (Full measure count) e = absurd (clash 2 _ _ e refl)
is_sealed names (Spent commits task) e = absurd (clash 2 _ _ e refl)

is_stopped : (names : List (List ℕ)) (rest : List ℕ) (e : End) → codes "stopped " ++ rest ≡ end_text names e
    → (x : Task × Stop) × (e ≡ Stopped x.0 x.1) × (rest ≡ stopped_text names x)
is_stopped names rest Sealed e = absurd (clash 2 _ _ e refl)
is_stopped names rest (Stopped task stop) e = ((task, stop), refl, ap (drop 8) e)
is_stopped names rest (Full measure count) e = absurd (clash 2 _ _ e refl)
is_stopped names rest (Spent commits task) e = absurd (clash 2 _ _ e refl)

is_full : (names : List (List ℕ)) (rest : List ℕ) (e : End) → codes "full " ++ rest ≡ end_text names e
    → (x : Measure × ℕ) × (e ≡ Full x.0 x.1) × (rest ≡ full_text x)
is_full names rest Sealed e = absurd (clash 2 _ _ e refl)
is_full names rest (Stopped task stop) e = absurd (clash 2 _ _ e refl)
is_full names rest (Full measure count) e = ((measure, count), refl, ap (drop 5) e)
is_full names rest (Spent commits task) e = absurd (clash 2 _ _ e refl)

is_spent : (names : List (List ℕ)) (rest : List ℕ) (e : End) → codes "spent " ++ rest ≡ end_text names e
    → (x : ℕ × Task) × (e ≡ Spent x.0 x.1) × (rest ≡ spent_text x)
is_spent names rest Sealed e = absurd (clash 2 _ _ e refl)
is_spent names rest (Stopped task stop) e = absurd (clash 2 _ _ e refl)
is_spent names rest (Full measure count) e = absurd (clash 2 _ _ e refl)
is_spent names rest (Spent commits task) e = ((commits, task), refl, ap (drop 6) e)

-- ---- the exits of the readers

no_stopped : (names : List (List ℕ)) (text : List ℕ) → IsRead (stopped_text names) (AreStopped (length names)) text None
    → IsRead (end_text names) (IsEndOf (length names)) (codes "stopped " ++ text) None
no_stopped names text bad = λ e h is.
    let i = is_stopped names text e is in
    let P : End → Type 0 = IsEndOf (length names) in
    bad i.0 (subst P i.1 h) i.2

pub no_stopped_task : (names : List (List ℕ)) (text : List ℕ) → IsRead (headed task_text (codes " ")) (IsHead IsTask) text None
    → IsRead (end_text names) (IsEndOf (length names)) (codes "stopped " ++ text) None
no_stopped_task names text bad = no_stopped names text (no_first task_text IsTask (codes " ") (stop_text names) (IsStopOf (length names)) text bad)

pub no_stopped_stop : (names : List (List ℕ)) (text rest : List ℕ) (task : Task)
    → IsRead (headed task_text (codes " ")) (IsHead IsTask) text (Some (task, rest))
    → IsRead (stop_text names) (IsStopOf (length names)) rest None → IsRead (end_text names) (IsEndOf (length names)) (codes "stopped " ++ text) None
no_stopped_stop names text rest task a bad = no_stopped names text (no_second task_text IsTask (codes " ") (stop_text names) (IsStopOf (length names))
    task_first text rest task a bad)

pub stopped_read : (names : List (List ℕ)) (text rest : List ℕ) (task : Task) (stop : Stop)
    → IsRead (headed task_text (codes " ")) (IsHead IsTask) text (Some (task, rest))
    → IsRead (stop_text names) (IsStopOf (length names)) rest (Some stop)
    → IsRead (end_text names) (IsEndOf (length names)) (codes "stopped " ++ text) (Some (Stopped task stop))
stopped_read names text rest task stop a b =
    let r = both_read task_text IsTask (codes " ") (stop_text names) (IsStopOf (length names)) text rest task stop a b in
    (r.0, ap (λ (t : List ℕ). codes "stopped " ++ t) r.1)

no_full : (names : List (List ℕ)) (text : List ℕ) → IsRead full_text AreFull text None
    → IsRead (end_text names) (IsEndOf (length names)) (codes "full " ++ text) None
no_full names text bad = λ e h is.
    let i = is_full names text e is in
    let P : End → Type 0 = IsEndOf (length names) in
    bad i.0 (tt, subst P i.1 h) i.2

pub no_full_measure : (names : List (List ℕ)) (text : List ℕ) → IsRead (headed measure_text (codes " ")) (IsHead IsMeasure) text None
    → IsRead (end_text names) (IsEndOf (length names)) (codes "full " ++ text) None
no_full_measure names text bad = no_full names text (no_first measure_text IsMeasure (codes " ") decimal IsSmall text bad)

pub no_full_count : (names : List (List ℕ)) (text rest : List ℕ) (measure : Measure)
    → IsRead (headed measure_text (codes " ")) (IsHead IsMeasure) text (Some (measure, rest))
    → IsRead decimal IsSmall rest None → IsRead (end_text names) (IsEndOf (length names)) (codes "full " ++ text) None
no_full_count names text rest measure a bad = no_full names text (no_second measure_text IsMeasure (codes " ") decimal IsSmall measure_first text rest
    measure a bad)

pub full_read : (names : List (List ℕ)) (text rest : List ℕ) (measure : Measure) (count : ℕ)
    → IsRead (headed measure_text (codes " ")) (IsHead IsMeasure) text (Some (measure, rest))
    → IsRead decimal IsSmall rest (Some count) → IsRead (end_text names) (IsEndOf (length names)) (codes "full " ++ text) (Some (Full measure count))
full_read names text rest measure count a b =
    let r = both_read measure_text IsMeasure (codes " ") decimal IsSmall text rest measure count a b in
    (r.0.1, ap (λ (t : List ℕ). codes "full " ++ t) r.1)

no_spent : (names : List (List ℕ)) (text : List ℕ) → IsRead spent_text AreSpent text None
    → IsRead (end_text names) (IsEndOf (length names)) (codes "spent " ++ text) None
no_spent names text bad = λ e h is.
    let i = is_spent names text e is in
    let P : End → Type 0 = IsEndOf (length names) in
    bad i.0 (subst P i.1 h) i.2

pub no_spent_commits : (names : List (List ℕ)) (text : List ℕ) → IsRead (headed decimal (codes " ")) (IsHead IsSmall) text None
    → IsRead (end_text names) (IsEndOf (length names)) (codes "spent " ++ text) None
no_spent_commits names text bad = no_spent names text (no_first decimal IsSmall (codes " ") task_text IsTask text bad)

pub no_spent_task : (names : List (List ℕ)) (text rest : List ℕ) (commits : ℕ)
    → IsRead (headed decimal (codes " ")) (IsHead IsSmall) text (Some (commits, rest))
    → IsRead task_text IsTask rest None → IsRead (end_text names) (IsEndOf (length names)) (codes "spent " ++ text) None
no_spent_task names text rest commits a bad = no_spent names text (no_second decimal IsSmall (codes " ") task_text IsTask number_first text rest commits a bad)

pub spent_read : (names : List (List ℕ)) (text rest : List ℕ) (commits : ℕ) (task : Task)
    → IsRead (headed decimal (codes " ")) (IsHead IsSmall) text (Some (commits, rest))
    → IsRead task_text IsTask rest (Some task) → IsRead (end_text names) (IsEndOf (length names)) (codes "spent " ++ text) (Some (Spent commits task))
spent_read names text rest commits task a b =
    let r = both_read decimal IsSmall (codes " ") task_text IsTask text rest commits task a b in
    (r.0, ap (λ (t : List ℕ). codes "spent " ++ t) r.1)

pub no_end : (names : List (List ℕ)) (text : List ℕ) → (text ≡ codes "sealed" → ⊥) → ((r : List ℕ) → text ≡ codes "stopped " ++ r → ⊥)
    → ((r : List ℕ) → text ≡ codes "full " ++ r → ⊥)
    → ((r : List ℕ) → text ≡ codes "spent " ++ r → ⊥) → IsRead (end_text names) (IsEndOf (length names)) text None
no_end names text sealed stopped full spent = λ e h is. by e is where
  by : (e : End) → text ≡ end_text names e → ⊥
  by Sealed is = sealed is
  by (Stopped task stop) is = stopped (stopped_text names (task, stop)) is
  by (Full measure count) is = full (full_text (measure, count)) is
  by (Spent commits task) is = spent (spent_text (commits, task)) is

-- ---- a text is that of one end

pub end_same : (names : List (List ℕ)) → AreNames names → (e f : End) → IsEndOf (length names) e → IsEndOf (length names) f
    → end_text names e ≡ end_text names f → e ≡ f
end_same names known Sealed f h k e = sym (is_sealed names f e)
end_same names known (Stopped task stop) f h k e =
    let i = is_stopped names (stopped_text names (task, stop)) f e in
    let P : End → Type 0 = IsEndOf (length names) in
    let a = pair_same task_text IsTask (codes " ") (stop_text names) (IsStopOf (length names)) task_first (λ x y p q g. stop_same names known x y p q g)
    (task, stop) i.0 h (subst P i.1 k) i.2 in
    (λ j. Stopped (a.0 j) (a.1 j)) ∙ sym i.1
end_same names known (Full measure count) f h k e =
    let i = is_full names (full_text (measure, count)) f e in
    let P : End → Type 0 = IsEndOf (length names) in
    let a = pair_same measure_text IsMeasure (codes " ") decimal IsSmall measure_first number_same (measure, count) i.0 (tt, h) (tt, subst P i.1 k) i.2 in
    (λ j. Full (a.0 j) (a.1 j)) ∙ sym i.1
end_same names known (Spent commits task) f h k e =
    let i = is_spent names (spent_text (commits, task)) f e in
    let P : End → Type 0 = IsEndOf (length names) in
    let a = pair_same decimal IsSmall (codes " ") task_text IsTask number_first task_same (commits, task) i.0 h (subst P i.1 k) i.2 in
    (λ j. Spent (a.0 j) (a.1 j)) ∙ sym i.1
