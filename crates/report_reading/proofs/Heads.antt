-- The lines at the head, and a whole text.
use Rattle.std.proofs.Common.{◌≡◌, ◌≢◌, inl, inr, ◌==◌, ℕ, List, ◌∷◌, ◌++◌, if◌then◌else◌, refl, sym, ap, subst, ◌∙◌}
use Rattle.std.specs.Prelude.{Some, None, Result, Ok, Err}
use Rattle.spelling.specs.Spelling.{cut, IsRead, IsSmall}
use Rattle.spelling.proofs.Cuts.{cut_joins}
use Rattle.presentation.specs.Presented.{Presented}
use Rattle.report_lines.specs.Texts.{title, pres_line}
use Rattle.report_lines.specs.Trimmed.{trimmed_title, items_line}
use Rattle.report_reading.specs.declared.data.ReportData.{ReportData}
use Rattle.report_reading.specs.declared.form.Form.{Form}
use Rattle.report_reading.specs.declared.form.Form.TheVariants.{Whole, Trimmed}
use Rattle.report_reading.specs.declared.fault.ReportFault.{ReportFault}
use Rattle.report_reading.specs.declared.fault.ReportFault.TheVariants.{Line as AtLine, NoMemory}
use Rattle.report_reading.specs.Telling.{Told}
use Rattle.report_reading.specs.Forms.{IsForm, form_of, headed_in, SaysIn}
use Rattle.report_reading.specs.Reading.{IsOther, IsUncounted, IsTitle, IsReportIn, IsFirstFault, Answers, FaultIs, HeadFails, IsAtSecond, IsAtThird, AnswersBody}

-- a line, and what stands behind it
pub behind_line : (wanted text line others : List ℕ) → cut 10 text ≡ Some (line, others) → line ≡ wanted → text ≡ wanted ++ 10 ∷ others
behind_line wanted text line others cuts is = cut_joins 10 text line others cuts ∙ ap (λ x. x ++ 10 ∷ others) is

-- ---- the first line

pub no_title : (p : Presented) (text : List ℕ) → cut 10 text ≡ None → IsFirstFault p text 1
no_title p text none = IsFirstFault.at_title (subst (IsOther title) (sym none) tt) (subst (IsOther trimmed_title) (sym none) tt)

pub other_title : (p : Presented) (text first others : List ℕ) → cut 10 text ≡ Some (first, others) → first ≢ title → first ≢ trimmed_title
    → IsFirstFault p text 1
other_title p text first others cuts other another =
    IsFirstFault.at_title (subst (IsOther title) (sym cuts) other) (subst (IsOther trimmed_title) (sym cuts) another)

-- ---- the second

pub no_second : (p : Presented) (text : List ℕ) → cut 10 text ≡ None → IsAtSecond p text 2
no_second p text none = record { number = refl; other = subst (IsOther (pres_line p)) (sym none) tt }

pub other_second : (p : Presented) (text second body : List ℕ) → cut 10 text ≡ Some (second, body) → second ≢ pres_line p → IsAtSecond p text 2
other_second p text second body cuts other = record { number = refl; other = subst (IsOther (pres_line p)) (sym cuts) other }

second_at : (p : Presented) (text first others : List ℕ) → IsTitle first → text ≡ first ++ 10 ∷ others → (e : ReportFault)
    → FaultIs (IsAtSecond p others) e → HeadFails p text e
second_at p text first others titled is (AtLine n) h =
    subst (IsFirstFault p text) (sym h.number) (IsFirstFault.at_presentation first others titled is h.other)
second_at p text first others titled is NoMemory h = tt

pub whole_second : (p : Presented) (text others : List ℕ) → text ≡ title ++ 10 ∷ others → (e : ReportFault) → FaultIs (IsAtSecond p others) e
    → HeadFails p text e
whole_second p text others is e h = second_at p text title others (inl refl) is e h

pub trimmed_second : (p : Presented) (text others : List ℕ) → text ≡ trimmed_title ++ 10 ∷ others → (e : ReportFault) → FaultIs (IsAtSecond p others) e
    → HeadFails p text e
trimmed_second p text others is e h = second_at p text trimmed_title others (inr refl) is e h

-- ---- the third

pub no_third : (text : List ℕ) → cut 10 text ≡ None → IsAtThird text 3
no_third text none = record { number = refl; uncounted = subst IsUncounted (sym none) tt }

pub other_third : (text third body : List ℕ) → cut 10 text ≡ Some (third, body) → IsRead items_line IsSmall third None → IsAtThird text 3
other_third text third body cuts bad = record { number = refl; uncounted = subst IsUncounted (sym cuts) bad }

pub third_is : (text third body : List ℕ) (n : ℕ) → cut 10 text ≡ Some (third, body) → IsRead items_line IsSmall third (Some n)
    → text ≡ items_line n ++ 10 ∷ body
third_is text third body n cuts read = behind_line (items_line n) text third body cuts read.1

pub third_at : (p : Presented) (text others more : List ℕ) → text ≡ trimmed_title ++ 10 ∷ others → others ≡ pres_line p ++ 10 ∷ more → (e : ReportFault)
    → FaultIs (IsAtThird more) e → HeadFails p text e
third_at p text others more is next (AtLine n) h =
    subst (IsFirstFault p text) (sym h.number) (IsFirstFault.at_items more (is ∙ ap (λ x. trimmed_title ++ 10 ∷ x) next) h.uncounted)
third_at p text others more is next NoMemory h = tt

-- ---- the text

pub whole_head : (p : Presented) (text others body : List ℕ) → text ≡ title ++ 10 ∷ others → others ≡ pres_line p ++ 10 ∷ body
    → text ≡ headed_in Whole p body
whole_head p text others body is next = is ∙ ap (λ x. title ++ 10 ∷ x) next

pub trimmed_head : (p : Presented) (text others more body : List ℕ) (n : ℕ) → text ≡ trimmed_title ++ 10 ∷ others → others ≡ pres_line p ++ 10 ∷ more
    → more ≡ items_line n ++ 10 ∷ body → text ≡ headed_in (Trimmed n) p body
trimmed_head p text others more body n is next last =
    is ∙ ap (λ x. trimmed_title ++ 10 ∷ x) (next ∙ ap (λ x. pres_line p ++ 10 ∷ x) last)

pub head_fails : (p : Presented) (text : List ℕ) (e : ReportFault) → HeadFails p text e → Answers p text (Err e)
head_fails p text (AtLine n) h = h
head_fails p text NoMemory h = tt

-- the data names its form
form_is : (f : Form) (t : Told) (d : ReportData) → SaysIn f t d → form_of d ≡ f
form_is Whole t d h = ap (λ v. if v == 1 then Whole else Trimmed d.items) h.version
form_is (Trimmed n) t d h = λ i. if (h.0.version i) == 1 then Whole else Trimmed (h.0.items i)

pub whole : (f : Form) (p : Presented) (text body : List ℕ) (r : Result ReportData ReportFault) → IsForm f → text ≡ headed_in f p body → AnswersBody f p body r
    → Answers p text r
whole f p text body (Ok d) form is b =
    let report : IsReportIn f p text d = record {
      ls = b.ls;
      told = b.told;
      begins = b.begins;
      spelled = is ∙ ap (headed_in f p) b.spelled;
      says = b.says;
    } in
    subst (λ g. IsReportIn g p text d) (sym (form_is f b.told d b.says)) report
whole f p text body (Err (AtLine n)) form is b = IsFirstFault.behind f n body form is b
whole f p text body (Err NoMemory) form is b = tt
