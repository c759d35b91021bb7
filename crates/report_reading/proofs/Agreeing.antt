-- A text that is a report says one thing.
use Rattle.std.proofs.Common.{◌≡◌, ℕ, List, [], ◌∷◌, ◌++◌, refl, sym, ap, subst, ◌∙◌}
use Rattle.std.specs.List.{AllByRecursion}
use Rattle.spelling.specs.Spelling.{cut}
use Rattle.presentation.specs.Presented.{Presented, IsPresented}
use Rattle.report_reading.specs.declared.data.ReportData.{ReportData}
use Rattle.report_reading.specs.declared.form.Form.{Form}
use Rattle.report_reading.specs.declared.form.Form.TheVariants.{Whole, Trimmed}
use Rattle.report_reading.specs.Telling.{Told, nothing, IsDataAs}
use Rattle.report_reading.specs.Forms.{form_of, LineIn, IsLineIn, lines_in, tell_in, TellIn, SaysIn}
use Rattle.report_reading.specs.Reading.{IsReport, IsReportIn}
use Rattle.report_reading.proofs.Excluding.{some_same, none_some, first_cut, append_nothing, one_head, small_form}
use Rattle.report_reading.proofs.Placing.{one_line_in}

-- the text of lines is that of no others, and so tells one thing
one_told : (f : Form) (p : Presented) → IsPresented p → (s t u : Told) (text : List ℕ) (ls ms : List (LineIn f)) → AllByRecursion (IsLineIn f p) ls
    → AllByRecursion (IsLineIn f p) ms → TellIn f s ls t → TellIn f s ms u
    → text ≡ lines_in f p ls ++ [] → text ≡ lines_in f p ms ++ [] → t ≡ u
one_told f p known s t u text [] [] vl vm tl tm is was = sym tl ∙ tm
one_told f p known s t u text [] (m ∷ ms) vl vm tl tm is was =
    absurd (none_some (ap (cut 10) (sym is) ∙ first_cut f p known text m ms [] vm.0 was))
one_told f p known s t u text (l ∷ ls) [] vl vm tl tm is was =
    absurd (none_some (ap (cut 10) (sym was) ∙ first_cut f p known text l ls [] vl.0 is))
one_told f p known s t u text (l ∷ ls) (m ∷ ms) vl vm tl tm is was =
    let same = some_same (sym (first_cut f p known text l ls [] vl.0 is) ∙ first_cut f p known text m ms [] vm.0 was) in
    let one : l ≡ m = one_line_in f p l m known vl.0 vm.0 (ap (λ x. x.0) same) in
    one_told f p known (tell_in f s l) t u (lines_in f p ls ++ []) ls ms vl.1 vm.1 tl.1 (subst (λ x. TellIn f (tell_in f s x) ms u) (sym one) tm.1) refl
    (ap (λ x. x.1) same)

one_says : (v n : ℕ) (t : Told) (d e : ReportData) → IsDataAs v n t d → IsDataAs v n t e → d ≡ e
one_says v n t d e a b =
    let version : d.version ≡ e.version = a.version ∙ sym b.version in
    let items : d.items ≡ e.items = a.items ∙ sym b.items in
    let from : d.from ≡ e.from = a.from ∙ sym b.from in
    let entries : d.entries ≡ e.entries = a.entries ∙ sym b.entries in
    let replies : d.replies ≡ e.replies = a.replies ∙ sym b.replies in
    let end : d.end ≡ e.end = some_same (sym a.end ∙ b.end) in
    λ i. record { version = version i; items = items i; from = from i; entries = entries i; replies = replies i; end = end i }

one_says_in : (f : Form) (t : Told) (d e : ReportData) → SaysIn f t d → SaysIn f t e → d ≡ e
one_says_in Whole t d e a b = one_says 1 _ t d e a b
one_says_in (Trimmed n) t d e a b = one_says 2 n t d e a.0 b.0

one_in : (f : Form) (p : Presented) (text : List ℕ) (d e : ReportData) → IsPresented p → IsReportIn f p text d → IsReportIn f p text e → d ≡ e
one_in f p text d e known a b =
    let small = small_form f a.told d a.says in
    let bodies : lines_in f p a.ls ≡ lines_in f p b.ls =
    (one_head f f p known (lines_in f p a.ls) (lines_in f p b.ls) small small (sym a.spelled ∙ b.spelled)).1 in
    let same : a.told ≡ b.told =
    one_told f p known nothing a.told b.told (lines_in f p a.ls) a.ls b.ls a.begins.valid b.begins.valid a.begins.tells b.begins.tells
    (append_nothing (lines_in f p a.ls))
    (bodies ∙ append_nothing (lines_in f p b.ls)) in
    one_says_in f b.told d e (subst (λ t. SaysIn f t d) same a.says) b.says

pub one_data : (p : Presented) (text : List ℕ) (d e : ReportData) → IsPresented p → IsReport p text d → IsReport p text e → d ≡ e
one_data p text d e known a b =
    let forms : form_of d ≡ form_of e =
    (one_head (form_of d) (form_of e) p known (lines_in (form_of d) p a.ls) (lines_in (form_of e) p b.ls) (small_form (form_of d) a.told d a.says)
    (small_form (form_of e) b.told e b.says) (sym a.spelled ∙ b.spelled)).0 in
    one_in (form_of e) p text d e known (subst (λ f. IsReportIn f p text d) forms a) b
