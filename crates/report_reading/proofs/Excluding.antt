-- A text that is a report has no line that can't stand.
use Rattle.std.proofs.Common.{◌≡◌, inl, inr, ℕ, ◌==◌, false, List, [], ◌∷◌, ◌++◌, refl, sym, ap, subst, ◌∙◌, append_assoc}
use Rattle.std.specs.List.{AllByRecursion}
use Rattle.std.specs.Prelude.{Some, None}
use Rattle.spelling.specs.Spelling.{cut}
use Rattle.spelling.proofs.Cuts.{cut_here}
use Rattle.presentation.specs.Presented.{Presented, IsPresented}
use Rattle.report_lines.specs.Texts.{title, pres_line}
use Rattle.report_lines.specs.Trimmed.{trimmed_title, items_line}
use Rattle.report_lines.proofs.Pairs.{clash, literal}
use Rattle.report_lines.proofs.TrimmedTexts.{one_items_line}
use Rattle.report_reading.specs.declared.data.ReportData.{ReportData}
use Rattle.report_reading.specs.declared.form.Form.{Form}
use Rattle.report_reading.specs.declared.form.Form.TheVariants.{Whole, Trimmed}
use Rattle.report_reading.specs.Telling.{Told, nothing}
use Rattle.report_reading.specs.Forms.{IsForm, form_of, LineIn, IsLineIn, text_in, lines_in, title_in, counted_in, headed_in, FollowsIn, tell_in, TellIn, SaysIn}
use Rattle.report_reading.specs.Reading.{IsOther, IsUncounted, IsTitle, CantStand, IsReport, IsReportIn, StandsUpTo, IsFirstFault, at_title, at_presentation, at_items, behind}
use Rattle.report_reading.proofs.LineBytes.{whole_line_in, head_line, items_whole}
use Rattle.report_reading.proofs.Placing.{one_line_in}

pub some_same : {X : Type 0} {x y : X} → Some x ≡ Some y → x ≡ y
some_same e = cc

pub none_some : {X : Type 0} {x : X} → None ≡ Some x → ⊥
none_some e = cc

-- the first line of some lines
pub first_cut : (f : Form) (p : Presented) → IsPresented p → (text : List ℕ) (l : LineIn f) (ls : List (LineIn f)) (rest : List ℕ) → IsLineIn f p l
    → text ≡ lines_in f p (l ∷ ls) ++ rest
    → cut 10 text ≡ Some (text_in f p l, lines_in f p ls ++ rest)
first_cut f p known text l ls rest valid is =
    ap (cut 10) (is
    ∙ (append_assoc (text_in f p l ++ 10 ∷ []) (lines_in f p ls) rest
    ∙ append_assoc (text_in f p l) (10 ∷ []) (lines_in f p ls ++ rest)))
    ∙ cut_here 10 (text_in f p l) (lines_in f p ls ++ rest) (whole_line_in p known f l valid)

-- lines that tell a whole report leave no line that can't stand
no_fault : (f : Form) (p : Presented) → IsPresented p → (s t u : Told) (text : List ℕ) (ls ms : List (LineIn f)) (rest : List ℕ) (d : ReportData)
    → AllByRecursion (IsLineIn f p) ls → AllByRecursion (IsLineIn f p) ms → TellIn f s ls t → TellIn f s ms u → text ≡ lines_in f p ls ++ [] → SaysIn f t d
    → text ≡ lines_in f p ms ++ rest → CantStand f p u rest (cut 10 rest) → ⊥
no_fault f p known s t u text [] [] rest d vl vm tl tm is says was fails =
    let empty : rest ≡ [] = sym was ∙ is in
    let none : CantStand f p u rest None = subst (CantStand f p u rest) (ap (cut 10) empty) fails in
    none d empty (subst (λ x. SaysIn f x d) (sym tl ∙ tm) says)
no_fault f p known s t u text [] (m ∷ ms) rest d vl vm tl tm is says was fails =
    absurd (none_some (ap (cut 10) (sym is) ∙ first_cut f p known text m ms rest vm.0 was))
no_fault f p known s t u text (l ∷ ls) [] rest d vl vm tl tm is says was fails =
    let cuts = ap (cut 10) (sym was) ∙ first_cut f p known text l ls [] vl.0 is in
    let none : CantStand f p u rest (Some (text_in f p l, lines_in f p ls ++ [])) = subst (CantStand f p u rest) cuts fails in
    none l vl.0 (subst (λ x. FollowsIn f x l) tm tl.0) refl
no_fault f p known s t u text (l ∷ ls) (m ∷ ms) rest d vl vm tl tm is says was fails =
    let same = some_same (sym (first_cut f p known text l ls [] vl.0 is) ∙ first_cut f p known text m ms rest vm.0 was) in
    let one : l ≡ m = one_line_in f p l m known vl.0 vm.0 (ap (λ x. x.0) same) in
    no_fault f p known (tell_in f s l) t u (lines_in f p ls ++ []) ls ms rest d vl.1 vm.1 tl.1 (subst (λ x. TellIn f (tell_in f s x) ms u) (sym one) tm.1)
    refl says (ap (λ x. x.1) same) fails

pub append_nothing : (xs : List ℕ) → xs ≡ xs ++ []
append_nothing [] = refl
append_nothing (x ∷ xs) = ap (λ ys. x ∷ ys) (append_nothing xs)

-- ---- the head

abbrev IsWhole : List ℕ → Type 0
IsWhole line = AllByRecursion (λ b. (b == 10) ≡ false) line

title_whole : (f : Form) → IsWhole (title_in f)
title_whole Whole = literal 10 title refl
title_whole (Trimmed n) = literal 10 trimmed_title refl

is_whole : (first : List ℕ) → IsTitle first → IsWhole first
is_whole first (inl is) = subst IsWhole (sym is) (title_whole Whole)
is_whole first (inr is) = subst IsWhole (sym is) (title_whole (Trimmed 0))

title_cut : (f : Form) (text others : List ℕ) → text ≡ title_in f ++ 10 ∷ others → cut 10 text ≡ Some (title_in f, others)
title_cut f text others is = ap (cut 10) is ∙ cut_here 10 (title_in f) others (title_whole f)

titles_differ : title ≡ trimmed_title → ⊥
titles_differ e = clash 14 title trimmed_title e refl

-- behind one presentation
one_behind : (p : Presented) → IsPresented p → (a b : List ℕ) → pres_line p ++ 10 ∷ a ≡ pres_line p ++ 10 ∷ b → a ≡ b
one_behind p known a b e =
    ap (λ x. x.1) (some_same (sym (cut_here 10 (pres_line p) a (head_line p known)) ∙ (ap (cut 10) e ∙ cut_here 10 (pres_line p) b (head_line p known))))

-- the head and the body of a text
pub one_head : (f g : Form) (p : Presented) → IsPresented p → (a b : List ℕ) → IsForm f → IsForm g → headed_in f p a ≡ headed_in g p b
    → (f ≡ g) × (a ≡ b)
one_head f g p known a b h k e = by f g h k firsts.0 (one_behind p known (counted_in f a) (counted_in g b) firsts.1)
  where
    firsts : (title_in f ≡ title_in g) × (pres_line p ++ 10 ∷ counted_in f a ≡ pres_line p ++ 10 ∷ counted_in g b)
    firsts =
        let same = some_same (sym (title_cut f (headed_in f p a) (pres_line p ++ 10 ∷ counted_in f a) refl)
        ∙ title_cut g (headed_in f p a) (pres_line p ++ 10 ∷ counted_in g b) e) in
        (ap (λ x. x.0) same, ap (λ x. x.1) same)

    by : (f g : Form) → IsForm f → IsForm g → title_in f ≡ title_in g → counted_in f a ≡ counted_in g b → (f ≡ g) × (a ≡ b)
    by Whole Whole h k t c = (refl, c)
    by Whole (Trimmed n) h k t c = absurd (titles_differ t)
    by (Trimmed n) Whole h k t c = absurd (titles_differ (sym t))
    by (Trimmed m) (Trimmed n) h k t c =
        let same = some_same (sym (cut_here 10 (items_line m) a (items_whole m h)) ∙ (ap (cut 10) c ∙ cut_here 10 (items_line n) b (items_whole n k))) in
        (ap (λ x. Trimmed x) (one_items_line m n h k (ap (λ x. x.0) same)), ap (λ x. x.1) same)

other_titles : (f : Form) (c : _) → IsOther title c → IsOther trimmed_title c → IsOther (title_in f) c
other_titles Whole c h k = h
other_titles (Trimmed n) c h k = k

pub small_form : (f : Form) (t : Told) (d : ReportData) → SaysIn f t d → IsForm f
small_form Whole t d h = tt
small_form (Trimmed n) t d h = h.1

-- ---- a report

counted_line : (f : Form) (p : Presented) → IsPresented p → (text body others : List ℕ) → IsForm f → text ≡ headed_in f p body
    → text ≡ trimmed_title ++ 10 ∷ (pres_line p ++ 10 ∷ others) → (n : ℕ) × IsForm (Trimmed n) × (cut 10 others ≡ Some (items_line n, body))
counted_line Whole p known text body others small is was =
    absurd (titles_differ (ap (λ x. x.0) (some_same (sym (title_cut Whole text (pres_line p ++ 10 ∷ body) is)
    ∙ title_cut (Trimmed 0) text (pres_line p ++ 10 ∷ others) was))))
counted_line (Trimmed n) p known text body others small is was =
    let same = some_same (sym (title_cut (Trimmed n) text (pres_line p ++ 10 ∷ others) was)
    ∙ title_cut (Trimmed n) text (pres_line p ++ 10 ∷ (items_line n ++ 10 ∷ body)) is) in
    let rest : others ≡ items_line n ++ 10 ∷ body = one_behind p known others (items_line n ++ 10 ∷ body) (ap (λ x. x.1) same) in
    (n, small, ap (cut 10) rest ∙ cut_here 10 (items_line n) body (items_whole n small))

excluded_in : (f : Form) (p : Presented) (text : List ℕ) (d : ReportData) (n : ℕ) → IsPresented p → IsReportIn f p text d → IsFirstFault p text n → ⊥
excluded_in f p text d _ known report (at_title other another) =
    let cuts = title_cut f text (pres_line p ++ 10 ∷ counted_in f (lines_in f p report.ls)) report.spelled in
    subst (IsOther (title_in f)) cuts (other_titles f (cut 10 text) other another) refl
excluded_in f p text d _ known report (at_presentation first others titled is other) =
    let body = counted_in f (lines_in f p report.ls) in
    let first_is : cut 10 text ≡ Some (first, others) = ap (cut 10) is ∙ cut_here 10 first others (is_whole first titled) in
    let same : others ≡ pres_line p ++ 10 ∷ body = ap (λ x. x.1) (some_same (sym first_is ∙ title_cut f text (pres_line p ++ 10 ∷ body) report.spelled)) in
    subst (IsOther (pres_line p)) (ap (cut 10) same ∙ cut_here 10 (pres_line p) body (head_line p known)) other refl
excluded_in f p text d _ known report (at_items others is uncounted) =
    let small = small_form f report.told d report.says in
    let line = counted_line f p known text (lines_in f p report.ls) others small report.spelled is in
    not_counted others line.0 (lines_in f p report.ls) line.1 line.2 uncounted
  where
    not_counted : (others : List ℕ) (n : ℕ) (body : List ℕ) → IsForm (Trimmed n) → cut 10 others ≡ Some (items_line n, body) → IsUncounted (cut 10 others) → ⊥
    not_counted others n body small cuts h = subst IsUncounted cuts h n small refl
excluded_in f p text d _ known report (behind g n body form is stands) =
    let same = one_head f g p known (lines_in f p report.ls) body (small_form f report.told d report.says) form (sym report.spelled ∙ is) in
    in_form (subst (λ h. StandsUpTo h p body n) (sym same.0) stands) same.1
  where
    in_form : StandsUpTo f p body n → lines_in f p report.ls ≡ body → ⊥
    in_form stands is =
        no_fault f p known nothing report.told stands.told body report.ls stands.ls stands.rest d report.begins.valid stands.begins.valid report.begins.tells
        stands.begins.tells
        (sym is ∙ append_nothing (lines_in f p report.ls)) report.says stands.spelled stands.fails

pub excluded : (p : Presented) (text : List ℕ) (d : ReportData) (n : ℕ) → IsPresented p → IsReport p text d → IsFirstFault p text n → ⊥
excluded p text d n known report fault = excluded_in (form_of d) p text d n known report fault
