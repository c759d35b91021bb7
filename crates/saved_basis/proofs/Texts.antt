-- The text of a file so far, and the faults of each way out.
use Rattle.std.proofs.Common.{◌≡◌, ◌≢◌, ℕ, ◌+◌, ◌≤◌, List, [], ◌∷◌, ◌++◌, length, Some, None, refl, sym, ap, subst, ◌∙◌, arith, append_assoc, append-nil}
use Rattle.spelling.specs.Spelling.{cut}
use Rattle.spelling.proofs.Cuts.{cut_joins}
use Rattle.presentation.specs.Presented.{Presented}
use Rattle.module_vec.specs.declared.places.Term.{Term}
use Rattle.fox_calculus.specs.Generators.{AreGenerators}
use Rattle.report_lines.specs.declared.lines.Line.{Line as ALine}
use Rattle.report_lines.specs.declared.lines.Line.TheVariants as lines
use Rattle.report_lines.specs.Texts.{pres_line, line_text, lines_text}
use Rattle.basis_entry.specs.Entries.{BasisEntry}
use Rattle.report_text.specs.Histories.{entry_lines, made_by}
use Rattle.report_text.proofs.Written.{lines_append}
use Rattle.saved_basis.specs.declared.faults.LineKind.{LineKind}
use Rattle.saved_basis.specs.declared.faults.LineKind.TheVariants.{Text}
use Rattle.saved_basis.specs.declared.faults.BasisFault.{BasisFault}
use Rattle.saved_basis.specs.declared.faults.BasisFault.TheVariants.{Line}
use Rattle.saved_basis.specs.Files.{IsBeginning, title, last_line, begun_text, basis_text}
use Rattle.saved_basis.specs.Lines.{LineFails, IsOther, CantFollow, IsFirstFault, FailsAt}
use Rattle.saved_basis.specs.Reading.{HeadFails}

-- ---- the head

pub no_title : (p : Presented) (text : List ℕ) → cut 10 text ≡ None → (gens : List (List Term)) → IsFirstFault p gens text 1 Text
no_title p text none gens = IsFirstFault.at_title (subst (IsOther title) (sym none) tt)

pub other_title : (p : Presented) (text first others : List ℕ) → cut 10 text ≡ Some (first, others) → first ≢ title → (gens : List (List Term))
    → IsFirstFault p gens text 1 Text
other_title p text first others cuts other gens = IsFirstFault.at_title (subst (IsOther title) (sym cuts) other)

-- a line, and what stands behind it
pub behind_line : (wanted text line others : List ℕ) → cut 10 text ≡ Some (line, others) → line ≡ wanted → text ≡ wanted ++ 10 ∷ others
behind_line wanted text line others cuts is = cut_joins 10 text line others cuts ∙ ap (λ x. x ++ 10 ∷ others) is

pub no_presentation : (p : Presented) (text others : List ℕ) → text ≡ title ++ 10 ∷ others → cut 10 others ≡ None → (gens : List (List Term))
    → IsFirstFault p gens text 2 Text
no_presentation p text others is none gens = IsFirstFault.at_presentation others is (subst (IsOther (pres_line p)) (sym none) tt)

pub other_presentation : (p : Presented) (text others second body : List ℕ) → text ≡ title ++ 10 ∷ others → cut 10 others ≡ Some (second, body)
    → second ≢ pres_line p → (gens : List (List Term)) → IsFirstFault p gens text 2 Text
other_presentation p text others second body is cuts other gens =
    IsFirstFault.at_presentation others is (subst (IsOther (pres_line p)) (sym cuts) other)

pub behind_both : (p : Presented) (text others second body : List ℕ) → text ≡ title ++ 10 ∷ others → cut 10 others ≡ Some (second, body) → second ≡ pres_line p
    → text ≡ title ++ 10 ∷ (pres_line p ++ 10 ∷ body)
behind_both p text others second body is cuts same = is ∙ ap (λ x. title ++ 10 ∷ x) (behind_line (pres_line p) others second body cuts same)

-- ---- the lines behind it

module _ (p : Presented) where
  headed : List ℕ → List ℕ
  headed body = title ++ 10 ∷ (pres_line p ++ 10 ∷ body)

  pub behind_head : (x y : List ℕ) → (title ++ 10 ∷ (pres_line p ++ 10 ∷ x)) ++ y ≡ title ++ 10 ∷ (pres_line p ++ 10 ∷ (x ++ y))
  behind_head x y = append_assoc title (10 ∷ (pres_line p ++ 10 ∷ x)) y ∙ ap (λ t. title ++ 10 ∷ t) (append_assoc (pres_line p) (10 ∷ x) y)

  pub begun : (text body : List ℕ) → text ≡ title ++ 10 ∷ (pres_line p ++ 10 ∷ body) → text ≡ begun_text p [] ++ body
  begun text body is = is ∙ sym (behind_head [] body)

pub entry_lines_push : (k : ℕ) (es : List BasisEntry) (e : BasisEntry)
    → entry_lines k (es ++ e ∷ []) ≡ entry_lines k es ++ lines.Entry (k + length es) (made_by e.recipe) e.vector ∷ []
entry_lines_push k [] e = let same : k ≡ k + 0 = omega arith in ap (λ n. lines.Entry n (made_by e.recipe) e.vector ∷ []) same
entry_lines_push k (x ∷ es) e =
    let same : k + 1 + length es ≡ k + length (x ∷ es) = omega arith in
    ap (λ ls. lines.Entry k (made_by x.recipe) x.vector ∷ ls)
    (entry_lines_push (k + 1) es e ∙ ap (λ n. entry_lines (k + 1) es ++ lines.Entry n (made_by e.recipe) e.vector ∷ []) same)

-- the lines with one more
lines_more : (p : Presented) (es : List BasisEntry) (e : BasisEntry) (others : List ℕ)
    → lines_text p (entry_lines 0 es) ++ (line_text p (lines.Entry (length es) (made_by e.recipe) e.vector) ++ 10 ∷ others)
    ≡ lines_text p (entry_lines 0 (es ++ e ∷ [])) ++ others
lines_more p es e others =
    let l : ALine = lines.Entry (length es) (made_by e.recipe) e.vector in
    let number : 0 + length es ≡ length es = omega arith in
    let more : entry_lines 0 (es ++ e ∷ []) ≡ entry_lines 0 es ++ l ∷ [] =
    entry_lines_push 0 es e ∙ ap (λ n. entry_lines 0 es ++ lines.Entry n (made_by e.recipe) e.vector ∷ []) number in
    let one : line_text p l ++ 10 ∷ others ≡ lines_text p (l ∷ []) ++ others =
    sym (append_assoc (line_text p l) (10 ∷ []) others) ∙ ap (λ t. t ++ others) (sym (append-nil (line_text p l ++ 10 ∷ []))) in
    ap (λ t. lines_text p (entry_lines 0 es) ++ t) one ∙ sym (append_assoc (lines_text p (entry_lines 0 es)) (lines_text p (l ∷ [])) others)
    ∙ ap (λ t. t ++ others) (sym (lines_append p (entry_lines 0 es) (l ∷ [])) ∙ ap (lines_text p) (sym more))

module _ (p : Presented) (gens : List (List Term)) (text : List ℕ) (are : AreGenerators p gens) (es : List BasisEntry) (rest : List ℕ)
    (b : IsBeginning p gens es) (is : text ≡ begun_text p es ++ rest) where
  pub missing : (n : ℕ) → n ≡ length es + 3 → cut 10 rest ≡ None → FailsAt p text n Text
  missing n e none = record {
    generators = gens;
    are = are;
    fault = subst (λ m. IsFirstFault p gens text m Text) (sym e) (IsFirstFault.behind es rest Text b is
        (subst (λ o. CantFollow p gens es o Text) (sym none) refl));
  }

  module _ (line others : List ℕ) (parts : cut 10 rest ≡ Some (line, others)) where
    rest_is : rest ≡ line ++ 10 ∷ others
    rest_is = cut_joins 10 rest line others parts

    pub fails : (n : ℕ) (k : LineKind) → n ≡ length es + 3 → LineFails p gens es line k → FailsAt p text n k
    fails n k e h = record {
      generators = gens;
      are = are;
      fault = subst (λ m. IsFirstFault p gens text m k) (sym e) (IsFirstFault.behind es rest k b is
          (subst (λ o. CantFollow p gens es o k) (sym parts) h));
    }

    pub longer : (e : BasisEntry) → line ≡ line_text p (lines.Entry (length es) (made_by e.recipe) e.vector) → text ≡ begun_text p (es ++ e ∷ []) ++ others
    longer e spelled =
        is ∙ ap (λ t. begun_text p es ++ t) (rest_is ∙ ap (λ t. t ++ 10 ∷ others) spelled)
        ∙ behind_head p (lines_text p (entry_lines 0 es)) (line_text p (lines.Entry (length es) (made_by e.recipe) e.vector) ++ 10 ∷ others)
        ∙ ap (λ t. title ++ 10 ∷ (pres_line p ++ 10 ∷ t)) (lines_more p es e others)
        ∙ sym (behind_head p (lines_text p (entry_lines 0 (es ++ e ∷ []))) others)

    ended : line ≡ last_line → text ≡ basis_text p es ++ others
    ended last =
        is ∙ ap (λ t. begun_text p es ++ t) (rest_is ∙ ap (λ t. t ++ 10 ∷ others) last)
        ∙ ap (λ t. begun_text p es ++ t) (sym (append_assoc last_line (10 ∷ []) others))
        ∙ sym (append_assoc (begun_text p es) (last_line ++ 10 ∷ []) others)

    pub whole : line ≡ last_line → others ≡ [] → text ≡ basis_text p es
    whole last none = ended last ∙ ap (λ t. basis_text p es ++ t) none ∙ append-nil (basis_text p es)

    pub goes_on : (n : ℕ) → n ≡ length es + 4 → length gens ≤ length es → line ≡ last_line → others ≢ [] → FailsAt p text n Text
    goes_on n e all last some = record {
      generators = gens;
      are = are;
      fault = subst (λ m. IsFirstFault p gens text m Text) (sym e) (IsFirstFault.after_last es others b all (ended last) some);
    }

-- the fault of the head
pub head_at : (p : Presented) (text : List ℕ) (n : ℕ) (fault : BasisFault) → fault ≡ Line n Text → ((gens : List (List Term)) → IsFirstFault p gens text n Text)
    → HeadFails p text fault
head_at p text n fault e h = subst (HeadFails p text) (sym e) h
