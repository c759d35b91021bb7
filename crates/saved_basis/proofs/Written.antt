-- A file that is written line by line.
use Rattle.std.proofs.Common.{◌≡◌, ℕ, ◌+◌, ◌<◌, ◌≤◌, List, [], ◌∷◌, ◌++◌, length, drop, Option, Some, Result}
use Rattle.std.proofs.Common.{Ok, Err, sym, ap, subst, ◌∙◌}
use Rattle.std.proofs.Common.{append_assoc, append-nil}
use Rattle.std.proofs.lemmas.List.{drop_all}
use Rattle.std.specs.List.{slice_get}
use Rattle.mb_io.specs.Shelf.{TakesPrefix}
use Rattle.presentation.specs.Presented.{Presented}
use Rattle.report_lines.specs.declared.lines.Line.TheVariants as lines
use Rattle.report_lines.specs.Texts.{pres_line, line_text, lines_text}
use Rattle.basis_entry.specs.Entries.{BasisEntry}
use Rattle.report_text.specs.Histories.{entry_lines, made_by}
use Rattle.report_text.specs.Writing.{Stops}
use Rattle.report_text.proofs.Lists.{stands_at, same_item}
use Rattle.report_text.proofs.Written.{Goes, goes_from, goes_more, goes_all, goes_stops, goes_halts}
use Rattle.saved_basis.specs.declared.faults.WriteFault.{WriteFault}
use Rattle.saved_basis.specs.Files.{title, last_line, basis_text}
use Rattle.saved_basis.specs.Writing.{Puts}

-- what is left is written
pub goes_puts : (a b c : Option (List ℕ)) (text rest : List ℕ) (r : Result (Unit {0}) WriteFault) → Goes a text rest b → Puts b rest r c → Puts a text r c
goes_puts a b c text rest (Ok u) g h =
    goes_all a c text (goes_more a b c text rest [] (subst (λ t. Goes a text t b) (sym (append-nil rest)) g) h)
goes_puts a b c text rest (Err e) g h = goes_stops a b c text rest [] (subst (λ t. Goes a text t b) (sym (append-nil rest)) g) h

-- one text behind another
pub then_puts : (a b c : Option (List ℕ)) (x y : List ℕ) (r : Result (Unit {0}) WriteFault) → TakesPrefix a x b → Puts b y r c → Puts a (x ++ y) r c
then_puts a b c x y r h k = goes_puts a b c (x ++ y) y r (goes_more a a b (x ++ y) x y (goes_from a (x ++ y)) h) k

-- ---- the lines of the entries

abbrev pub entry_piece : Presented → ℕ → BasisEntry → List ℕ
entry_piece p k e = line_text p (lines.Entry k (made_by e.recipe) e.vector) ++ 10 ∷ []

-- what is left from entry number k on
abbrev pub left_from : Presented → List BasisEntry → ℕ → List ℕ
left_from p es k = lines_text p (entry_lines k (drop k es))

pub next_left : (p : Presented) (es : List BasisEntry) (k : ℕ) (e : BasisEntry) → k < length es → slice_get es k ≡ Some e
    → left_from p es k ≡ entry_piece p k e ++ left_from p es (k + 1)
next_left p es k e lt at =
    let here = stands_at es k lt in
    let same : here.item ≡ e = same_item es k here.item e here.here at in
    ap (λ xs. lines_text p (entry_lines k xs)) here.left ∙ ap (λ x. entry_piece p k x ++ left_from p es (k + 1)) same

module _ (p : Presented) (es : List BasisEntry) (k : ℕ) (e : BasisEntry) (lt : k < length es) (at : slice_get es k ≡ Some e) (a b c : Option (List ℕ))
    (goes : Goes a (lines_text p (entry_lines 0 es)) (left_from p es k) b) where
  onwards : Goes a (lines_text p (entry_lines 0 es)) (entry_piece p k e ++ left_from p es (k + 1)) b
  onwards = subst (λ t. Goes a (lines_text p (entry_lines 0 es)) t b) (next_left p es k e lt at) goes

  pub entry_goes : TakesPrefix b (entry_piece p k e) c → Goes a (lines_text p (entry_lines 0 es)) (left_from p es (k + 1)) c
  entry_goes h = goes_more a b c (lines_text p (entry_lines 0 es)) (entry_piece p k e) (left_from p es (k + 1)) onwards h

  pub entry_stops : Stops b (entry_piece p k e) c → Stops a (lines_text p (entry_lines 0 es)) c
  entry_stops h = goes_stops a b c (lines_text p (entry_lines 0 es)) (entry_piece p k e) (left_from p es (k + 1)) onwards h

pub none_left : (p : Presented) (es : List BasisEntry) (k : ℕ) (a b : Option (List ℕ)) → length es ≤ k
    → Goes a (lines_text p (entry_lines 0 es)) (left_from p es k) b → TakesPrefix a (lines_text p (entry_lines 0 es)) b
none_left p es k a b le goes =
    goes_all a b (lines_text p (entry_lines 0 es))
    (subst (λ xs. Goes a (lines_text p (entry_lines 0 es)) (lines_text p (entry_lines k xs)) b) (drop_all k es le) goes)

-- ---- the whole file

abbrev pub head_piece : Presented → List ℕ
head_piece p = (title ++ 10 ∷ []) ++ (pres_line p ++ 10 ∷ [])

file_pieces : (p : Presented) (es : List BasisEntry) → basis_text p es ≡ head_piece p ++ (lines_text p (entry_lines 0 es) ++ (last_line ++ 10 ∷ []))
file_pieces p es =
    let body : List ℕ = lines_text p (entry_lines 0 es) in
    let done : List ℕ = last_line ++ 10 ∷ [] in
    let inner : (pres_line p ++ 10 ∷ []) ++ (body ++ done) ≡ (pres_line p ++ 10 ∷ body) ++ done =
    append_assoc (pres_line p) (10 ∷ []) (body ++ done) ∙ sym (append_assoc (pres_line p) (10 ∷ body) done) in
    append_assoc title (10 ∷ (pres_line p ++ 10 ∷ body)) done
    ∙ ap (λ t. title ++ 10 ∷ t) (sym inner)
    ∙ sym (append_assoc title (10 ∷ []) ((pres_line p ++ 10 ∷ []) ++ (body ++ done)))
    ∙ sym (append_assoc (title ++ 10 ∷ []) (pres_line p ++ 10 ∷ []) (body ++ done))

module _ (p : Presented) (es : List BasisEntry) (a b : Option (List ℕ)) where
  from_head : Goes a (basis_text p es) (head_piece p ++ (lines_text p (entry_lines 0 es) ++ (last_line ++ 10 ∷ []))) a
  from_head = subst (λ t. Goes a (basis_text p es) t a) (file_pieces p es) (goes_from a (basis_text p es))

  pub head_stops : Stops a (head_piece p) b → Stops a (basis_text p es) b
  head_stops h = goes_stops a a b (basis_text p es) (head_piece p) (lines_text p (entry_lines 0 es) ++ (last_line ++ 10 ∷ [])) from_head h

  module _ (c : Option (List ℕ)) (head : TakesPrefix a (head_piece p) b) where
    behind_head : Goes a (basis_text p es) (lines_text p (entry_lines 0 es) ++ (last_line ++ 10 ∷ [])) b
    behind_head = goes_more a a b (basis_text p es) (head_piece p) (lines_text p (entry_lines 0 es) ++ (last_line ++ 10 ∷ [])) from_head head

    pub entries_stop : Stops b (lines_text p (entry_lines 0 es)) c → Stops a (basis_text p es) c
    entries_stop h = goes_stops a b c (basis_text p es) (lines_text p (entry_lines 0 es)) (last_line ++ 10 ∷ []) behind_head h

    module _ (body : TakesPrefix b (lines_text p (entry_lines 0 es)) c) where
      behind_entries : Goes a (basis_text p es) (last_line ++ 10 ∷ []) c
      behind_entries = goes_more a b c (basis_text p es) (lines_text p (entry_lines 0 es)) (last_line ++ 10 ∷ []) behind_head body

      pub last_halts : Stops a (basis_text p es) c
      last_halts = goes_halts a c (basis_text p es) (last_line ++ 10 ∷ []) behind_entries

      pub last_puts : (d : Option (List ℕ)) (r : Result (Unit {0}) WriteFault) → Puts c (last_line ++ 10 ∷ []) r d → Puts a (basis_text p es) r d
      last_puts d r h = goes_puts a c d (basis_text p es) (last_line ++ 10 ∷ []) r behind_entries h
