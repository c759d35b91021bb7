-- Of a text that is told to hold nothing else is told.
use Rattle.std.proofs.Common.{◌≡◌, inl, inr, ℕ, ◌+◌, List, refl, sym, ap, subst, ◌∙◌}
use Rattle.std.proofs.lemmas.Option.{none-some}
use Rattle.std.specs.Prelude.{Some, None, Result, Ok}
use Rattle.spelling.specs.Spelling.{cut}
use Rattle.word_text.specs.Place.{capped}
use Rattle.presentation.specs.Presented.{Presented, IsPresented}
use Rattle.module_vec.specs.declared.places.Term.{Term}
use Rattle.vector_text.proofs.PlaceTexts.{some_pair}
use Rattle.report_lines.specs.declared.lines.Line.{Line}
use Rattle.report_lines.specs.declared.trimmed.TrimmedLine.{TrimmedLine}
use Rattle.report_lines.specs.declared.trimmed.TrimmedLine.TheVariants.{Entry, Other}
use Rattle.report_lines.specs.Texts.{title}
use Rattle.report_lines.specs.Trimmed.{trimmed_title, trimmed_line_text}
use Rattle.report_lines.proofs.Pairs.{clash}
use Rattle.report_lines.proofs.ReadingBack.{one_line}
use Rattle.report_lines.proofs.TrimmedTexts.{one_trimmed_line, one_items_line}
use Rattle.cert_checker.specs.declared.checked.Checked.{Checked}
use Rattle.cert_checker.specs.declared.version.Version.{Version}
use Rattle.cert_checker.specs.declared.version.Version.TheVariants as versions
use Rattle.cert_checker.specs.declared.phase.Phase.{Phase}
use Rattle.cert_checker.specs.declared.phase.Phase.TheVariants.{Title, Presentation, Items, Entries, Sealed, Closing, Finished}
use Rattle.cert_checker.specs.declared.faults.CertKind.{CertKind}
use Rattle.cert_checker.specs.declared.faults.CertFault.{CertFault}
use Rattle.cert_checker.specs.States.{State, with_line}
use Rattle.cert_checker.specs.Checking.{LineFails}
use Rattle.cert_checker.specs.Texts.{TitleHolds, TitleFails, ItemsHold, IsLineIn, BodyHolds, BodyFails, HoldsIn, FailsIn, BytesHold, BytesFail, Tells}
use Rattle.report_acceptance.proofs.Exclusion.{never_fails}

-- what stands before the first line end, and what behind it
pub parts_of : (text line others front rest : List ℕ) → cut 10 text ≡ Some (line, others) → cut 10 text ≡ Some (front, rest)
    → (line ≡ front) × (others ≡ rest)
parts_of text line others front rest cuts is = some_pair (line, others) (front, rest) (sym cuts ∙ is)

no_line : (text line others : List ℕ) → cut 10 text ≡ None → cut 10 text ≡ Some (line, others) → ⊥
no_line text line others none cuts = none-some _ (sym none ∙ cuts)

-- the titles differ in their last byte
two_titles : title ≡ trimmed_title → ⊥
two_titles e = clash 14 title trimmed_title e refl

module _ (p : Presented) (known : IsPresented p) where
  -- the text of a line is that of no other
  pub one_line_in : (v : Version) (l m : TrimmedLine) → IsLineIn v p l → IsLineIn v p m → trimmed_line_text p l ≡ trimmed_line_text p m → l ≡ m
  one_line_in versions.Whole (Entry number from made vector) m h k e = absurd h
  one_line_in versions.Whole (Other l) (Entry number from made vector) h k e = absurd k
  one_line_in versions.Whole (Other l) (Other m) h k e = ap (λ (x : Line). Other x) (one_line p l m known h k e)
  one_line_in (versions.Trimmed items) l m h k e = one_trimmed_line p l m known h k e

  module _ (gens : List (List Term)) where
    -- ---- one line

    one_title : (s taken other : State) (bytes : List ℕ) → TitleHolds s bytes taken → TitleHolds s bytes other → other ≡ taken
    one_title s taken other bytes (inl h) (inl k) = k.1 ∙ sym h.1
    one_title s taken other bytes (inl h) (inr k) = absurd (two_titles (sym h.0 ∙ k.0))
    one_title s taken other bytes (inr h) (inl k) = absurd (two_titles (sym k.0 ∙ h.0))
    one_title s taken other bytes (inr h) (inr k) = k.1 ∙ sym h.1

    one_count : (s taken other : State) (bytes : List ℕ) → ItemsHold s bytes taken → ItemsHold s bytes other → other ≡ taken
    one_count s taken other bytes h k =
        let same : k.items ≡ h.items = one_items_line k.items h.items k.small h.small (sym k.spelled ∙ h.spelled) in
        k.is ∙ ap (λ n. record s { phase = Entries; version = versions.Trimmed n }) same ∙ sym h.is

    one_body : (s taken other : State) (bytes : List ℕ) → BodyHolds p gens s bytes taken → BodyHolds p gens s bytes other → other ≡ taken
    one_body s taken other bytes h k =
        k.holds.is ∙ ap (with_line s) (one_line_in s.version k.line h.line k.valid h.valid (sym k.spelled ∙ h.spelled)) ∙ sym h.holds.is

    one_taken : (f : Phase) (s taken other : State) (bytes : List ℕ) → HoldsIn f p gens s bytes taken → HoldsIn f p gens s bytes other → other ≡ taken
    one_taken Title s taken other bytes h k = one_title s taken other bytes h k
    one_taken Presentation s taken other bytes h k = k.1 ∙ sym h.1
    one_taken Items s taken other bytes h k = one_count s taken other bytes h k
    one_taken Entries s taken other bytes h k = one_body s taken other bytes h k
    one_taken Sealed s taken other bytes h k = one_body s taken other bytes h k
    one_taken Closing s taken other bytes h k = one_body s taken other bytes h k
    one_taken Finished s taken other bytes h k = one_body s taken other bytes h k

    title_or : (s taken : State) (bytes : List ℕ) (k : CertKind) → TitleHolds s bytes taken → TitleFails bytes k → ⊥
    title_or s taken bytes k (inl h) f = f.0 h.0
    title_or s taken bytes k (inr h) f = f.1 h.0

    body_or : (s taken : State) (bytes : List ℕ) (k : CertKind) → BodyHolds p gens s bytes taken → BodyFails p gens s bytes k → ⊥
    body_or s taken bytes k h (inl f) =
        let same : f.line ≡ h.line = one_line_in s.version f.line h.line f.valid h.valid (sym f.spelled ∙ h.spelled) in
        never_fails gens s h.line k h.holds.follows h.holds.agrees (subst (λ m. LineFails gens s m k) same f.fails)
    body_or s taken bytes k h (inr none) = none.0 h.line h.valid h.spelled

    never_both : (f : Phase) (s taken : State) (bytes : List ℕ) (k : CertKind) → HoldsIn f p gens s bytes taken → FailsIn f p gens s bytes k → ⊥
    never_both Title s taken bytes k h bad = title_or s taken bytes k h bad
    never_both Presentation s taken bytes k h bad = bad.0 h.0
    never_both Items s taken bytes k h bad = bad.0 h.items h.small h.spelled
    never_both Entries s taken bytes k h bad = body_or s taken bytes k h bad
    never_both Sealed s taken bytes k h bad = body_or s taken bytes k h bad
    never_both Closing s taken bytes k h bad = body_or s taken bytes k h bad
    never_both Finished s taken bytes k h bad = body_or s taken bytes k h bad

    -- ---- a text

    pub alone : (n : ℕ) (s : State) (text : List ℕ) (r q : Result Checked CertFault) (c : Checked) → Tells p gens n s text r → r ≡ Ok c
        → Tells p gens n s text q → q ≡ r
    alone n s text _ _ c (Tells.complete _ _ _ none w) e (Tells.complete _ _ _ again v) = refl
    alone n s text _ _ c (Tells.complete _ _ _ none w) e (Tells.missing _ _ _ again not) = absurd (not w)
    alone n s text _ _ c (Tells.complete _ _ _ none w) e (Tells.fails _ _ _ line others k cuts f) = absurd (no_line text line others none cuts)
    alone n s text _ q c (Tells.complete _ _ _ none w) e (Tells.goes_on _ _ taken _ line others _ cuts holds later) =
        absurd (no_line text line others none cuts)
    alone n s text _ q c (Tells.missing _ _ _ none not) e u = absurd cc
    alone n s text _ q c (Tells.fails _ _ _ line others k cuts f) e u = absurd cc
    alone n s text r _ c (Tells.goes_on _ _ taken _ line others _ cuts holds later) e (Tells.complete _ _ _ none w) =
        absurd (no_line text line others none cuts)
    alone n s text r _ c (Tells.goes_on _ _ taken _ line others _ cuts holds later) e (Tells.missing _ _ _ none not) =
        absurd (no_line text line others none cuts)
    alone n s text r _ c (Tells.goes_on _ _ taken _ line others _ cuts holds later) e (Tells.fails _ _ _ bytes rest k again f) =
        let parts = parts_of text bytes rest line others again cuts in
        absurd (never_both s.phase s taken line k holds (subst (λ b. BytesFail p gens s b k) parts.0 f))
    alone n s text r q c (Tells.goes_on _ _ taken _ line others _ cuts holds later) e (Tells.goes_on _ _ other _ bytes rest _ again held following) =
        let parts = parts_of text bytes rest line others again cuts in
        let same : other ≡ taken = one_taken s.phase s taken other line holds (subst (λ b. BytesHold p gens s b other) parts.0 held) in
        alone (capped (n + 1)) taken others r q c later e
        (subst (λ t. Tells p gens (capped (n + 1)) t others q) same (subst (λ x. Tells p gens (capped (n + 1)) other x q) parts.1 following))
