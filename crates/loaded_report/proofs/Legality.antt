-- From sessions that were answered by a basis that was read to a report that is legal.
use Rattle.std.proofs.Common.{◌≡◌, ℕ, ◌+◌, ◌<◌, ◌≤◌, ◌^◌, List, [], ◌∷◌, ◌++◌, length, take, Option, Some, slice_get, sym, ap, subst, ◌∙◌, arith, refl}
use Rattle.std.specs.List.{AllByRecursion}
use Rattle.std.specs.Prelude.{Ok, ◌↔◌, IsSome}
use Rattle.std.proofs.lemmas.List.{length-map, length-take-le}
use Rattle.presentation.specs.Presented.{Presented, IsPresented}
use Rattle.outcomes.specs.declared.ends.End.{End}
use Rattle.outcomes.specs.declared.ends.End.TheVariants.{Sealed}
use Rattle.session_text.specs.declared.question.Question.{Question}
use Rattle.session_text.specs.Questions.{HasSource}
use Rattle.report_lines.specs.Lines.{EndIsOver}
use Rattle.basis_entry.specs.Entries.{BasisEntry}
use Rattle.basis_entry.specs.Items.{seal_below}
use Rattle.basis_entry.specs.Seals.{Seal, IsSeal, item_count}
use Rattle.session_core.specs.declared.kept.Kept.{Kept}
use Rattle.session_core.specs.Questions.{CanBeAsked}
use Rattle.session_core.specs.Replies.{IsReply}
use Rattle.session_core.specs.Sessions.{SessionState, IsSession, AreRising, last_front}
use Rattle.cert_checker.specs.Texts.{TellsWhole}
use Rattle.report_text.specs.Histories.{History}
use Rattle.report_text.specs.Reports.{Reported, IsReportable, IsReplied, IsHistoryOf, AreFrom, text_of}
use Rattle.report_acceptance.specs.Accepting.{told_amount}
use Rattle.saved_basis.specs.Files.{IsSaved}
use Rattle.legal_report.specs.Legal.{IsLegalSession, AreByAll}
use Rattle.legal_report.specs.Gathering.{questions_of, CanGoOn, IsAnsweredOn, AreAnsweredOn}
use Rattle.legal_report.specs.Solutions.{IsNewSession}
use Rattle.legal_report.proofs.Fronts.{all_get, map_get, rising_low, seal_all, take_items}
use Rattle.legal_report.proofs.Reportable.{all_from, stands}
use Rattle.loaded_report.specs.Loaded.{IsLegalLoaded, IsLoadedSolution, AreUnasked}
use Rattle.legal_report.proofs.TrueAnswers.{solved_answers}
use Rattle.loaded_report.proofs.TrueAnswers.{loaded_answers}

sourced : (ss : List SessionState) → AllByRecursion IsSession ss → AllByRecursion (AllByRecursion HasSource) (questions_of ss)
sourced [] all = tt
sourced (s ∷ ss) all = (all.0.sources, sourced ss all.1)

module _ (p : Presented) (es : List BasisEntry) (saved : IsSaved p es) (ss : List SessionState) (unasked : AreUnasked p ss) where
  abbrev seal : Seal
  seal = record { source = p; entries = es }

  -- the least front is the number of generator entries
  least_is : unasked.least ≡ saved.base
  least_is =
      let count : length (take saved.base es) ≡ unasked.least = unasked.count (take saved.base es) saved.log.begins in
      let within : saved.base ≤ length es = saved.log.within in
      let front = length-take-le saved.base es within in omega (arith, count, front)

  -- ---- sessions

  -- a session before its first reply can go on by all items
  pub can_go_on : (i : ℕ) (s : SessionState) → slice_get ss i ≡ Some s → CanGoOn p es (Some seal) s
  can_go_on i s at =
      let new : IsNewSession p unasked.least (i + 1) s = unasked.new i s at in
      let within : saved.base ≤ length es = saved.log.within in
      let front : last_front s ≡ s.base = ap (λ (ks : List Kept). last_front (record s { kept = ks })) new.kept in
      let base : s.base ≡ unasked.least = new.base in
      let least : unasked.least ≡ saved.base = least_is in
      (new.questions, omega (arith, front, base, least, within))

  -- a reply by all items
  by_all : (q : Question) (k : Kept) → k.front ≡ item_count es (Some seal) → IsReply p es (Some seal) q k
      → IsReply p (take k.front es) (seal_below es (Some seal) k.front) q k
  by_all q k e reply =
      subst (λ (s : Option Seal). IsReply p (take k.front es) s q k) (sym (seal_all es (Some seal) k.front e))
      (subst (λ (xs : List BasisEntry). IsReply p xs (Some seal) q k) (sym (take_items es (Some seal) k.front e)) reply)

  module _ (n : ℕ) (s t : SessionState) (new : IsNewSession p unasked.least n s) (on : IsAnsweredOn p es (Some seal) s t) where
    kept : t.kept ≡ on.more
    kept = ap (λ (x : SessionState). x.kept) on.is ∙ ap (λ (ks : List Kept). ks ++ on.more) new.kept

    questions : t.questions ≡ s.questions
    questions = ap (λ (x : SessionState). x.questions) on.is

    none_before : length s.kept ≡ 0
    none_before = ap length new.kept

    all_by : AreByAll es (Some seal) t.kept
    all_by = subst (AreByAll es (Some seal)) (sym kept) on.by_all

    -- each reply is right
    reply : (i : ℕ) (q : Question) (k : Kept) → slice_get t.questions i ≡ Some q → slice_get t.kept i ≡ Some k
        → IsReply p (take k.front es) (seal_below es (Some seal) k.front) q k
    reply i q k asked at =
        let place : i ≡ length s.kept + i = let none = none_before in omega (arith, none) in
        let here : slice_get on.more i ≡ Some k = subst (λ (ks : List Kept). slice_get ks i ≡ Some k) kept at in
        let own : slice_get s.questions i ≡ Some q = subst (λ (qs : List Question). slice_get qs i ≡ Some q) questions asked in
        by_all q k (all_get (λ k. k.front ≡ item_count es (Some seal)) on.more i k on.by_all here)
        (on.replies i q k (subst (λ (m : ℕ). slice_get s.questions m ≡ Some q) place own) here)

    legal_session : IsLegalSession p saved.base es (Some seal) n s.questions t
    legal_session =
        let many : length t.kept ≡ length on.more = ap length kept in
        let asked : length t.questions ≡ length s.questions = ap length questions in
        let none = none_before in
        let count = on.count in
        record {
          number = ap (λ (x : SessionState). x.number) on.is ∙ new.number;
          questions = questions;
          replied = record {
            asked = subst (AllByRecursion (CanBeAsked p)) (sym questions) new.questions;
            count = omega (arith, many, asked, none, count);
            each = reply;
          };
          rising = subst (λ (b : ℕ). AreRising b t.kept) (ap (λ (x : SessionState). x.base) on.is ∙ new.base ∙ least_is) on.session.rising;
        }

  -- ---- the report

  module _ (r : Reported) (ts : List SessionState) (is : r ≡ record { pres = p; entries = es; seal = Some seal; end = Sealed; sessions = ts })
      (of_seal : IsSeal seal) (on : AreAnsweredOn p es (Some seal) ss ts) where
    abbrev made : Reported
    made = record { pres = p; entries = es; seal = Some seal; end = Sealed; sessions = ts }

    legal : IsLegalLoaded p (questions_of ss) made
    legal = record {
      pres = refl;
      saved = saved;
      end = refl;
      strong = of_seal.strong;
      seal = refl;
      count = on.count ∙ sym (length-map ss (λ (s : SessionState). s.questions));
      sessions = λ i qs t here at.
          let found = map_get (λ (s : SessionState). s.questions) ss i qs here in
          subst (λ (xs : List Question). IsLegalSession p saved.base es (Some seal) (i + 1) xs t) found.2
          (legal_session (i + 1) found.0 t (unasked.new i found.0 found.1) (on.each i found.0 t found.1 at));
    }

    own : (i : ℕ) (t : SessionState) → slice_get ts i ≡ Some t → (s : SessionState) × (slice_get ss i ≡ Some s)
    own i t at = stands ts ss i t at on.count

    legal_at : (i : ℕ) (t : SessionState) (at : slice_get ts i ≡ Some t)
        → IsLegalSession p saved.base es (Some seal) (i + 1) (own i t at).0.questions t
    legal_at i t at =
        legal_session (i + 1) (own i t at).0 t (unasked.new i (own i t at).0 (own i t at).1) (on.each i (own i t at).0 t (own i t at).1 at)

    all_replies : AllByRecursion (λ t. AreByAll es (Some seal) t.kept) ts
    all_replies = all_from (λ (t : SessionState). AreByAll es (Some seal) t.kept) ts (λ i t at.
        all_by (i + 1) (own i t at).0 t (unasked.new i (own i t at).0 (own i t at).1) (on.each i (own i t at).0 t (own i t at).1 at))

    rising_all : (ks : List Kept) → AreRising saved.base ks → AllByRecursion (λ k. saved.base ≤ k.front) ks
    rising_all ks rising = all_from (λ (k : Kept). saved.base ≤ k.front) ks (λ i k at. rising_low saved.base ks i k rising at)

    made_reportable : IsReportable made
    made_reportable = record {
      base = saved.base;
      entries = saved.log;
      few = of_seal.few;
      over = saved.over;
      end = tt;
      sealed = (λ h. refl, λ h. refl);
      numbers = λ i t at. (legal_at i t at).number;
      fronts = all_from (AreFrom saved.base) ts (λ i t at. rising_all t.kept (legal_at i t at).rising);
      replies = all_from (IsReplied p es (Some seal)) ts (λ i t at. (legal_at i t at).replied);
    }

    reportable : IsReportable r
    reportable = subst IsReportable (sym is) made_reportable

    solution : IsPresented p → AllByRecursion IsSession ss → (h : History) → IsHistoryOf r h
        → TellsWhole r.pres (text_of r h) (Ok (told_amount r h))
        → IsLoadedSolution p es (questions_of ss) r
    solution known sources h told checked = subst (IsLoadedSolution p es (questions_of ss)) (sym is) (record {
      reportable = made_reportable;
      history = h;
      answered = record {
        legal = legal;
        entries = refl;
        by_all = all_replies;
        told = subst (λ (x : Reported). IsHistoryOf x h) is told;
        answers = solved_answers p (questions_of ss) made h (λ a. Unit {0}) (λ a e. refl) known (sourced ss sources)
            (loaded_answers p (questions_of ss) made legal) all_replies (subst (λ (x : Reported). IsHistoryOf x h) is told);
        checked = subst (λ (x : Reported). TellsWhole x.pres (text_of x h) (Ok (told_amount x h))) is checked;
      };
    })

-- the same of a seal of the presentation
module _ (p : Presented) (own : Seal) (source : own.source ≡ p) (saved : IsSaved p own.entries) (ss : List SessionState) (unasked : AreUnasked p ss)
    (r : Reported) (ts : List SessionState) (is : r ≡ record { pres = p; entries = own.entries; seal = Some own; end = Sealed; sessions = ts })
    (of_own : IsSeal own) (on : AreAnsweredOn p own.entries (Some own) ss ts) where
  same : own ≡ seal p own.entries saved ss unasked
  same = ap (λ (x : Presented). record { source = x; entries = own.entries }) source

  is_made : r ≡ record { pres = p; entries = own.entries; seal = Some (seal p own.entries saved ss unasked); end = Sealed; sessions = ts }
  is_made = is ∙ ap (λ (z : Seal). record { pres = p; entries = own.entries; seal = Some z; end = Sealed; sessions = ts }) same

  of_made : IsSeal (seal p own.entries saved ss unasked)
  of_made = subst IsSeal same of_own

  on_made : AreAnsweredOn p own.entries (Some (seal p own.entries saved ss unasked)) ss ts
  on_made = subst (λ (z : Seal). AreAnsweredOn p own.entries (Some z) ss ts) same on

  pub can_be_written : IsReportable r
  can_be_written = reportable p own.entries saved ss unasked r ts is_made of_made on_made

  pub is_solution : IsPresented p → AllByRecursion IsSession ss → (h : History) → IsHistoryOf r h
      → TellsWhole r.pres (text_of r h) (Ok (told_amount r h))
      → IsLoadedSolution p own.entries (questions_of ss) r
  is_solution known sources h told checked =
      solution p own.entries saved ss unasked r ts is_made of_made on_made known sources h told checked
