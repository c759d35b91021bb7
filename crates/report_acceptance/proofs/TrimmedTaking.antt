-- The lines of a trimmed report are taken, where its entries and proofs hold.
use Rattle.std.proofs.Common.{◌≡◌, ℕ, ◌+◌, ◌<◌, ◌≤◌, nat_lt, Bool, true, false, if◌then◌else◌, List, [], ◌∷◌, ◌++◌, length, map, slice_get, get_or, ◌-◌, Option}
use Rattle.std.proofs.Common.{Some, None, IsSome, refl, sym, ap, subst, ◌∙◌, append_assoc, length-append, arith}
use Rattle.std.proofs.lemmas.List.{length-map, map-append}
use Rattle.std.proofs.lemmas.Option.{slice_get_within}
use Rattle.std.specs.List.{AllByRecursion}
use Rattle.word_text.specs.Place.{capped}
use Rattle.presentation.specs.Presented.{Presented}
use Rattle.free_words.specs.declared.letter.Letter.{Letter}
use Rattle.module_vec.specs.declared.places.Term.{Term}
use Rattle.module_vec.specs.declared.steps.Step.{Step}
use Rattle.module_vec.specs.Vectors.{coefficient_at}
use Rattle.step_lists.specs.declared.way.Way.TheVariants.{Take}
use Rattle.step_lists.specs.Sums.{zero_vector}
use Rattle.outcomes.specs.declared.ends.End.{End}
use Rattle.outcomes.specs.declared.verdicts.Verdict.{Verdict}
use Rattle.outcomes.specs.declared.verdicts.Verdict.TheVariants as verdicts
use Rattle.session_text.specs.declared.question.Question.{Question}
use Rattle.session_text.specs.Questions.{HasImages}
use Rattle.report_lines.specs.declared.lines.Made.{Made}
use Rattle.report_lines.specs.declared.lines.Made.TheVariants.{Gen, Sum}
use Rattle.report_lines.specs.declared.lines.Line.{Line}
use Rattle.report_lines.specs.declared.lines.Line.TheVariants as lines
use Rattle.report_lines.specs.declared.trimmed.TrimmedLine.{TrimmedLine}
use Rattle.report_lines.specs.declared.trimmed.TrimmedLine.TheVariants.{Entry, Other}
use Rattle.report_lines.specs.Trimmed.{IsTrimmedLineOf}
use Rattle.report_reading.specs.declared.entry.EntryData.{EntryData}
use Rattle.report_reading.specs.declared.replies.ReplyData.{ReplyData}
use Rattle.report_reading.specs.declared.form.Form.TheVariants as forms
use Rattle.report_reading.specs.Telling.{Told, nothing, IsShown, IsDue, last_reply, proof_count, recipe_of}
use Rattle.report_reading.specs.Trimmed.{AreBelow, IsReached, last_from, OtherMayFollow, TrimmedMayFollow, tell_other, tell_trimmed}
use Rattle.report_reading.specs.Forms.{TellIn}
use Rattle.report_text.specs.Histories.{made_by}
use Rattle.cert_checker.specs.declared.version.Version.{Version}
use Rattle.cert_checker.specs.declared.version.Version.TheVariants.{Trimmed}
use Rattle.cert_checker.specs.declared.phase.Phase.{Phase}
use Rattle.cert_checker.specs.declared.phase.Phase.TheVariants as phases
use Rattle.cert_checker.specs.States.{State, start, IsSettled, IsOpen, AreNear, HasGeneratorsIn, IsInTurnAt, IsNextIn, IsFrontIn, LineFollows, asked}
use Rattle.cert_checker.specs.States.{with_line}
use Rattle.cert_checker.specs.Checking.{IsMadeAt, StepsLead, fox_at, due, LineAgrees}
use Rattle.cert_checker.specs.Texts.{IsLineIn}
use Rattle.report_acceptance.specs.Accepting.{proofs_in}
use Rattle.report_acceptance.proofs.Taking.{after, AllHold, cap_more}
use Rattle.report_acceptance.proofs.Verdicts.{count_is}
use Rattle.report_acceptance.proofs.Growing.{some_end, last_added, IsLonger, at_seam, HasGrown, proof_added, added_proofs, proof_counted}
use Rattle.report_acceptance.proofs.Growing.{entries_grow, from_grows, replies_grow, due_reached, later}

abbrev pub vectors_in : List EntryData → List (List Term)
vectors_in es = map (λ (e : EntryData). e.vector) es

made_again : (from : ℕ) (made : Made) → made_by (recipe_of from made) ≡ made
made_again from (Gen negated) = refl
made_again from (Sum steps) = refl

asked_count : (q : Question) (v : Verdict) → length (asked q v) ≡ proof_count q v
asked_count q verdicts.Trivial = count_is q
asked_count q verdicts.NotTrivial = refl
asked_count q (verdicts.Normal v) = refl
asked_count q verdicts.Extends = count_is q
asked_count q (verdicts.Fails j) = refl
asked_count q (verdicts.Unknown j) = refl
asked_count q (verdicts.Stop j stop) = refl

-- ---- what holds of the entries and proofs of a trimmed report

module _ (gens : List (List Term)) where
  -- the entry may follow these, and is what it is made to be
  pub record IsNextKept (before : List EntryData) (e : EntryData) (from : ℕ) : Type 0 where
    pub turn : IsInTurnAt gens (vectors_in before) from (made_by e.recipe)
    pub is : IsMadeAt gens (vectors_in before) from (made_by e.recipe) (coefficient_at e.vector)

  -- the steps show the word by these entries
  pub record IsProofBy (b : List (List Term)) (w : List Letter) (ss : List Step) : Type 0 where
    pub near : AreNear b ss
    pub leads : StepsLead Take b (fox_at w) ss zero_vector

  -- these entries, with their numbers in the history: all those below the front stand among the first m
  abbrev pub HasBelow : List ℕ → ℕ → ℕ → Type 0
  HasBelow from m front = (i k : ℕ) → slice_get from i ≡ Some k → k < front → i < m

  pub record IsRightReply (from : List ℕ) (es : List EntryData) (r : ReplyData) : Type 0 where
    pub low : length gens ≤ r.front
    pub images : HasImages r.question
    pub proofs : (j : ℕ) (ss : List Step) → slice_get r.proofs j ≡ Some ss → (before more : List EntryData) → es ≡ before ++ more
        → HasBelow from (length before) r.front
        → IsProofBy (vectors_in before) (get_or (asked r.question r.verdict) j []) ss

  pub record AreRight (from : List ℕ) (es : List EntryData) (rs : List ReplyData) : Type 0 where
    pub entries : (before more : List EntryData) (e : EntryData) (k : ℕ) → es ≡ before ++ e ∷ more → slice_get from (length before) ≡ Some k
        → IsNextKept before e k
    pub replies : (i : ℕ) (r : ReplyData) → slice_get rs i ≡ Some r → IsRightReply from es r

-- ---- where the checker stands

abbrev phase_in : Option End → Bool → Bool → Phase
phase_in None sealed finished = if sealed then phases.Sealed else phases.Entries
phase_in (Some e) sealed finished = if finished then phases.Finished else phases.Closing

open_in : (o : Option End) (sealed finished : Bool) → o ≡ None → IsOpen (phase_in o sealed finished)
open_in None true finished e = tt
open_in None false finished e = tt
open_in (Some x) sealed finished e = absurd cc

closing_in : (o : Option End) (sealed finished : Bool) → IsSome o → finished ≡ false → phase_in o sealed finished ≡ phases.Closing
closing_in None sealed finished h e = absurd (some_end {X = End} None h refl)
closing_in (Some x) sealed finished h e = ap (λ b. if b then phases.Finished else phases.Closing) e

finished_in : (o : Option End) (sealed finished : Bool) → IsSome o → finished ≡ true → phase_in o sealed finished ≡ phases.Finished
finished_in None sealed finished h e = absurd (some_end {X = End} None h refl)
finished_in (Some x) sealed finished h e = ap (λ b. if b then phases.Finished else phases.Closing) e

-- the subjects are those of the reply, and so many are shown as it has proofs
abbrev IsAnswer : Option ReplyData → List (List Letter) → ℕ → Type 0
IsAnswer None subjects shown = (subjects ≡ []) × (shown ≡ 0)
IsAnswer (Some r) subjects shown = (subjects ≡ asked r.question r.verdict) × (shown ≡ length r.proofs)

is_settled : (o : Option ReplyData) (s : State) → IsShown o → IsAnswer o s.subjects s.shown → IsSettled s
is_settled None s shown h = let none : length s.subjects ≡ 0 = ap length h.0 in omega (arith, none)
is_settled (Some r) s shown h =
    let count : length s.subjects ≡ proof_count r.question r.verdict = ap length h.0 ∙ asked_count r.question r.verdict in
    let own = h.1 in
    omega (arith, count, own, shown)

module _ (p : Presented) (gens : List (List Term)) (n : ℕ) where
  -- what was taken is what was told
  record IsThere (u : Told) (s : State) : Type 0 where
    version : s.version ≡ Trimmed n
    entries : s.entries ≡ vectors_in u.entries
    phase : s.phase ≡ phase_in u.end u.sealed u.finished
    same : length u.from ≡ length u.entries
    answer : IsAnswer (last_reply u) s.subjects s.shown
    passed : u.end ≡ None → (k : ℕ) → AreBelow (last_from u) k → IsReached (last_reply u) k → s.passed ≤ k
    going : u.end ≡ None → u.finished ≡ false
    shown : u.finished ≡ true → IsShown (last_reply u)
    proofs : s.proofs ≡ capped (proofs_in u.replies)

  abbrev pub begun : State
  begun = record start { phase = phases.Entries; version = Trimmed n }

  at_first : IsThere nothing begun
  at_first = record {
    version = refl;
    entries = refl;
    phase = refl;
    same = refl;
    answer = (refl, refl);
    passed = λ e k below reached. omega arith;
    going = λ e. refl;
    shown = λ e. absurd cc;
    proofs = refl;
  }

  -- a line that is taken, and where the checker stands then
  record IsTaken (u : Told) (s : State) (l : TrimmedLine) : Type 0 where
    follows : LineFollows gens s l
    agrees : LineAgrees gens s l
    then_is : IsThere (tell_trimmed n u l) (with_line s l)

  module _ (t : Told) (right : AreRight gens t.from t.entries t.replies) where
    numbered : (u : Told) (s : State) → IsThere u s → length s.entries ≡ length u.entries
    numbered u s h = ap length h.entries ∙ length-map u.entries (λ (e : EntryData). e.vector)

    entry_next : (u : Told) (s : State) (number from : ℕ) (made : Made) (vector : List Term) (ls : List TrimmedLine) → IsThere u s
        → TrimmedMayFollow n u (Entry number from made vector) → TellIn (forms.Trimmed n) (tell_trimmed n u (Entry number from made vector)) ls t
        → IsTaken u s (Entry number from made vector)
    entry_next u s number from made vector ls h may rest =
        let told : Told = tell_trimmed n u (Entry number from made vector) in
        let e : EntryData = record { recipe = recipe_of from made; vector = vector } in
        let longer : IsLonger told.entries t.entries = entries_grow n told t ls rest in
        let parts : t.entries ≡ u.entries ++ e ∷ longer.more = longer.is ∙ append_assoc u.entries (e ∷ []) longer.more in
        let place : slice_get t.from (length u.entries) ≡ Some from =
        subst (λ i. slice_get t.from i ≡ Some from) h.same (at_seam u.from from t.from (from_grows n told t ls rest)) in
        let next : IsNextKept gens u.entries e from = right.entries u.entries longer.more e from parts place in
        let count = numbered u s h in record {
          follows = (
            h.phase ∙ (λ i. phase_in (may.0.0 i) (may.2.0 i) u.finished),
            is_settled (last_reply u) s may.0.1 h.answer,
            may.1 ∙ sym count,
            subst (λ (v : Version). IsNextIn v s.passed from) (sym h.version) (h.passed may.0.0 from may.2.2 may.2.3, may.2.1),
            subst (λ b. IsInTurnAt gens b from made) (sym h.entries) (subst (IsInTurnAt gens (vectors_in u.entries) from) (made_again from made) next.turn),
          );
          agrees = subst (λ b. IsMadeAt gens b from made (coefficient_at vector)) (sym h.entries)
              (subst (λ m. IsMadeAt gens (vectors_in u.entries) from m (coefficient_at vector)) (made_again from made) next.is);
          then_is = record {
            version = h.version;
            entries = ap (λ b. b ++ vector ∷ []) h.entries ∙ sym (map-append (λ (x : EntryData). x.vector) u.entries (e ∷ []));
            phase = h.phase;
            same = let own = h.same in omega (arith, own, length-append u.from (from ∷ []), length-append u.entries (e ∷ []));
            answer = h.answer;
            passed = λ none k below reached. let above : from < k = subst (λ o. AreBelow o k) (last_added u.from from) below in omega (arith, above);
            going = h.going;
            shown = h.shown;
            proofs = h.proofs;
          };
        }

    seal_next : (u : Told) (s : State) → IsThere u s → OtherMayFollow n u lines.Seal → IsTaken u s (Other lines.Seal)
    seal_next u s h may = record {
      follows = (
        h.phase ∙ (λ i. phase_in (may.0.0 i) (may.1.0 i) u.finished),
        is_settled (last_reply u) s may.0.1 h.answer,
        subst (λ (v : Version). HasGeneratorsIn v gens s.entries) (sym h.version) tt,
      );
      agrees = tt;
      then_is = record {
        version = h.version;
        entries = h.entries;
        phase = λ i. phase_in (sym may.0.0 i) true u.finished;
        same = h.same;
        answer = h.answer;
        passed = h.passed;
        going = h.going;
        shown = h.shown;
        proofs = h.proofs;
      };
    }

    end_next : (u : Told) (s : State) (end : End) → IsThere u s → OtherMayFollow n u (lines.End end) → IsTaken u s (Other (lines.End end))
    end_next u s end h may = record {
      follows = (
        subst IsOpen (sym h.phase) (open_in u.end u.sealed u.finished may.0.0),
        is_settled (last_reply u) s may.0.1 h.answer,
        subst (λ (v : Version). HasGeneratorsIn v gens s.entries) (sym h.version) tt,
      );
      agrees = tt;
      then_is = record {
        version = h.version;
        entries = h.entries;
        phase = ap (λ b. if b then phases.Finished else phases.Closing) (sym (h.going may.0.0));
        same = h.same;
        answer = h.answer;
        passed = λ none. absurd (let wrong : Some end ≡ None = none in cc);
        going = λ none. absurd (let wrong : Some end ≡ None = none in cc);
        shown = h.shown;
        proofs = h.proofs;
      };
    }

    done_next : (u : Told) (s : State) → IsThere u s → OtherMayFollow n u lines.Done → IsTaken u s (Other lines.Done)
    done_next u s h may = record {
      follows = (h.phase ∙ closing_in u.end u.sealed u.finished may.0.0 may.0.1, is_settled (last_reply u) s may.0.2 h.answer);
      agrees = tt;
      then_is = record {
        version = h.version;
        entries = h.entries;
        phase = sym (finished_in u.end u.sealed true may.0.0 refl);
        same = h.same;
        answer = h.answer;
        passed = h.passed;
        going = λ none. absurd (some_end u.end may.0.0 none);
        shown = λ e. may.0.2;
        proofs = h.proofs;
      };
    }

    -- an answer that is told is one of the report's
    told_right : (u : Told) (r : ReplyData) (ls : List TrimmedLine) → TellIn (forms.Trimmed n) u ls t → last_reply u ≡ Some r
        → (more : List (List Step)) × IsRightReply gens t.from t.entries (record r { proofs = r.proofs ++ more })
    told_right u r ls rest is =
        let grown : HasGrown t.replies (length u.replies - 1) r = replies_grow n u t ls rest (length u.replies - 1) r is in
        (grown.more, right.replies (length u.replies - 1) (record r { proofs = r.proofs ++ grown.more }) grown.is)

    live_next : (u : Told) (s : State) (session number front : ℕ) (q : Question) (v : Verdict) (ls : List TrimmedLine) → IsThere u s
        → OtherMayFollow n u (lines.Live session number front q v)
        → TellIn (forms.Trimmed n) (tell_other n u (lines.Live session number front q v)) ls t → IsTaken u s (Other (lines.Live session number front q v))
    live_next u s session number front q v ls h may rest =
        let told : Told = tell_other n u (lines.Live session number front q v) in
        let r : ReplyData = record { session = session; question = q; live = true; front = front; verdict = v; proofs = [] } in
        let last : last_reply told ≡ Some r = last_added u.replies r in
        let is = told_right told r ls rest last in record {
          follows = (
            subst IsOpen (sym h.phase) (open_in u.end u.sealed u.finished may.0.0),
            is_settled (last_reply u) s may.0.1 h.answer,
            subst (λ (w : Version). IsFrontIn w gens s front) (sym h.version)
                (is.1.low, h.passed may.0.0 front may.1.1 may.1.2, may.1.0),
            is.1.images,
          );
          agrees = tt;
          then_is = record {
            version = h.version;
            entries = h.entries;
            phase = h.phase;
            same = h.same;
            answer = subst (λ o. IsAnswer o (asked q v) 0) (sym last) (refl, refl);
            passed = λ none k below reached. subst (λ o. IsReached o k) last reached;
            going = h.going;
            shown = λ e. absurd (let no : u.finished ≡ false = h.going may.0.0 in let wrong : true ≡ false = sym e ∙ no in cc);
            proofs = h.proofs ∙ ap capped (let more = added_proofs u.replies r in omega (arith, more));
          };
        }

    close_next : (u : Told) (s : State) (session number : ℕ) (q : Question) (v : Verdict) (ls : List TrimmedLine) → IsThere u s
        → OtherMayFollow n u (lines.Close session number q v)
        → TellIn (forms.Trimmed n) (tell_other n u (lines.Close session number q v)) ls t → IsTaken u s (Other (lines.Close session number q v))
    close_next u s session number q v ls h may rest =
        let told : Told = tell_other n u (lines.Close session number q v) in
        let r : ReplyData = record { session = session; question = q; live = false; front = n; verdict = v; proofs = [] } in
        let last : last_reply told ≡ Some r = last_added u.replies r in
        let is = told_right told r ls rest last in record {
          follows = (
            h.phase ∙ closing_in u.end u.sealed u.finished may.0.0 may.0.1,
            is_settled (last_reply u) s may.0.2 h.answer,
            is.1.images,
          );
          agrees = tt;
          then_is = record {
            version = h.version;
            entries = h.entries;
            phase = h.phase;
            same = h.same;
            answer = subst (λ o. IsAnswer o (asked q v) 0) (sym last) (refl, refl);
            passed = λ none. absurd (some_end u.end may.0.0 none);
            going = h.going;
            shown = λ e. absurd (let no : u.finished ≡ false = may.0.1 in let wrong : true ≡ false = sym e ∙ no in cc);
            proofs = h.proofs ∙ ap capped (let more = added_proofs u.replies r in omega (arith, more));
          };
        }

    -- by then all entries below the front were told
    all_below : (u : Told) (r : ReplyData) (ls : List TrimmedLine) → length u.from ≡ length u.entries → TellIn (forms.Trimmed n) u ls t
        → last_reply u ≡ Some r → HasBelow gens t.from (length u.entries) r.front
    all_below u r ls same rest is i k at lt = by (nat_lt i (length u.entries)) refl
      where
        by : (b : Bool) → nat_lt i (length u.entries) ≡ b → i < length u.entries
        by true e = grind arith
        by false e =
            let above : length u.from ≤ i = (let le : length u.entries ≤ i = grind arith in omega (arith, same, le)) in
            let reached : r.front ≤ k = subst (λ o. IsReached o k) is (later n u t ls rest i k above at).1 in
            absurd (omega (arith, reached, lt))

    proof_of : (u : Told) (s : State) (subject : ℕ) (ss : List Step) (ls : List TrimmedLine) (r : ReplyData) → IsThere u s → last_reply u ≡ Some r
        → IsDue subject (Some r) → TellIn (forms.Trimmed n) (tell_other n u (lines.Proof subject ss)) ls t
        → IsTaken u s (Other (lines.Proof subject ss))
    proof_of u s subject ss ls r h is may rest =
        let told : Told = tell_other n u (lines.Proof subject ss) in
        let grown : ReplyData = record r { proofs = r.proofs ++ ss ∷ [] } in
        let last : last_reply told ≡ Some grown = proof_added ss u.replies r is in
        let known = told_right told grown ls rest last in
        let own : IsAnswer (Some r) s.subjects s.shown = subst (λ o. IsAnswer o s.subjects s.shown) is h.answer in
        let count : length s.subjects ≡ proof_count r.question r.verdict = ap length own.0 ∙ asked_count r.question r.verdict in
        let longer : IsLonger u.entries t.entries = entries_grow n told t ls rest in
        let here : slice_get ((r.proofs ++ ss ∷ []) ++ known.0) (length r.proofs) ≡ Some ss =
        at_seam r.proofs ss ((r.proofs ++ ss ∷ []) ++ known.0) (record { more = known.0; is = refl }) in
        let proof : IsProofBy gens (vectors_in u.entries) (get_or (asked r.question r.verdict) (length r.proofs) []) ss =
        known.1.proofs (length r.proofs) ss here u.entries longer.more longer.is (all_below told grown ls h.same rest last) in
        let word : due s ≡ get_or (asked r.question r.verdict) (length r.proofs) [] = λ i. get_or (own.0 i) (own.1 i) [] in
        let shown = own.1 in record {
          follows = (
            omega (arith, count, shown, may.0),
            omega (arith, shown, may.1),
            subst (λ b. AreNear b ss) (sym h.entries) proof.near,
          );
          agrees = subst (λ b. StepsLead Take b (fox_at (due s)) ss zero_vector) (sym h.entries)
              (subst (λ w. StepsLead Take (vectors_in u.entries) (fox_at w) ss zero_vector) (sym word) proof.leads);
          then_is = record {
            version = h.version;
            entries = h.entries;
            phase = h.phase;
            same = h.same;
            answer = subst (λ o. IsAnswer o s.subjects (s.shown + 1)) (sym last)
                (own.0, ap (λ m. m + 1) own.1 ∙ sym (length-append r.proofs (ss ∷ [])));
            passed = λ none k below reached. h.passed none k below (due_reached n ss u.replies subject k (subst (IsDue subject) (sym is) may) reached);
            going = h.going;
            shown = λ e. absurd (let full : length r.proofs ≡ proof_count r.question r.verdict = subst IsShown is (h.shown e) in omega (arith, full, may.0));
            proofs = ap (λ m. capped (m + 1)) h.proofs ∙ (cap_more (proofs_in u.replies) 1 ∙ ap capped (sym (proof_counted ss u.replies
                (let within = slice_get_within u.replies (length u.replies - 1) r is in omega (arith, within)))));
          };
        }

    proof_next : (u : Told) (s : State) (subject : ℕ) (ss : List Step) (ls : List TrimmedLine) (o : Option ReplyData) → last_reply u ≡ o → IsThere u s
        → IsDue subject o → TellIn (forms.Trimmed n) (tell_other n u (lines.Proof subject ss)) ls t
        → IsTaken u s (Other (lines.Proof subject ss))
    proof_next u s subject ss ls None is h may rest = absurd may
    proof_next u s subject ss ls (Some r) is h may rest = proof_of u s subject ss ls r h is may rest

    other_next : (u : Told) (s : State) (l : Line) (ls : List TrimmedLine) → IsThere u s → OtherMayFollow n u l
        → TellIn (forms.Trimmed n) (tell_other n u l) ls t → IsTaken u s (Other l)
    other_next u s (lines.Entry number made vector) ls h may rest = absurd may
    other_next u s lines.Seal ls h may rest = seal_next u s h may
    other_next u s (lines.Live session number front q v) ls h may rest = live_next u s session number front q v ls h may rest
    other_next u s (lines.Proof subject ss) ls h may rest = proof_next u s subject ss ls (last_reply u) refl h may rest
    other_next u s (lines.End end) ls h may rest = end_next u s end h may
    other_next u s (lines.Close session number q v) ls h may rest = close_next u s session number q v ls h may rest
    other_next u s lines.Done ls h may rest = done_next u s h may

    line_next : (u : Told) (s : State) (l : TrimmedLine) (ls : List TrimmedLine) → IsThere u s → TrimmedMayFollow n u l
        → TellIn (forms.Trimmed n) (tell_trimmed n u l) ls t → IsTaken u s l
    line_next u s (Entry number from made vector) ls h may rest = entry_next u s number from made vector ls h may rest
    line_next u s (Other l) ls h may rest = other_next u s l ls h may rest

    -- ---- all lines

    record AreTaken (s : State) (ls : List TrimmedLine) : Type 0 where
      hold : AllHold p gens s ls
      then_is : IsThere t (after s ls)

    lines_taken : (u : Told) (s : State) (ls : List TrimmedLine) → IsThere u s → AllByRecursion (IsTrimmedLineOf p) ls → TellIn (forms.Trimmed n) u ls t
        → AreTaken s ls
    lines_taken u s [] h valid rest = record { hold = tt; then_is = subst (λ (x : Told). IsThere x s) rest h }
    lines_taken u s (l ∷ ls) h valid rest =
        let one : IsTaken u s l = line_next u s l ls h rest.0 rest.1 in
        let others : AreTaken (with_line s l) ls = lines_taken (tell_trimmed n u l) (with_line s l) ls one.then_is valid.1 rest.1 in record {
          hold = (subst (λ (v : Version). IsLineIn v p l) (sym h.version) valid.0, (one.follows, (one.agrees, others.hold)));
          then_is = others.then_is;
        }

    -- the lines of the whole report, up to the last
    pub record AllTaken (ls : List TrimmedLine) : Type 0 where
      pub hold : AllHold p gens begun ls
      pub finished : (after begun ls).phase ≡ phases.Finished
      pub settled : IsSettled (after begun ls)
      pub entries : (after begun ls).entries ≡ vectors_in t.entries
      pub proofs : (after begun ls).proofs ≡ capped (proofs_in t.replies)

    pub all_taken : (ls : List TrimmedLine) → AllByRecursion (IsTrimmedLineOf p) ls → TellIn (forms.Trimmed n) nothing ls t → t.finished ≡ true → IsSome t.end
        → AllTaken ls
    all_taken ls valid rest finished end =
        let taken : AreTaken begun ls = lines_taken nothing begun ls at_first valid rest in
        let last : IsThere t (after begun ls) = taken.then_is in record {
          hold = taken.hold;
          finished = last.phase ∙ finished_in t.end t.sealed t.finished end finished;
          settled = is_settled (last_reply t) (after begun ls) (last.shown finished) last.answer;
          entries = last.entries;
          proofs = last.proofs;
        }
