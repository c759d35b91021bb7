-- The lines of one answer tell it.
use Rattle.std.proofs.Common.{◌≡◌, ℕ, zero, suc, ◌+◌, ◌-◌, ◌<◌, ◌^◌, Bool, true, false, if◌then◌else◌, List, [], ◌∷◌, ◌++◌, length, map, drop, slice_get}
use Rattle.std.proofs.Common.{Option, Some, None, IsSome, refl, sym, ap, subst, ◌∙◌, append_assoc, append-nil, length-append, arith}
use Rattle.std.proofs.lemmas.List.{map-append, length-map}
use Rattle.std.specs.Option.{unwrap_or}
use Rattle.std.specs.List.{AllByRecursion}
use Rattle.std.specs.BTreeMap.{insert_entry}
use Rattle.std.specs.declared.cmp.Ordering.TheVariants.{Less, Greater}
use Rattle.word_text.specs.Place.{capped}
use Rattle.module_vec.specs.declared.steps.Step.{Step}
use Rattle.outcomes.specs.declared.ends.End.{End}
use Rattle.outcomes.specs.declared.verdicts.Verdict.{Verdict}
use Rattle.session_text.specs.declared.question.Question.{Question}
use Rattle.session_text.specs.Questions.{first_long_image}
use Rattle.report_lines.specs.declared.lines.Line.TheVariants as lines
use Rattle.report_reading.specs.declared.entry.EntryData.{EntryData}
use Rattle.report_reading.specs.declared.replies.ReplyData.{ReplyData}
use Rattle.report_reading.specs.Telling.{Told, MayGoOn, IsClosing, IsNextOpen, IsShown, IsDue, IsInOrder, item_count, last_number, proof_count, is_open}
use Rattle.report_reading.specs.Telling.{by_number, with_proof}
use Rattle.report_reading.proofs.Placing.{proof_behind}
use Rattle.report_text.specs.Histories.{proof_lines}
use Rattle.report_acceptance.proofs.Puts.{AreLeft, put_here, put_left, more_left, get_behind, first_left}
use Rattle.report_acceptance.proofs.Goes.{Goes, AreSpared, one_more, then_more}

-- ---- what was told

-- all but the replies
pub record Base : Type 0 where
  pub from : List ℕ
  pub entries : List EntryData
  pub sealed : Bool
  pub end : Option End

abbrev pub items_in : Base → ℕ
items_in c = length c.entries + (if c.sealed then 1 else 0)

abbrev pub last_of : List ReplyData → Option ReplyData
last_of rs = slice_get rs (length rs - 1)

abbrev pub questions_in : List ReplyData → List Question
questions_in rs = map (λ (r : ReplyData). r.question) rs

-- these replies too, and these questions are left open
pub record Says (c : Base) (rs : List ReplyData) (asked : List ((ℕ × ℕ) × Question)) (t : Told) : Type 0 where
  pub from : t.from ≡ c.from
  pub entries : t.entries ≡ c.entries
  pub sealed : t.sealed ≡ c.sealed
  pub end : t.end ≡ c.end
  pub replies : t.replies ≡ rs
  pub left : AreLeft (questions_in rs) t.left_open asked
  pub unfinished : t.finished ≡ false

pub last_behind : (rs : List ReplyData) (r : ReplyData) → last_of (rs ++ r ∷ []) ≡ Some r
last_behind rs r =
    let e : length (rs ++ r ∷ []) ≡ length rs + 1 = length-append rs (r ∷ []) in
    let at : length (rs ++ r ∷ []) - 1 ≡ length rs = omega (arith, e) in
    ap (slice_get (rs ++ r ∷ [])) at ∙ get_behind rs r

pub items_told : (c : Base) (rs : List ReplyData) (asked : List ((ℕ × ℕ) × Question)) (t : Told) → Says c rs asked t → item_count t ≡ items_in c
items_told c rs asked t h = λ i. length (h.entries i) + (if h.sealed i then 1 else 0)

pub may_go_on : (c : Base) (rs : List ReplyData) (asked : List ((ℕ × ℕ) × Question)) (t : Told) → Says c rs asked t → c.end ≡ None
    → IsShown (last_of rs) → MayGoOn t
may_go_on c rs asked t h none shown = (h.end ∙ none, subst IsShown (sym (ap last_of h.replies)) shown)

pub may_close : (c : Base) (rs : List ReplyData) (asked : List ((ℕ × ℕ) × Question)) (t : Told) → Says c rs asked t → IsSome c.end
    → IsShown (last_of rs) → IsClosing t
may_close c rs asked t h some shown = (subst (λ (o : Option End). IsSome o) (sym h.end) some, h.unfinished, subst IsShown (sym (ap last_of h.replies)) shown)

-- ---- the answer

abbrev pub opened : ℕ → ℕ → Question → Verdict → List ((ℕ × ℕ) × Question)
opened s n q v = if is_open v then ((s, n), q) ∷ [] else []

left_with : (rs : List ReplyData) (r : ReplyData) (xs : List ((ℕ × ℕ) × ℕ)) (before behind : List ((ℕ × ℕ) × Question)) (at : ℕ × ℕ) (place : ℕ) (b : Bool)
    → place ≡ length rs
    → AreLeft (questions_in rs) xs (before ++ behind) → AllByRecursion (λ y. by_number at y.0 ≡ Greater) before
    → AllByRecursion (λ y. by_number at y.0 ≡ Less) behind
    → AreLeft (questions_in (rs ++ r ∷ [])) (if b then insert_entry by_number xs at place else xs)
    (before ++ ((if b then (at, r.question) ∷ [] else []) ++ behind))
left_with rs r xs before behind at place b is h g l = by b
  where
    more : questions_in (rs ++ r ∷ []) ≡ questions_in rs ++ r.question ∷ []
    more = map-append (λ (x : ReplyData). x.question) rs (r ∷ [])

    whole : AreLeft (questions_in (rs ++ r ∷ [])) xs (before ++ behind)
    whole = subst (λ qs. AreLeft qs xs (before ++ behind)) (sym more) (more_left (questions_in rs) (r.question ∷ []) xs (before ++ behind) h)

    here : slice_get (questions_in (rs ++ r ∷ [])) place ≡ Some r.question
    here =
        ap (λ qs. slice_get qs place) more
        ∙ ap (slice_get (questions_in rs ++ r.question ∷ [])) (is ∙ sym (length-map rs (λ (x : ReplyData). x.question)))
        ∙ get_behind (questions_in rs) r.question

    by : (b : Bool) → AreLeft (questions_in (rs ++ r ∷ [])) (if b then insert_entry by_number xs at place else xs)
        (before ++ ((if b then (at, r.question) ∷ [] else []) ++ behind))
    by true = put_left (questions_in (rs ++ r ∷ [])) xs before behind at place r.question whole g l here
    by false = whole

module _ (c : Base) (rs : List ReplyData) (s n front : ℕ) (q : Question) (v : Verdict) where
  abbrev pub started : ReplyData
  started = record { session = s; question = q; live = true; front = front; verdict = v; proofs = [] }

  pub live_told : (before behind : List ((ℕ × ℕ) × Question)) → c.end ≡ None → front ≡ items_in c → first_long_image q ≡ None → IsShown (last_of rs)
      → IsInOrder s front (last_of rs)
      → AllByRecursion (λ y. by_number (s, n) y.0 ≡ Greater) before → AllByRecursion (λ y. by_number (s, n) y.0 ≡ Less) behind
      → Goes (λ t. Says c rs (before ++ behind) t × (last_number t s + 1 ≡ n)) (lines.Live s n front q v ∷ [])
      (λ u. Says c (rs ++ started ∷ []) (before ++ (opened s n q v ++ behind)) u × (last_number u s ≡ n))
  live_told before behind none is short shown order g l =
      one_more (λ t. Says c rs (before ++ behind) t × (last_number t s + 1 ≡ n)) (λ u. Says c (rs ++ started ∷ []) (before ++ (opened s n q v ++ behind)) u
      × (last_number u s ≡ n)) (lines.Live s n front q v)
      (λ t h. (
        (
          may_go_on c rs (before ++ behind) t h.0 none shown,
          is ∙ sym (items_told c rs (before ++ behind) t h.0),
          sym h.1,
          subst (IsInOrder s front) (sym (ap last_of h.0.replies)) order,
          short,
        ),
        (
          record {
            from = h.0.from;
            entries = h.0.entries;
            sealed = h.0.sealed;
            end = h.0.end;
            replies = ap (λ l. l ++ started ∷ []) h.0.replies;
            left = left_with rs started t.left_open before behind (s, n) (length t.replies) (is_open v) (ap length h.0.replies) h.0.left g l;
            unfinished = h.0.unfinished;
          },
          ap (λ o. unwrap_or o 0) (put_here s n t.numbers),
        ),
      ))

-- ---- its proofs

module _ (c : Base) (rs : List ReplyData) (r : ReplyData) (asked : List ((ℕ × ℕ) × Question)) where
  abbrev pub with_these : List (List Step) → ReplyData
  with_these proofs = record r { proofs = proofs }

  same_questions : (a b : List (List Step)) → questions_in (rs ++ with_these a ∷ []) ≡ questions_in (rs ++ with_these b ∷ [])
  same_questions a b = map-append (λ (x : ReplyData). x.question) rs (with_these a ∷ [])
      ∙ sym (map-append (λ (x : ReplyData). x.question) rs (with_these b ∷ []))

  proof_told : (done : List (List Step)) (steps : List Step) → length done < proof_count r.question r.verdict
      → Goes (Says c (rs ++ with_these done ∷ []) asked) (lines.Proof (length done + 1) steps ∷ []) (Says c (rs ++ with_these (done ++ steps ∷ []) ∷ []) asked)
  proof_told done steps lt =
      one_more (Says c (rs ++ with_these done ∷ []) asked) (Says c (rs ++ with_these (done ++ steps ∷ []) ∷ []) asked) (lines.Proof (length done + 1) steps)
      (λ t h. (
        subst (IsDue (length done + 1)) (sym (ap last_of h.replies ∙ last_behind rs (with_these done))) (lt, refl),
        record {
          from = h.from;
          entries = h.entries;
          sealed = h.sealed;
          end = h.end;
          replies = ap (with_proof steps) h.replies ∙ proof_behind steps rs (with_these done);
          left = subst (λ qs. AreLeft qs t.left_open asked) (same_questions done (done ++ steps ∷ [])) h.left;
          unfinished = h.unfinished;
        },
      ))

  pub proofs_told : (done proofs : List (List Step)) → length done + length proofs ≡ proof_count r.question r.verdict
      → Goes (Says c (rs ++ with_these done ∷ []) asked) (proof_lines (length done + 1) proofs) (Says c (rs ++ with_these (done ++ proofs) ∷ []) asked)
  proofs_told done [] count = λ t h. (t, (refl, subst (λ ps. Says c (rs ++ with_these ps ∷ []) asked t) (sym (append-nil done)) h))
  proofs_told done (steps ∷ proofs) count =
      let more : length (done ++ steps ∷ []) ≡ length done + 1 = length-append done (steps ∷ []) in
      let later : Goes (Says c (rs ++ with_these (done ++ steps ∷ []) ∷ []) asked) (proof_lines (length (done ++ steps ∷ []) + 1) proofs)
      (Says c (rs ++ with_these ((done ++ steps ∷ []) ++ proofs) ∷ []) asked) =
      proofs_told (done ++ steps ∷ []) proofs (omega (arith, more, count)) in
      let joined : (done ++ steps ∷ []) ++ proofs ≡ done ++ steps ∷ proofs = append_assoc done (steps ∷ []) proofs in
      then_more (Says c (rs ++ with_these done ∷ []) asked) (Says c (rs ++ with_these (done ++ steps ∷ []) ∷ []) asked)
      (Says c (rs ++ with_these (done ++ steps ∷ proofs) ∷ []) asked)
      (lines.Proof (length done + 1) steps ∷ []) (proof_lines (length done + 1 + 1) proofs) (proof_told done steps (omega (arith, count)))
      (subst (λ (x : ℕ × List (List Step)). Goes (Says c (rs ++ with_these (done ++ steps ∷ []) ∷ []) asked) (proof_lines (x.0 + 1) proofs)
      (Says c (rs ++ with_these x.1 ∷ []) asked)) (λ i. (more i, joined i)) later)

pub proofs_spared : (k j : ℕ) (proofs : List (List Step)) → AreSpared k (proof_lines j proofs)
proofs_spared k j [] = tt
proofs_spared k j (steps ∷ proofs) = (tt, proofs_spared k (j + 1) proofs)

-- ---- an answer behind the end

get_map : (rs : List ReplyData) (i : ℕ) (q : Question) → slice_get (questions_in rs) i ≡ Some q → (r : ReplyData) × (slice_get rs i ≡ Some r) × (r.question ≡ q)
get_map [] i q h = absurd cc
get_map (r ∷ rs) zero q h = (r, refl, cc)
get_map (r ∷ rs) (suc i) q h = get_map rs i q h

small_count : (k : ℕ) → k < 2 ^ 32 → capped k ≡ k
small_count k small = omega (arith, small)

module _ (c : Base) (rs : List ReplyData) (s n front : ℕ) (q : Question) (v : Verdict) where
  abbrev pub closed : ReplyData
  closed = record { session = s; question = q; live = false; front = front; verdict = v; proofs = [] }

  next_open : (asked : List ((ℕ × ℕ) × Question)) (t : Told) → Says c rs (((s, n), q) ∷ asked) t → IsNextOpen t s n q
  next_open asked t h =
      let first = first_left (questions_in rs) t.left_open (s, n) q asked h.left in
      let reply = get_map rs first.place q first.question in
      record { place = first.place; reply = reply.0; first = first.first; is = ap (λ l. slice_get l first.place) h.replies ∙ reply.1; repeats = reply.2 }

  pub close_told : (asked : List ((ℕ × ℕ) × Question)) → IsSome c.end → front ≡ items_in c → items_in c < 2 ^ 32 → IsShown (last_of rs)
      → Goes (Says c rs (((s, n), q) ∷ asked)) (lines.Close s n q v ∷ []) (Says c (rs ++ closed ∷ []) asked)
  close_told asked some is small shown =
      one_more (Says c rs (((s, n), q) ∷ asked)) (Says c (rs ++ closed ∷ []) asked) (lines.Close s n q v)
      (λ t h.
      let at : capped (item_count t) ≡ front = ap capped (items_told c rs (((s, n), q) ∷ asked) t h) ∙ (small_count (items_in c) small ∙ sym is) in
      let first = first_left (questions_in rs) t.left_open (s, n) q asked h.left in (
        (may_close c rs (((s, n), q) ∷ asked) t h some shown, next_open asked t h),
        record {
          from = h.from;
          entries = h.entries;
          sealed = h.sealed;
          end = h.end;
          replies = λ i. h.replies i ++ record { session = s; question = q; live = false; front = at i; verdict = v; proofs = [] } ∷ [];
          left = subst (λ qs. AreLeft qs (drop 1 t.left_open) asked) (sym (map-append (λ (x : ReplyData). x.question) rs (closed ∷ [])))
              (more_left (questions_in rs) (q ∷ []) (drop 1 t.left_open) asked first.others);
          unfinished = h.unfinished;
        },
      ))
