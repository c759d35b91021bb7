-- The lines of the items, and the answers between them, tell them.
use Rattle.std.proofs.Common.{◌≡◌, ◌↔◌, ℕ, zero, suc, ◌+◌, Bool, true, false, List, [], ◌∷◌, ◌++◌, length, map, Option, Some, None, IsSome, refl, sym, ap}
use Rattle.std.proofs.Common.{subst, ◌∙◌, append_assoc, append-nil, length-append, arith}
use Rattle.std.specs.List.{AllByRecursion, flat_map, range_with_len}
use Rattle.outcomes.specs.declared.ends.End.{End}
use Rattle.outcomes.specs.declared.ends.End.TheVariants.{Sealed}
use Rattle.basis_entry.specs.Entries.{BasisEntry}
use Rattle.basis_entry.specs.Seals.{Seal}
use Rattle.report_lines.specs.declared.lines.Line.TheVariants as lines
use Rattle.report_reading.specs.declared.entry.EntryData.{EntryData}
use Rattle.report_reading.specs.declared.replies.ReplyData.{ReplyData}
use Rattle.report_reading.specs.Telling.{Told, IsShown, recipe_of}
use Rattle.report_text.specs.Histories.{SessionAnswers, made_by, live_at, entry_lines, seal_lines, told_from}
use Rattle.report_acceptance.specs.Saying.{entry_data, replies_at}
use Rattle.report_acceptance.proofs.Goes.{Goes, one_more, then_more}
use Rattle.report_acceptance.proofs.ReplyLines.{Base, items_in, last_of, Says, may_go_on}
use Rattle.report_acceptance.proofs.Fronts.{all_open_before, AreNumbered, IsSessionShort, IsUpTo, Counted, next_front, front_up_to, front_told}

abbrev pub has_seal : Option Seal → Bool
has_seal None = false
has_seal (Some s) = true

-- what was told of entries, and of the seal
abbrev pub items_so : List ℕ → List EntryData → Bool → Base
items_so from es b = record { from = from; entries = es; sealed = b; end = None }

-- how many items these are
abbrev pub count_items : List BasisEntry → Option Seal → ℕ
count_items [] None = 0
count_items [] (Some s) = 1
count_items (e ∷ es) seal = suc (count_items es seal)

-- each entry of a generator has its own number in its recipe
abbrev pub NameThemselves : ℕ → List BasisEntry → Type 0
NameThemselves k [] = Unit {0}
NameThemselves k (e ∷ es) = (recipe_of k (made_by e.recipe) ≡ e.recipe) × NameThemselves (k + 1) es

abbrev pub HasLast : ℕ → List ReplyData → Type 0
HasLast k rs = (j : ℕ) × IsUpTo k j rs

module _ (ts : List SessionAnswers) (numbers : AreNumbered 1 ts) (fits : AllByRecursion IsSessionShort ts) where
  -- behind k items, and what was answered at fronts up to k
  abbrev pub IsBehind : ℕ → Base → List ReplyData → Told → Type 0
  IsBehind k c rs t = Says c rs (all_open_before (k + 1) ts) t × Counted (k + 1) t ts

  at_front : (k : ℕ) (rs : List ReplyData) → HasLast k rs → IsUpTo (k + 1) 1 rs
  at_front k rs h = record { shown = h.1.shown; within = next_front k h.0 1 (last_of rs) h.1.within }

  answers_told : (k : ℕ) (c : Base) (rs : List ReplyData) → c.end ≡ None → k + 1 ≡ items_in c → HasLast k rs
      → Goes (IsBehind k c rs) (live_at (k + 1) ts) (IsBehind (k + 1) c (rs ++ replies_at ts (k + 1)))
  answers_told k c rs none count h = front_told c none (k + 1) count 1 ts rs [] numbers fits (at_front k rs h) tt

  more_last : (k : ℕ) (rs : List ReplyData) → HasLast k rs → HasLast (k + 1) (rs ++ replies_at ts (k + 1))
  more_last k rs h = front_up_to (k + 1) 1 ts rs numbers fits (at_front k rs h)

  pub all_shown : (n k : ℕ) (rs : List ReplyData) → HasLast k rs → IsShown (last_of (rs ++ flat_map (replies_at ts) (range_with_len (k + 1) n)))
  all_shown zero k rs h = subst (λ l. IsShown (last_of l)) (sym (append-nil rs)) h.1.shown
  all_shown (suc n) k rs h =
      subst (λ l. IsShown (last_of l)) (append_assoc rs (replies_at ts (k + 1)) (flat_map (replies_at ts) (range_with_len (k + 1 + 1) n)))
      (all_shown n (k + 1) (rs ++ replies_at ts (k + 1)) (more_last k rs h))

  entry_told : (k : ℕ) (e : BasisEntry) (from : List ℕ) (es : List EntryData) (rs : List ReplyData) → k ≡ length es → recipe_of k (made_by e.recipe) ≡ e.recipe
      → HasLast k rs
      → Goes (IsBehind k (items_so from es false) rs) (lines.Entry k (made_by e.recipe) e.vector ∷ [])
      (IsBehind k (items_so (from ++ k ∷ []) (es ++ entry_data e ∷ []) false) rs)
  entry_told k e from es rs at named h =
      one_more (IsBehind k (items_so from es false) rs) (IsBehind k (items_so (from ++ k ∷ []) (es ++ entry_data e ∷ []) false) rs)
      (lines.Entry k (made_by e.recipe) e.vector)
      (λ t b. (
        (may_go_on (items_so from es false) rs (all_open_before (k + 1) ts) t b.0 refl h.1.shown, b.0.sealed, at ∙ sym (ap length b.0.entries)),
        (
          record {
            from = ap (λ l. l ++ k ∷ []) b.0.from;
            entries = λ i. b.0.entries i ++ record { recipe = named i; vector = e.vector } ∷ [];
            sealed = b.0.sealed;
            end = b.0.end;
            replies = b.0.replies;
            left = b.0.left;
            unfinished = b.0.unfinished;
          },
          b.1,
        ),
      ))

  seal_told : (k : ℕ) (from : List ℕ) (es : List EntryData) (rs : List ReplyData) → HasLast k rs
      → Goes (IsBehind k (items_so from es false) rs) (lines.Seal ∷ []) (IsBehind k (items_so from es true) rs)
  seal_told k from es rs h =
      one_more (IsBehind k (items_so from es false) rs) (IsBehind k (items_so from es true) rs) lines.Seal
      (λ t b. (
        (may_go_on (items_so from es false) rs (all_open_before (k + 1) ts) t b.0 refl h.1.shown, b.0.sealed),
        (
          record { from = b.0.from; entries = b.0.entries; sealed = refl; end = b.0.end; replies = b.0.replies; left = b.0.left; unfinished = b.0.unfinished },
          b.1,
        ),
      ))

  -- from entry number k on
  pub items_told : (seal : Option Seal) (k : ℕ) (later : List BasisEntry) (from : List ℕ) (es : List EntryData) (rs : List ReplyData) (n : ℕ)
      → k + count_items later seal ≡ n → k ≡ length es
      → NameThemselves k later → HasLast k rs
      → Goes (IsBehind k (items_so from es false) rs) (told_from ts k (entry_lines k later ++ seal_lines seal))
      (IsBehind n (items_so (from ++ range_with_len k (length later)) (es ++ map entry_data later) (has_seal seal))
      (rs ++ flat_map (replies_at ts) (range_with_len (k + 1) (count_items later seal))))
  items_told None k [] from es rs n is at named h =
      let same : k ≡ n = omega (arith, is) in
      λ t b. (
        t,
        (
          refl,
          subst (λ (x : ℕ × (List ℕ) × (List EntryData) × List ReplyData). IsBehind x.0 (items_so x.1 x.2 false) x.3 t)
              (λ i. (same i, sym (append-nil from) i, sym (append-nil es) i, sym (append-nil rs) i)) b,
        ),
      )
  items_told (Some s) k [] from es rs n is at named h =
      let next : k + 1 ≡ n = omega (arith, is) in
      let c : Base = items_so from es true in
      let answers : Goes (IsBehind k c rs) (live_at (k + 1) ts) (IsBehind (k + 1) c (rs ++ replies_at ts (k + 1))) =
      answers_told k c rs refl (omega (arith, at)) h in
      let all : Goes (IsBehind k (items_so from es false) rs) (lines.Seal ∷ live_at (k + 1) ts) (IsBehind (k + 1) c (rs ++ replies_at ts (k + 1))) =
      then_more (IsBehind k (items_so from es false) rs) (IsBehind k c rs) (IsBehind (k + 1) c (rs ++ replies_at ts (k + 1))) (lines.Seal ∷ [])
      (live_at (k + 1) ts) (seal_told k from es rs h) answers in
      let told : Goes (IsBehind k (items_so from es false) rs) (lines.Seal ∷ (live_at (k + 1) ts ++ [])) (IsBehind (k + 1) c (rs ++ replies_at ts (k + 1))) =
      subst (λ ls. Goes (IsBehind k (items_so from es false) rs) (lines.Seal ∷ ls) (IsBehind (k + 1) c (rs ++ replies_at ts (k + 1))))
      (sym (append-nil (live_at (k + 1) ts))) all in
      subst (λ (x : ℕ × (List ℕ) × (List EntryData) × List ReplyData). Goes (IsBehind k (items_so from es false) rs) (lines.Seal ∷ (live_at (k + 1) ts ++ []))
      (IsBehind x.0 (items_so x.1 x.2 true) (rs ++ x.3)))
      (λ i. (next i, sym (append-nil from) i, sym (append-nil es) i, sym (append-nil (replies_at ts (k + 1))) i)) told
  items_told seal k (e ∷ later) from es rs n is at named h =
      let more : length (es ++ entry_data e ∷ []) ≡ length es + 1 = length-append es (entry_data e ∷ []) in
      let c : Base = items_so (from ++ k ∷ []) (es ++ entry_data e ∷ []) false in
      let mine : List ReplyData = replies_at ts (k + 1) in
      let others : List ReplyData = flat_map (replies_at ts) (range_with_len (k + 1 + 1) (count_items later seal)) in
      let lines_here = told_from ts (k + 1) (entry_lines (k + 1) later ++ seal_lines seal) in
      let start : Told → Type 0 = IsBehind k (items_so from es false) rs in
      let numbered : Told → Type 0 = IsBehind k c rs in
      let answered : Told → Type 0 = IsBehind (k + 1) c (rs ++ mine) in
      let rest : Goes answered lines_here (IsBehind n (items_so ((from ++ k ∷ []) ++ range_with_len (k + 1) (length later)) ((es ++ entry_data e ∷ [])
      ++ map entry_data later) (has_seal seal)) ((rs ++ mine) ++ others)) =
      items_told seal (k + 1) later (from ++ k ∷ []) (es ++ entry_data e ∷ []) (rs ++ mine) n (omega (arith, is)) (omega (arith, at, more)) named.1
      (more_last k rs h) in
      let last : Told → Type 0 = IsBehind n (items_so (from ++ k ∷ range_with_len (k + 1) (length later)) (es ++ entry_data e ∷ map entry_data later)
      (has_seal seal)) (rs ++ (mine ++ others)) in
      let joined : Goes answered lines_here last =
      subst (λ (x : (List ℕ) × (List EntryData) × List ReplyData). Goes answered lines_here (IsBehind n (items_so x.0 x.1 (has_seal seal)) x.2))
      (λ i. (
        append_assoc from (k ∷ []) (range_with_len (k + 1) (length later)) i,
        append_assoc es (entry_data e ∷ []) (map entry_data later) i,
        append_assoc rs mine others i,
      )) rest in
      then_more start numbered last (lines.Entry k (made_by e.recipe) e.vector ∷ []) (live_at (k + 1) ts ++ lines_here) (entry_told k e from es rs at named.0 h)
      (then_more numbered answered last (live_at (k + 1) ts) lines_here (answers_told k c rs refl (omega (arith, at, more)) h) joined)

  -- ---- the end

  sealed_so : (seal : Option Seal) → IsSome seal ↔ (has_seal seal ≡ true)
  sealed_so None = (λ h. absurd (let w = h in cc), λ e. absurd cc)
  sealed_so (Some s) = (λ h. refl, λ e. refl)

  pub end_told : (seal : Option Seal) (end : End) (n : ℕ) (from : List ℕ) (es : List EntryData) (rs : List ReplyData) → IsSome seal ↔ (end ≡ Sealed)
      → IsShown (last_of rs)
      → Goes (IsBehind n (items_so from es (has_seal seal)) rs) (lines.End end ∷ [])
      (Says (record (items_so from es (has_seal seal)) { end = Some end }) rs (all_open_before (n + 1) ts))
  end_told seal end n from es rs is shown =
      one_more (IsBehind n (items_so from es (has_seal seal)) rs) (Says (record (items_so from es (has_seal seal)) { end = Some end }) rs
      (all_open_before (n + 1) ts)) (lines.End end)
      (λ t b. (
        (
          may_go_on (items_so from es (has_seal seal)) rs (all_open_before (n + 1) ts) t b.0 refl shown,
          (λ e. is.0 ((sealed_so seal).1 (sym b.0.sealed ∙ e)), λ e. b.0.sealed ∙ (sealed_so seal).0 (is.1 e)),
        ),
        record { from = b.0.from; entries = b.0.entries; sealed = b.0.sealed; end = refl; replies = b.0.replies; left = b.0.left; unfinished = b.0.unfinished },
      ))
