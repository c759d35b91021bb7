-- The entries and proofs of the trimming of a legal report hold.
use Rattle.std.proofs.Common.{◌≡◌, ℕ, zero, suc, ◌+◌, ◌<◌, ◌≤◌, ◌^◌, nat_lt, ◌==◌, if◌then◌else◌, Bool, true, false, List, [], ◌∷◌, ◌++◌, length, map, take}
use Rattle.std.proofs.Common.{slice_get, get_or, Option, Some, None, option_map, refl, sym, ap, subst, ◌∙◌, arith}
use Rattle.std.proofs.lemmas.List.{length-map}
use Rattle.std.proofs.lemmas.List.FromFn.{get_or-range_with_len, length-range_with_len}
use Rattle.std.proofs.lemmas.Option.{slice_get_within, slice_get-map, get_or_from_slice_get}
use Rattle.std.specs.List.{AllByRecursion, flat_map, range_with_len}
use Rattle.presentation.specs.Presented.{Presented, IsPresented}
use Rattle.free_words.specs.declared.letter.Letter.{Letter}
use Rattle.module_vec.specs.declared.places.Term.{Term}
use Rattle.module_vec.specs.declared.steps.Step.{Step}
use Rattle.module_vec.specs.Vectors.{Coefficients, coefficient_at}
use Rattle.module_vec.specs.Modules.{vector_at}
use Rattle.module_vec.proofs.FallingTerms.{all_join}
use Rattle.step_lists.specs.declared.way.Way.TheVariants.{Add, Take}
use Rattle.step_lists.specs.Sums.{zero_vector}
use Rattle.session_text.specs.Questions.{HasImages}
use Rattle.hom_check.proofs.Fitting.{Fits}
use Rattle.basis_entry.specs.declared.recipes.Recipe.{Recipe}
use Rattle.basis_entry.specs.declared.recipes.Recipe.TheVariants.{Gen, Sum}
use Rattle.basis_entry.specs.Entries.{BasisEntry}
use Rattle.basis_entry.specs.Items.{vectors_below, seal_below}
use Rattle.basis_entry.specs.Seals.{Seal, item_count}
use Rattle.session_core.specs.Questions.{CanBeAsked}
use Rattle.session_core.specs.Verdicts.{IsVerdict}
use Rattle.report_text.specs.Histories.{Reply, Answered, SessionAnswers, History, made_by}
use Rattle.report_text.specs.Answers.{to_show, AreProofsOf, IsClosing}
use Rattle.report_text.proofs.Verdicts.{yes_is_shown}
use Rattle.report_reading.specs.declared.entry.EntryData.{EntryData}
use Rattle.report_reading.specs.declared.replies.ReplyData.{ReplyData}
use Rattle.report_reading.specs.declared.data.ReportData.{ReportData}
use Rattle.report_trimming.specs.Trimming.{Pairwise, AreStepsRenamed, IsRecipeRenamed, IsReplyRenamed, IsKeptEntry, IsTrimming}
use Rattle.report_trimming.proofs.Pairing.{paired_first}
use Rattle.cert_checker.specs.States.{IsInTurn, IsInTurnAt, AreNear, asked}
use Rattle.cert_checker.specs.Checking.{AreThere, IsMadeOf, IsMadeAt, StepsLead, signed, fox_at}
use Rattle.report_acceptance.specs.Saying.{entry_data, live_reply, replied_at, replies_at, closing_reply, closed_in, closing_replies, data_of}
use Rattle.report_acceptance.proofs.Stepping.{entry_there}
use Rattle.report_acceptance.proofs.Proving.{AreShownBy, shown_by, is_proof}
use Rattle.report_acceptance.proofs.Verdicts.{asked_is, shown_fit}
use Rattle.report_acceptance.proofs.Entries.{IsNextEntry}
use Rattle.report_acceptance.proofs.Sessions.{IsTold, IsSessionTold}
use Rattle.report_acceptance.proofs.Items.{AreKnown, next_by, first_entries, first_over, get_first, length_take}
use Rattle.report_acceptance.proofs.Growing.{some_same, get_joined}
use Rattle.report_acceptance.proofs.Renaming.{IsSame, same_near, same_steps}
use Rattle.report_acceptance.proofs.TrimmedTaking.{vectors_in, IsNextKept, IsRightReply, AreRight}

-- ---- lists

there_is : {X : Type 0} (xs : List X) (j : ℕ) → j < length xs → (x : X) × (slice_get xs j ≡ Some x)
there_is [] j lt = absurd (omega (arith, lt))
there_is (x ∷ xs) zero lt = (x, refl)
there_is (x ∷ xs) (suc j) lt = there_is xs j (omega (arith, lt))

from_map : {X Y : Type 0} (f : X → Y) (xs : List X) (i : ℕ) (y : Y) → slice_get (map f xs) i ≡ Some y → (x : X) × (slice_get xs i ≡ Some x) × (f x ≡ y)
from_map f [] i y h = absurd cc
from_map f (x ∷ xs) zero y h = (x, refl, some_same h)
from_map f (x ∷ xs) (suc i) y h = from_map f xs i y h

from_range : (n i k : ℕ) → slice_get (range_with_len 0 n) i ≡ Some k → k ≡ i
from_range n i k h =
    let within : i < length (range_with_len 0 n) = slice_get_within (range_with_len 0 n) i k h in
    let long : length (range_with_len 0 n) ≡ n = length-range_with_len 0 n in
    let value : get_or (range_with_len 0 n) i 0 ≡ 0 + i = get_or-range_with_len 0 n i 0 (omega (arith, within, long)) in
    let own : get_or (range_with_len 0 n) i 0 ≡ k = get_or_from_slice_get (range_with_len 0 n) i k 0 h in
    omega (arith, value, own)

take_most : {X : Type 0} (xs : List X) (m : ℕ) → length (take m xs) ≤ m
take_most xs zero = omega arith
take_most [] (suc m) = omega arith
take_most (x ∷ xs) (suc m) = let e = take_most xs m in omega (arith, e)

taken_length : {X : Type 0} (xs : List X) (m : ℕ) → length (take m xs) ≤ length xs
taken_length xs zero = omega arith
taken_length [] (suc m) = omega arith
taken_length (x ∷ xs) (suc m) = let e = taken_length xs m in omega (arith, e)

all_of : {X : Type 0} (P : X → Type 0) (xs : List X) (i : ℕ) (x : X) → AllByRecursion P xs → slice_get xs i ≡ Some x → P x
all_of P [] i x h at = absurd cc
all_of P (y ∷ xs) zero x h at = subst P (some_same at) h.0
all_of P (y ∷ xs) (suc i) x h at = all_of P xs i x h.1 at

all_flat : {X Y : Type 0} (P : Y → Type 0) (f : X → List Y) (xs : List X) → ((x : X) → AllByRecursion P (f x)) → AllByRecursion P (flat_map f xs)
all_flat P f [] h = tt
all_flat P f (x ∷ xs) h = all_join P (f x) (flat_map f xs) (h x) (all_flat P f xs h)

all_flat_of : {X Y : Type 0} (Q : X → Type 0) (P : Y → Type 0) (f : X → List Y) (xs : List X) → AllByRecursion Q xs → ((x : X) → Q x → AllByRecursion P (f x))
    → AllByRecursion P (flat_map f xs)
all_flat_of Q P f [] all h = tt
all_flat_of Q P f (x ∷ xs) all h = all_join P (f x) (flat_map f xs) (h x all.0) (all_flat_of Q P f xs all.1 h)

paired_back : {X Y : Type 0} (R : X → Y → Type 0) (xs : List X) (ys : List Y) (i : ℕ) (x : X) → Pairwise R xs ys → slice_get xs i ≡ Some x
    → (y : Y) × (slice_get ys i ≡ Some y) × R x y
paired_back R [] ys i x h at = absurd cc
paired_back R (a ∷ xs) [] i x h at = absurd h
paired_back R (a ∷ xs) (b ∷ ys) zero x h at = (b, refl, subst (λ z. R z b) (some_same at) h.0)
paired_back R (a ∷ xs) (b ∷ ys) (suc i) x h at = paired_back R xs ys i x h.1 at

module _ (p : Presented) (gens : List (List Term)) (pres : IsPresented p) (es : List BasisEntry) (seal : Option Seal) (base : ℕ)
    (known : AreKnown p gens base es) where
  -- ---- the replies of the report

  record IsReplyOf (x : ReplyData) : Type 0 where
    ask : CanBeAsked p x.question
    low : base ≤ x.front
    verdict : IsVerdict p (vectors_below es x.front) (seal_below es seal x.front) x.question x.verdict
    proofs : AreProofsOf (vectors_below es x.front) (to_show x.question x.verdict) x.proofs

  live_of : (s front : ℕ) (a : Answered) (b : Bool) → IsTold p es seal base a → AllByRecursion IsReplyOf (if b then live_reply s a ∷ [] else [])
  live_of s front a true is = (record { ask = is.ask; low = is.low; verdict = is.live.verdict; proofs = is.live.proofs }, tt)
  live_of s front a false is = tt

  session_of : (front : ℕ) (x : SessionAnswers) → IsSessionTold p es seal base x → AllByRecursion IsReplyOf (flat_map (replied_at front x.number) x.answers)
  session_of front x told = all_flat_of (IsTold p es seal base) IsReplyOf (replied_at front x.number) x.answers told.answers
      (λ a is. live_of x.number front a (a.live.front == front) is)

  closing_of : (s : ℕ) (a : Answered) (o : Option Reply) → IsTold p es seal base a → IsClosing p es seal a.question a.live.verdict o
      → AllByRecursion IsReplyOf (closing_reply s a.question o)
  closing_of s a None is h = tt
  closing_of s a (Some x) is h = (
    record {
      ask = is.ask;
      low = let at = h.1.front in let most = counted seal in let within = known.within in omega (arith, at, most, within);
      verdict = h.1.reply.verdict;
      proofs = h.1.reply.proofs;
    },
    tt,
  )
    where
      counted : (o : Option Seal) → length es ≤ item_count es o
      counted None = omega arith
      counted (Some x) = omega arith

  closed_of : (x : SessionAnswers) → IsSessionTold p es seal base x → AllByRecursion IsReplyOf (flat_map (closed_in x.number) x.answers)
  closed_of x told = all_flat_of (IsTold p es seal base) IsReplyOf (closed_in x.number) x.answers told.answers
      (λ a is. closing_of x.number a a.closing is is.closing)

  replies_of : (ts : List SessionAnswers) (fronts : List ℕ) → AllByRecursion (IsSessionTold p es seal base) ts
      → AllByRecursion IsReplyOf (flat_map (replies_at ts) fronts ++ closing_replies ts)
  replies_of ts fronts told =
      all_join IsReplyOf (flat_map (replies_at ts) fronts) (closing_replies ts)
      (all_flat IsReplyOf (replies_at ts) fronts (λ front. all_flat_of (IsSessionTold p es seal base) IsReplyOf
      (λ (x : SessionAnswers). flat_map (replied_at front x.number) x.answers) ts told (session_of front)))
      (all_flat_of (IsSessionTold p es seal base) IsReplyOf (λ (x : SessionAnswers). flat_map (closed_in x.number) x.answers) ts told closed_of)

  -- ---- what is kept of it

  module _ (ts : List SessionAnswers) (told : AllByRecursion (IsSessionTold p es seal base) ts) (h : History) (own : h.entries ≡ es) (said : h.sessions ≡ ts)
      (t : ReportData) (trims : IsTrimming (data_of h) t) where
    abbrev kept : List ℕ
    kept = trims.kept

    -- the entry of the report that an entry of the trimming is
    record IsFrom (j : ℕ) (f : EntryData) : Type 0 where
      k : ℕ
      at : slice_get kept j ≡ Some k
      e : BasisEntry
      is : slice_get es k ≡ Some e
      recipe : IsRecipeRenamed kept e.recipe f.recipe
      vector : f.vector ≡ e.vector

    from_entry : (j : ℕ) (f : EntryData) → slice_get t.entries j ≡ Some f → IsFrom j f
    from_entry j f at =
        let q = paired_first (IsKeptEntry (data_of h).entries kept) kept t.entries j f trims.entries at in
        let m = from_map entry_data h.entries q.item q.related.entry q.related.is in record {
          k = q.item;
          at = q.is;
          e = m.0;
          is = subst (λ xs. slice_get xs q.item ≡ Some m.0) own m.1;
          recipe = subst (λ (x : EntryData). IsRecipeRenamed kept x.recipe f.recipe) (sym m.2) q.related.renamed.recipe;
          vector = q.related.renamed.vector ∙ ap (λ (x : EntryData). x.vector) (sym m.2);
        }

    number_kept : (j k : ℕ) → slice_get t.from j ≡ Some k → slice_get kept j ≡ Some k
    number_kept j k at =
        let q = paired_first (λ i f. slice_get (data_of h).from i ≡ Some f) kept t.from j k trims.from at in
        q.is ∙ ap (λ i. Some i) (sym (from_range (length h.entries) q.item k q.related))

    kept_number : (j k : ℕ) → slice_get kept j ≡ Some k → slice_get t.from j ≡ Some k
    kept_number j k at =
        let q = paired_back (λ i f. slice_get (data_of h).from i ≡ Some f) kept t.from j k trims.from at in
        q.1 ∙ ap (λ i. Some i) (from_range (length h.entries) k q.0 q.2)

    module _ (before more : List EntryData) (parts : t.entries ≡ before ++ more) (m : ℕ) where
      kept_vector : (j k : ℕ) → slice_get kept j ≡ Some k → j < length before → k < m → vector_at (vectors_in before) j ≡ vector_at (vectors_below es m) k
      kept_vector j k at within below =
          let f = there_is before j within in
          let whole : slice_get t.entries j ≡ Some f.0 = subst (λ xs. slice_get xs j ≡ Some f.0) (sym parts) (get_joined before more j f.0 f.1) in
          let is : IsFrom j f.0 = from_entry j f.0 whole in
          let same : is.k ≡ k = some_same (sym is.at ∙ at) in
          let first : slice_get (take m es) k ≡ Some is.e = get_first es m k is.e below (subst (λ i. slice_get es i ≡ Some is.e) same is.is) in
          entry_there (vectors_in before) j f.0.vector (slice_get-map (λ (x : EntryData). x.vector) before j
          ∙ ap (option_map (λ (x : EntryData). x.vector)) f.1)
          ∙ (is.vector ∙ sym (entry_there (vectors_below es m) k is.e.vector (slice_get-map (λ (x : BasisEntry). x.vector) (take m es) k
          ∙ ap (option_map (λ (x : BasisEntry). x.vector)) first)))

      steps_same : (ss rs : List Step) → AreStepsRenamed kept ss rs → AreThere (vectors_below es m) ss
          → ((j k : ℕ) → slice_get kept j ≡ Some k → k < m → j < length before)
          → Pairwise (IsSame (vectors_below es m) (vectors_in before)) ss rs
      steps_same [] [] ren there below = tt
      steps_same [] (x ∷ rs) ren there below = absurd ren
      steps_same (s ∷ ss) [] ren there below = absurd ren
      steps_same (s ∷ ss) (x ∷ rs) ren there below =
          let long : length (vectors_below es m) ≡ length (take m es) = length-map (take m es) (λ (y : BasisEntry). y.vector) in
          let most : length (take m es) ≤ m = take_most es m in
          let lt : s.by < m = omega (arith, there.0, long, most) in
          let within : x.by < length before = below x.by s.by ren.0.by lt in
          let count : length (vectors_in before) ≡ length before = length-map before (λ (y : EntryData). y.vector) in (
            record {
              q = ren.0.q;
              t = ren.0.t;
              there = omega (arith, within, count);
              vector = kept_vector x.by s.by ren.0.by within lt;
            },
            steps_same ss rs ren.1 there.1 below,
          )

    -- ---- entries

    kept_next : (before more : List EntryData) (parts : t.entries ≡ before ++ more) (k : ℕ) (a c : Recipe) (g : Coefficients) → length (vectors_below es k) ≡ k
        → ((i j : ℕ) → slice_get kept i ≡ Some j → j < k → i < length before)
        → IsRecipeRenamed kept a c → IsInTurn gens (vectors_below es k) (made_by a) → IsMadeOf gens (vectors_below es k) (made_by a) g
        → IsInTurnAt gens (vectors_in before) k (made_by c) × IsMadeAt gens (vectors_in before) k (made_by c) g
    kept_next before more parts k (Gen number negated) c g long below ren turn is =
        subst (λ (x : Recipe). IsInTurnAt gens (vectors_in before) k (made_by x) × IsMadeAt gens (vectors_in before) k (made_by x) g) (sym ren)
        (omega (arith, turn, long), λ x. is x ∙ ap (λ i. signed negated (vector_at gens i) x) long)
    kept_next before more parts k (Sum ss) c g long below ren turn is =
        let same = steps_same before more parts k ss ren.0 ren.2 is.0 below in
        subst (λ (x : Recipe). IsInTurnAt gens (vectors_in before) k (made_by x) × IsMadeAt gens (vectors_in before) k (made_by x) g) (sym ren.1) (
          (omega (arith, turn.0, long), same_near (vectors_below es k) (vectors_in before) ss ren.0 same is.0 turn.1),
          same_steps (vectors_below es k) (vectors_in before) Add zero_vector g ss ren.0 same is,
        )

    -- those with lower numbers stand before
    rising_below : (j k : ℕ) → slice_get kept j ≡ Some k → (i x : ℕ) → slice_get kept i ≡ Some x → x < k → i < j
    rising_below j k at i x here lt = by (nat_lt i j) refl (nat_lt j i) refl
      where
        by : (b : Bool) → nat_lt i j ≡ b → (c : Bool) → nat_lt j i ≡ c → i < j
        by true e c f = grind arith
        by false e true f = let over : k < x = trims.rising j i k x (grind arith) at here in absurd (omega (arith, over, lt))
        by false e false f =
            let one : j ≤ i = grind arith in
            let two : i ≤ j = grind arith in
            let same : i ≡ j = omega (arith, one, two) in
            let equal : x ≡ k = some_same (sym here ∙ (ap (slice_get kept) same ∙ at)) in
            absurd (omega (arith, equal, lt))

    next_kept : (before more : List EntryData) (f : EntryData) (k : ℕ) → t.entries ≡ before ++ f ∷ more → slice_get t.from (length before) ≡ Some k
        → IsNextKept gens before f k
    next_kept before more f k parts place =
        let at : slice_get kept (length before) ≡ Some k = number_kept (length before) k place in
        let own_entry : slice_get t.entries (length before) ≡ Some f = subst (λ xs. slice_get xs (length before) ≡ Some f) (sym parts) (seam before f more) in
        let is : IsFrom (length before) f = from_entry (length before) f own_entry in
        let same : is.k ≡ k = some_same (sym is.at ∙ at) in
        let has : slice_get es k ≡ Some is.e = subst (λ i. slice_get es i ≡ Some is.e) same is.is in
        let within : k < length es = slice_get_within es k is.e has in
        let long : length (vectors_below es k) ≡ k = length-map (take k es) (λ (x : BasisEntry). x.vector) ∙ length_take es k (omega (arith, within)) in
        let next : IsNextEntry gens (vectors_below es k) is.e = next_by p gens pres es seal base known k is.e (nat_lt k base) refl within has in
        let both = kept_next before (f ∷ more) parts k is.e.recipe f.recipe (coefficient_at is.e.vector) long
        (λ i j here lt. rising_below (length before) k at i j here lt) is.recipe next.turn next.is in
        record {
          turn = both.0;
          is = subst (λ v. IsMadeAt gens (vectors_in before) k (made_by f.recipe) (coefficient_at v)) (sym is.vector) both.1;
        }
      where
        seam : (xs : List EntryData) (x : EntryData) (ys : List EntryData) → slice_get (xs ++ x ∷ ys) (length xs) ≡ Some x
        seam [] x ys = refl
        seam (y ∷ xs) x ys = seam xs x ys

    -- ---- replies

    few_below : (m : ℕ) → length (vectors_below es m) < 2 ^ 32
    few_below m =
        let long : length (vectors_below es m) ≡ length (take m es) = length-map (take m es) (λ (x : BasisEntry). x.vector) in
        let most : length (take m es) ≤ length es = taken_length es m in
        let few = known.few in
        omega (arith, long, most, few)

    proof_at : (m : ℕ) (ws : List (List Letter)) (proofs : List (List Step)) (j : ℕ) (ss : List Step) → AreShownBy (vectors_below es m) ws proofs
        → AllByRecursion (Fits (length p.names)) ws → slice_get proofs j ≡ Some ss
        → AreNear (vectors_below es m) ss × StepsLead Take (vectors_below es m) (fox_at (get_or ws j [])) ss zero_vector
    proof_at m [] [] j ss shown fit at = absurd cc
    proof_at m [] (x ∷ proofs) j ss shown fit at = absurd shown
    proof_at m (w ∷ ws) [] j ss shown fit at = absurd shown
    proof_at m (w ∷ ws) (x ∷ proofs) zero ss shown fit at =
        let own = is_proof p gens pres (vectors_below es m) (first_entries p gens pres es seal base known m) (first_over p gens pres es seal base known m)
        (few_below m) w x fit.0 shown.0 in
        subst (λ ys. AreNear (vectors_below es m) ys × StepsLead Take (vectors_below es m) (fox_at w) ys zero_vector) (some_same at) (own.near, own.leads)
    proof_at m (w ∷ ws) (x ∷ proofs) (suc j) ss shown fit at = proof_at m ws proofs j ss shown.1 fit.1 at

    reply_right : (i : ℕ) (x : ReplyData) → slice_get t.replies i ≡ Some x → IsRightReply gens t.from t.entries x
    reply_right i x at =
        let q = paired_first (IsReplyRenamed kept) (data_of h).replies t.replies i x trims.replies at in
        let all : AllByRecursion IsReplyOf (data_of h).replies =
        subst (λ xs. AllByRecursion IsReplyOf (flat_map (replies_at xs) (range_with_len 1 (item_count h.entries h.seal)) ++ closing_replies xs)) (sym said)
        (replies_of ts (range_with_len 1 (item_count h.entries h.seal)) told) in
        let old : IsReplyOf q.item = all_of IsReplyOf (data_of h).replies i q.item all q.is in
        let front : x.front ≡ q.item.front = q.related.front in
        let words : asked x.question x.verdict ≡ to_show q.item.question q.item.verdict =
        (λ k. asked (q.related.question k) (q.related.verdict k)) ∙ asked_is q.item.question q.item.verdict in
        let shown : AreShownBy (vectors_below es q.item.front) (to_show q.item.question q.item.verdict) q.item.proofs =
        shown_by (vectors_below es q.item.front) (to_show q.item.question q.item.verdict) q.item.proofs
        (yes_is_shown p (vectors_below es q.item.front) (seal_below es seal q.item.front) q.item.question q.item.verdict old.verdict) old.proofs in
        record {
          low = let count = known.generators in let enough = old.low in omega (arith, count, enough, front);
          images = subst HasImages (sym q.related.question) old.ask.1;
          proofs = λ j ss has before more parts below.
              let pair = paired_first (AreStepsRenamed kept) q.item.proofs x.proofs j ss q.related.proofs has in
              let own = proof_at q.item.front (to_show q.item.question q.item.verdict) q.item.proofs j pair.item shown
              (shown_fit p q.item.question q.item.verdict old.ask) pair.is in
              let same = steps_same before more parts q.item.front pair.item ss pair.related own.1.0
              (λ a k here lt. below a k (kept_number a k here) (omega (arith, front, lt))) in
              record {
                near = same_near (vectors_below es q.item.front) (vectors_in before) pair.item ss same own.1.0 own.0;
                leads = subst (λ ws. StepsLead Take (vectors_in before) (fox_at (get_or ws j [])) ss zero_vector) (sym words)
                    (same_steps (vectors_below es q.item.front) (vectors_in before) Take
                    (fox_at (get_or (to_show q.item.question q.item.verdict) j [])) zero_vector pair.item ss same own.1);
              };
        }

    pub trimming_right : AreRight gens t.from t.entries t.replies
    trimming_right = record { entries = next_kept; replies = reply_right }
