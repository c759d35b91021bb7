-- What the chain rule closes, third entry by third entry.
use Rattle.std.proofs.Common.{ℕ, ◌+◌, ◌<◌, ◌≤◌, ◌≡◌, ◌≢◌, ◌⊎◌, inl, inr, arith, refl, sym, ap, ◌∙◌, List, length, Bool, true, false, cond, subst}
use Rattle.std.proofs.lemmas.List.{length-map}
use Rattle.std.proofs.lemmas.Bool.{eqb-true}
use Rattle.std.specs.Prelude.{nat_eq, not, nat_lt, ◌↔◌}
use Rattle.outcomes.specs.declared.kinds.PairKind.TheVariants.{S}
use Rattle.outcomes.specs.declared.tasks.Task.{Task}
use Rattle.module_vec.specs.declared.places.Term.{Term}
use Rattle.chain_rule.specs.ClosedPairs.{IsAmong, IsClosedPair, AreClosedPairs}
use Rattle.chain_rule.proofs.Selected.{selected, where_all}
use Rattle.strong_pairs.specs.Pairs.{IsPair, lead_at}
use Rattle.strong_pairs.specs.Tasks.{IsClosed}
use Rattle.task_table.specs.declared.states.TaskState.{TaskState}
use Rattle.task_table.specs.declared.states.TaskState.TheVariants.{Open, Taken, Hard, Closed, Never}
use Rattle.task_table.specs.Tasks.{IsTask, is_closed_later, is_unclosed, is_never}
use Rattle.task_table.specs.Tables.{Table, IsTable, state_of, put}
use Rattle.task_table.proofs.Ordering.{three}
use Rattle.task_table.proofs.Putting.{put_same}
use Rattle.task_table.specs.Rows.{settled_of}
use Rattle.basis_entry.specs.Entries.{BasisEntry, vectors_of}
use Rattle.pair_book.specs.Settled.{settled_by}
use Rattle.pair_book.specs.Books.{Held, IsBook, with_state}
use Rattle.pair_book.specs.Chaining.{is_waiting, s_task, is_shut, shut_pairs, IsDueBy, IsDueFrom, AreChainedFrom, ChainsWith, ChainsAt, closed_if}
use Rattle.pair_book.proofs.Keeping.{put_read, table_put, book_put}

lt_true : (a b : ℕ) → a < b → nat_lt a b ≡ true
lt_true a b h = grind arith

lt_false : (a b : ℕ) → b ≤ a → nat_lt a b ≡ false
lt_false a b h = grind arith

pub rising : (a b : ℕ) → a < b → s_task a b ≡ record { i = a; j = b; kind = S }
rising a b h = ap (λ (x : Bool). cond x (record { i = a; j = b; kind = S }) (record { i = b; j = a; kind = S })) (lt_true a b h)

pub falling : (a b : ℕ) → b < a → s_task a b ≡ record { i = b; j = a; kind = S }
falling a b h = ap (λ (x : Bool). cond x (record { i = a; j = b; kind = S }) (record { i = b; j = a; kind = S })) (lt_false a b (omega (arith, h)))

pub cases : (a b : ℕ) → a ≢ b → ((a < b) × (s_task a b ≡ record { i = a; j = b; kind = S })) ⊎ ((b < a) × (s_task a b ≡ record { i = b; j = a; kind = S }))
cases a b ne = elim (three a b) [ inl p ↦ inl (p, rising a b p) | inr q ↦ elim q [ inl e ↦ absurd (ne e) | inr p ↦ inr (p, falling a b p) ] ]

pub is_task : (a b n : ℕ) → a ≢ b → a < n → b < n → IsTask n (s_task a b)
is_task a b n ne p q = elim (cases a b ne) [ inl x ↦ subst (IsTask n) (sym x.1) (x.0, q) | inr x ↦ subst (IsTask n) (sym x.1) (x.0, p) ]

pub same_tasks : (a x c y : ℕ) → a ≢ x → c ≢ y → s_task a x ≡ s_task c y → ((a ≡ c) × (x ≡ y)) ⊎ ((a ≡ y) × (x ≡ c))
same_tasks a x c y p q e = elim (cases a x p) [
  | inl u ↦ elim (cases c y q) [
    | inl v ↦ let t = sym u.1 ∙ (e ∙ v.1) in inl (ap (λ (z : Task). z.i) t, ap (λ (z : Task). z.j) t)
    | inr v ↦ let t = sym u.1 ∙ (e ∙ v.1) in inr (ap (λ (z : Task). z.i) t, ap (λ (z : Task). z.j) t)
  ]
  | inr u ↦ elim (cases c y q) [
    | inl v ↦ let t = sym u.1 ∙ (e ∙ v.1) in inr (ap (λ (z : Task). z.j) t, ap (λ (z : Task). z.i) t)
    | inr v ↦ let t = sym u.1 ∙ (e ∙ v.1) in inl (ap (λ (z : Task). z.j) t, ap (λ (z : Task). z.i) t)
  ]
]

pub turn : (a b : ℕ) → a ≢ b → s_task a b ≡ s_task b a
turn a b ne = elim (cases a b ne) [ inl u ↦ u.1 ∙ sym (falling b a u.0) | inr u ↦ u.1 ∙ sym (rising b a u.0) ]

-- ---- closed pairs

pub among_is : (es : List BasisEntry) (tasks : Table) (i j : ℕ) → IsAmong (shut_pairs es tasks) i j
    ↔ (IsTask (length es) (s_task i j) × (is_closed_later (state_of tasks (s_task i j)) ≡ true))
among_is es tasks i j = (forth, back) where
  Both : Task → Type 0
  Both t = IsTask (length es) t × (is_closed_later (state_of tasks t) ≡ true)

  forth : IsAmong (shut_pairs es tasks) i j → Both (s_task i j)
  forth (inl h) = let s = (selected (is_shut tasks) (length es) i j).0 h in subst Both (sym (rising i j s.0)) ((s.0, s.1), s.2)
  forth (inr h) = let s = (selected (is_shut tasks) (length es) j i).0 h in subst Both (sym (falling i j s.0)) ((s.0, s.1), s.2)

  some : (i ≡ j) → Both (s_task i j) → ⊥
  some e h =
      let t : s_task i j ≡ record { i = j; j = i; kind = S } = ap (λ (x : Bool). cond x (record { i = i; j = j; kind = S }) (record { i = j; j = i; kind = S }))
      (lt_false i j (omega (arith, e))) in
      let k = subst Both t h in let o = k.0.0 in omega (arith, o, e)

  back : Both (s_task i j) → IsAmong (shut_pairs es tasks) i j
  back h = elim (three i j) [
    | inl p ↦ let k = subst Both (rising i j p) h in inl ((selected (is_shut tasks) (length es) i j).1 (k.0.0, k.0.1, k.1))
    | inr q ↦ elim q [
      | inl e ↦ absurd (some e h)
      | inr p ↦ let k = subst Both (falling i j p) h in inr ((selected (is_shut tasks) (length es) j i).1 (k.0.0, k.0.1, k.1))
    ]
  ]

closed_later_shut : (s : TaskState) → is_closed_later s ≡ true → (is_unclosed s ≡ false) × (is_never s ≡ false)
closed_later_shut Open e = absurd (cc)
closed_later_shut Taken e = absurd (cc)
closed_later_shut Hard e = absurd (cc)
closed_later_shut Closed e = (refl, refl)
closed_later_shut Never e = absurd (cc)

components : (b : List (List Term)) (t : Task) → t.kind ≡ S → settled_of t.kind (settled_by (lead_at b t.i) (lead_at b t.j)) ≡ false
    → (lead_at b t.i).at.c ≡ (lead_at b t.j).at.c
components b t s e =
    let m = (lead_at b t.i).at.c in let n = (lead_at b t.j).at.c in
    not_not m n (nat_eq m n) refl (sym (ap (λ k. settled_of k (settled_by (lead_at b t.i) (lead_at b t.j))) s) ∙ e)
  where
    not_not : (m n : ℕ) (x : Bool) → nat_eq m n ≡ x → not (nat_eq m n) ≡ false → m ≡ n
    not_not m n true p q = eqb-true m n p
    not_not m n false p q = absurd (let r : true ≡ false = sym (ap not p) ∙ q in cc)

unsettled_pair : (h : Held) → IsBook h → (t : Task) → IsTask (length h.entries) t → t.kind ≡ S → is_never (state_of h.tasks t) ≡ false
    → IsPair (vectors_of h.entries) t.i t.j
unsettled_pair h b t k s never =
    let long = length-map h.entries (λ (e : BasisEntry). e.vector) in
    let w = k.1 in
    record { order = k.0; within = omega (arith, w, long); component = components (vectors_of h.entries) t s (sym (b.settled t k) ∙ never) }

pub closed_pairs : (h : Held) → IsBook h → AreClosedPairs (vectors_of h.entries) (shut_pairs h.entries h.tasks)
closed_pairs h b = where_all (is_shut h.tasks) (λ p. IsClosedPair (vectors_of h.entries) p.0 p.1) (length h.entries) (λ i j o w e.
    let t : Task = record { i = i; j = j; kind = S } in
    let c = closed_later_shut (state_of h.tasks t) e in
    let pair = unsettled_pair h b t (o, w) refl c.1 in
    (pair, b.truly t (o, w) c.0 pair))

waits_unclosed : (s : TaskState) → is_waiting s ≡ true → is_unclosed s ≡ true
waits_unclosed Open e = refl
waits_unclosed Hard e = refl
waits_unclosed Taken e = cc
waits_unclosed Closed e = cc
waits_unclosed Never e = cc

-- a waiting task that is truly closed is closed
pub book_waiting : (h : Held) (t : Task) → IsBook h → IsTask (length h.entries) t → is_waiting (state_of h.tasks t) ≡ true
    → IsClosed (vectors_of h.entries) t.kind t.i t.j → IsBook (with_state h t Closed)
book_waiting h t b k w shown = book_put h t Closed h.commits b k (waits_unclosed (state_of h.tasks t) w) refl (λ _ _. shown) (omega arith)

-- ---- one third entry

apart : (a b x : ℕ) → a ≢ b → x ≢ a → x ≢ b → s_task b x ≡ s_task a x → ⊥
apart a b x ab xa xb e = elim (same_tasks b x a x (λ z. xb (sym z)) (λ z. xa (sym z)) e) [ inl s ↦ ab (sym s.0) | inr s ↦ xb (sym s.0) ]

task_count : (h : Held) (t : Task) → IsBook h → IsTask (length h.entries) t → IsTask h.tasks.count t
task_count h t b k = let n = b.count in let z = k.1 in (k.0, omega (arith, n, z))

other_if : (h : Held) (due : Bool) (t u : Task) → IsTable h.tasks → IsTask h.tasks.count t → IsTask h.tasks.count u → (u ≡ t → ⊥)
    → state_of (closed_if due h t).tasks u ≡ state_of h.tasks u
other_if h false t u b k m ne = refl
other_if h true t u b k m ne = elim (put_read h.tasks t u Closed b k m) [ inl e ↦ e | inr e ↦ absurd (ne e.0) ]

pub waiting_still : (h : Held) (due : Bool) (a b x : ℕ) → IsBook h → a < length h.entries → b < length h.entries → x < length h.entries → a ≢ b
    → x ≢ a → x ≢ b →
    is_waiting (state_of h.tasks (s_task b x)) ≡ true → is_waiting (state_of (closed_if due h (s_task a x)).tasks (s_task b x)) ≡ true
waiting_still h due a b x book p q r ab xa xb w =
    let t = is_task a x (length h.entries) (λ z. xa (sym z)) p r in
    let u = is_task b x (length h.entries) (λ z. xb (sym z)) q r in
    ap is_waiting (other_if h due (s_task a x) (s_task b x) book.table (task_count h (s_task a x) book t) (task_count h (s_task b x) book u)
    (apart a b x ab xa xb)) ∙ w

table_if : (h : Held) (due : Bool) (t : Task) → IsTable h.tasks → IsTable (closed_if due h t).tasks
table_if h false t b = b
table_if h true t b = table_put h.tasks t Closed b

count_if : (h : Held) (due : Bool) (t : Task) → (closed_if due h t).tasks.count ≡ h.tasks.count
count_if h false t = refl
count_if h true t = refl

read_if : (h : Held) (due : Bool) (t u : Task) → IsTable h.tasks → IsTask h.tasks.count t → IsTask h.tasks.count u →
    (state_of (closed_if due h t).tasks u ≡ state_of h.tasks u) ⊎ ((due ≡ true) × (u ≡ t) × (state_of (closed_if due h t).tasks u ≡ Closed))
read_if h false t u b k m = inl refl
read_if h true t u b k m = elim (put_read h.tasks t u Closed b k m) [ inl e ↦ inl e | inr e ↦ inr (refl, e.0, e.1) ]

hit_if : (h : Held) (due : Bool) (t : Task) → IsTable h.tasks → IsTask h.tasks.count t → due ≡ true → state_of (closed_if due h t).tasks t ≡ Closed
hit_if h false t b k e = absurd (cc)
hit_if h true t b k e = put_same h.tasks t Closed b k

-- only states differ
states_if : (mid h : Held) (due : Bool) (t : Task) → h ≡ record mid { tasks = record mid.tasks { states = h.tasks.states } }
    → closed_if due h t ≡ record mid { tasks = record mid.tasks { states = (closed_if due h t).tasks.states } }
states_if mid h false t p = p
states_if mid h true t p = ap (λ (z : Held). record z { tasks = record z.tasks { states = (put h.tasks t Closed).states } }) p

among_carry : (es : List BasisEntry) (T U : Table) (k l : ℕ) → state_of T (s_task k l) ≡ state_of U (s_task k l) → IsAmong (shut_pairs es T) k l
    → IsAmong (shut_pairs es U) k l
among_carry es T U k l e h = let b = (among_is es T k l).0 h in (among_is es U k l).1 (b.0, sym (ap is_closed_later e) ∙ b.1)

turned_state : (T U : Table) (k l : ℕ) → k ≢ l → state_of T (s_task k l) ≡ state_of U (s_task k l) → state_of T (s_task l k) ≡ state_of U (s_task l k)
turned_state T U k l ne e = subst (λ (t : Task). state_of T t ≡ state_of U t) (turn k l ne) e

-- whether a task is due turns on three states alone
due_carry : (h : Held) (T U : Table) (a x b : ℕ) → a ≢ x → a ≢ b → x ≢ b → state_of T (s_task a x) ≡ state_of U (s_task a x)
    → state_of T (s_task a b) ≡ state_of U (s_task a b) → state_of T (s_task x b) ≡ state_of U (s_task x b) →
    IsDueBy (record h { tasks = T }) a x b → IsDueBy (record h { tasks = U }) a x b
due_carry h T U a x b ax ab xb e f g d =
    let P = shut_pairs h.entries T in let Q = shut_pairs h.entries U in
    let both : IsAmong Q (s_task a x).i b × IsAmong Q b (s_task a x).j = elim (cases a x ax) [
      | inl u ↦ (
        subst (λ (z : Task). IsAmong Q z.i b) (sym u.1) (among_carry h.entries T U a b f (subst (λ (z : Task). IsAmong P z.i b) u.1 d.chained.with_first)),
        subst (λ (z : Task). IsAmong Q b z.j) (sym u.1) (among_carry h.entries T U b x (turned_state T U x b xb g)
            (subst (λ (z : Task). IsAmong P b z.j) u.1 d.chained.with_second)),
      )
      | inr u ↦ (
        subst (λ (z : Task). IsAmong Q z.i b) (sym u.1) (among_carry h.entries T U x b g (subst (λ (z : Task). IsAmong P z.i b) u.1 d.chained.with_first)),
        subst (λ (z : Task). IsAmong Q b z.j) (sym u.1) (among_carry h.entries T U b a (turned_state T U a b ab f)
            (subst (λ (z : Task). IsAmong P b z.j) u.1 d.chained.with_second)),
      )
    ] in
    record {
      waiting = sym (ap is_waiting e) ∙ d.waiting;
      pair = d.pair;
      chained = record {
        number = d.chained.number;
        not_first = d.chained.not_first;
        not_second = d.chained.not_second;
        leads = d.chained.leads;
        with_first = both.0;
        with_second = both.1;
      };
    }

-- ---- third entries one after another, from the last one down

-- no task of an earlier third entry is due yet, nor is that of a and b
earlier_not_due : (n : ℕ) (mid : Held) (a b x : ℕ) → a ≢ b → x ≢ a → x ≢ b → x < n → (IsDueFrom n mid a b (s_task a x) → ⊥)
    × (IsDueFrom n mid a b (s_task b x) → ⊥) × (IsDueFrom n mid a b (s_task a b) → ⊥)
earlier_not_due n mid a b x ab xa xb le = (
  (λ d. elim d.either [
    | inl z ↦ elim (same_tasks a x a d.third (λ y. xa (sym y)) (λ y. d.not_first (sym y)) z.0) [
      | inl s ↦ let w = d.from in let q = s.1
          in omega (arith, w, q, le)
      | inr s ↦ d.not_first (sym s.0)
    ]
    | inr z ↦ elim (same_tasks a x b d.third (λ y. xa (sym y)) (λ y. d.not_second (sym y)) z.0) [ inl s ↦ ab s.0 | inr s ↦ xb s.1 ]
  ]),
  (λ d. elim d.either [
    | inl z ↦ elim (same_tasks b x a d.third (λ y. xb (sym y)) (λ y. d.not_first (sym y)) z.0) [ inl s ↦ ab (sym s.0) | inr s ↦ d.not_second (sym s.0) ]
    | inr z ↦ elim (same_tasks b x b d.third (λ y. xb (sym y)) (λ y. d.not_second (sym y)) z.0) [
      | inl s ↦ let w = d.from in let q = s.1
          in omega (arith, w, q, le)
      | inr s ↦ d.not_second (sym s.0)
    ]
  ]),
  (λ d. elim d.either [
    | inl z ↦ elim (same_tasks a b a d.third ab (λ y. d.not_first (sym y)) z.0) [ inl s ↦ d.not_second (sym s.1) | inr s ↦ d.not_first (sym s.0) ]
    | inr z ↦ elim (same_tasks a b b d.third ab (λ y. d.not_second (sym y)) z.0) [ inl s ↦ ab s.0 | inr s ↦ d.not_first (sym s.0) ]
  ]),
)

due_more : (n : ℕ) (mid : Held) (a b : ℕ) (u : Task) → IsDueFrom (n + 1) mid a b u → IsDueFrom n mid a b u
due_more n mid a b u d = record {
  third = d.third;
  from = let w = d.from in omega (arith, w);
  not_first = d.not_first;
  not_second = d.not_second;
  either = d.either;
}

due_less : (x : ℕ) (mid : Held) (a b : ℕ) (u : Task) → (x ≡ a) ⊎ (x ≡ b) → IsDueFrom x mid a b u → IsDueFrom (x + 1) mid a b u
due_less x mid a b u e d = record {
  third = d.third;
  from = elim (three d.third x) [
    | inl p ↦ let w = d.from
        in absurd (omega (arith, p, w))
    | inr q ↦ elim q [
      | inl s ↦ elim e [ inl z ↦ absurd (d.not_first (s ∙ z)) | inr z ↦ absurd (d.not_second (s ∙ z)) ]
      | inr p ↦
          omega (arith, p)
    ]
  ];
  not_first = d.not_first;
  not_second = d.not_second;
  either = d.either;
}

chain_skip : (x : ℕ) (mid cur : Held) (a b : ℕ) → (x ≡ a) ⊎ (x ≡ b) → AreChainedFrom (x + 1) mid a b cur → AreChainedFrom x mid a b cur
chain_skip x mid cur a b e c = record {
  rest = c.rest;
  closed = λ u k d. c.closed u k (due_less x mid a b u e d);
  same = λ u k d. c.same u k (λ z. d (due_more x mid a b u z));
}

pub entries_same : (n : ℕ) (mid cur : Held) (a b : ℕ) → AreChainedFrom n mid a b cur → cur.entries ≡ mid.entries
entries_same n mid cur a b c = ap (λ (h : Held). h.entries) c.rest

chain_third : (x : ℕ) (mid cur new : Held) (a b : ℕ) → IsBook cur → a ≢ b → x ≢ a → x ≢ b → a < length mid.entries → b < length mid.entries
    → x < length mid.entries → AreChainedFrom (x + 1) mid a b cur → ChainsWith cur a b x new → AreChainedFrom x mid a b new
chain_third x mid cur new a b book ab xa xb la lb lx c w = subst (AreChainedFrom x mid a b) (sym w.is) made where
  ua : Task
  ua = s_task a x

  ub : Task
  ub = s_task b x

  one : Held
  one = closed_if w.first cur ua

  two : Held
  two = closed_if w.second one ub

  ka : IsTask (length mid.entries) ua
  ka = is_task a x (length mid.entries) (λ z. xa (sym z)) la lx

  kb : IsTask (length mid.entries) ub
  kb = is_task b x (length mid.entries) (λ z. xb (sym z)) lb lx

  kab : IsTask (length mid.entries) (s_task a b)
  kab = is_task a b (length mid.entries) ab la lb

  as_mid : cur ≡ record mid { tasks = cur.tasks }
  as_mid = c.rest ∙ ap (λ (t : Table). record mid { tasks = t }) (sym (ap (λ (h : Held). h.tasks) c.rest))

  in_cur : (u : Task) → IsTask (length mid.entries) u → IsTask cur.tasks.count u
  in_cur u k = let e = ap length (entries_same (x + 1) mid cur a b c) in let n = book.count in let z = k.1 in (k.0, omega (arith, e, n, z))

  in_one : (u : Task) → IsTask (length mid.entries) u → IsTask one.tasks.count u
  in_one u k = let m = in_cur u k in let n = count_if cur w.first ua in let z = m.1 in (m.0, omega (arith, n, z))

  none : (IsDueFrom (x + 1) mid a b ua → ⊥) × (IsDueFrom (x + 1) mid a b ub → ⊥) × (IsDueFrom (x + 1) mid a b (s_task a b) → ⊥)
  none = earlier_not_due (x + 1) mid a b x ab xa xb (omega arith)

  sa : state_of cur.tasks ua ≡ state_of mid.tasks ua
  sa = c.same ua ka none.0

  sb : state_of cur.tasks ub ≡ state_of mid.tasks ub
  sb = c.same ub kb none.1

  sab : state_of cur.tasks (s_task a b) ≡ state_of mid.tasks (s_task a b)
  sab = c.same (s_task a b) kab none.2

  sxb : state_of cur.tasks (s_task x b) ≡ state_of mid.tasks (s_task x b)
  sxb = turned_state cur.tasks mid.tasks b x (λ z. xb (sym z)) sb

  sxa : state_of cur.tasks (s_task x a) ≡ state_of mid.tasks (s_task x a)
  sxa = turned_state cur.tasks mid.tasks a x (λ z. xa (sym z)) sa

  sba : state_of cur.tasks (s_task b a) ≡ state_of mid.tasks (s_task b a)
  sba = turned_state cur.tasks mid.tasks a b ab sab

  first_to : IsDueBy mid a x b → w.first ≡ true
  first_to d = w.first_is.1 (subst (λ (h : Held). IsDueBy h a x b) (sym as_mid)
      (due_carry mid mid.tasks cur.tasks a x b (λ z. xa (sym z)) ab xb (sym sa) (sym sab) (sym sxb) d))

  first_from : w.first ≡ true → IsDueBy mid a x b
  first_from e = due_carry mid cur.tasks mid.tasks a x b (λ z. xa (sym z)) ab xb sa sab sxb (subst (λ (h : Held). IsDueBy h a x b) as_mid (w.first_is.0 e))

  second_to : IsDueBy mid b x a → w.second ≡ true
  second_to d = w.second_is.1 (subst (λ (h : Held). IsDueBy h b x a) (sym as_mid)
      (due_carry mid mid.tasks cur.tasks b x a (λ z. xb (sym z)) (λ z. ab (sym z)) xa (sym sb) (sym sba) (sym sxa) d))

  second_from : w.second ≡ true → IsDueBy mid b x a
  second_from e = due_carry mid cur.tasks mid.tasks b x a (λ z. xb (sym z)) (λ z. ab (sym z)) xa sb sba sxa
      (subst (λ (h : Held). IsDueBy h b x a) as_mid (w.second_is.0 e))

  -- what is closed stays so
  keep_one : (u : Task) → IsTask (length mid.entries) u → state_of cur.tasks u ≡ Closed → state_of one.tasks u ≡ Closed
  keep_one u k e = elim (read_if cur w.first ua u book.table (in_cur ua ka) (in_cur u k)) [ inl s ↦ s ∙ e | inr s ↦ s.2 ]

  keep_two : (u : Task) → IsTask (length mid.entries) u → state_of one.tasks u ≡ Closed → state_of two.tasks u ≡ Closed
  keep_two u k e = elim (read_if one w.second ub u (table_if cur w.first ua book.table) (in_one ub kb) (in_one u k)) [ inl s ↦ s ∙ e | inr s ↦ s.2 ]

  at_third : (u : Task) → IsTask (length mid.entries) u → ((u ≡ s_task a x) × IsDueBy mid a x b) ⊎ ((u ≡ s_task b x) × IsDueBy mid b x a)
      → state_of two.tasks u ≡ Closed
  at_third u k (inl z) = keep_two u k (ap (state_of one.tasks) z.0 ∙ hit_if cur w.first ua book.table (in_cur ua ka) (first_to z.1))
  at_third u k (inr z) = ap (state_of two.tasks) z.0 ∙ hit_if one w.second ub (table_if cur w.first ua book.table) (in_one ub kb) (second_to z.1)

  closes : (u : Task) → IsTask (length mid.entries) u → IsDueFrom x mid a b u → state_of two.tasks u ≡ Closed
  closes u k d = elim (three d.third x) [
    | inl p ↦ let z = d.from in absurd (omega (arith, p, z))
    | inr q ↦ elim q [
      | inl e ↦ at_third u k (subst (λ (y : ℕ). ((u ≡ s_task a y) × IsDueBy mid a y b) ⊎ ((u ≡ s_task b y) × IsDueBy mid b y a)) e d.either)
      | inr p ↦ keep_two u k (keep_one u k (c.closed u k (record {
        third = d.third;
        from = omega (arith, p);
        not_first = d.not_first;
        not_second = d.not_second;
        either = d.either;
      })))
    ]
  ]

  due_here : (u : Task) → ((u ≡ s_task a x) × IsDueBy mid a x b) ⊎ ((u ≡ s_task b x) × IsDueBy mid b x a) → IsDueFrom x mid a b u
  due_here u e = record { third = x; from = omega arith; not_first = xa; not_second = xb; either = e }

  stays : (u : Task) → IsTask (length mid.entries) u → (IsDueFrom x mid a b u → ⊥) → state_of two.tasks u ≡ state_of mid.tasks u
  stays u k d =
      let before = c.same u k (λ z. d (due_more x mid a b u z)) in
      let after : state_of one.tasks u ≡ state_of cur.tasks u = elim (read_if cur w.first ua u book.table (in_cur ua ka) (in_cur u k))
      [ inl s ↦ s | inr s ↦ absurd (d (due_here u (inl (s.1, first_from s.0)))) ] in
      let last : state_of two.tasks u ≡ state_of one.tasks u = elim (read_if one w.second ub u (table_if cur w.first ua book.table) (in_one ub kb) (in_one u k))
      [ inl s ↦ s | inr s ↦ absurd (d (due_here u (inr (s.1, second_from s.0)))) ] in
      last ∙ (after ∙ before)

  made : AreChainedFrom x mid a b two
  made = record { rest = states_if mid one w.second ub (states_if mid cur w.first ua c.rest); closed = closes; same = stays }

-- one more third entry
pub chain_step : (x : ℕ) (mid cur new : Held) (a b : ℕ) → IsBook cur → a ≢ b → a < length mid.entries → b < length mid.entries → x < length mid.entries
    → AreChainedFrom (x + 1) mid a b cur → ChainsAt cur a b x new → AreChainedFrom x mid a b new
chain_step x mid cur new a b book ab la lb lx c (inl h) = subst (AreChainedFrom x mid a b) (sym h.1) (chain_skip x mid cur a b h.0 c)
chain_step x mid cur new a b book ab la lb lx c (inr h) = chain_third x mid cur new a b book ab h.0 h.1 la lb lx c h.2
