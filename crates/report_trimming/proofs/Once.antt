-- A report has one trimming.
use Rattle.std.proofs.Common.{◌≡◌, ℕ, zero, suc, ◌<◌, ◌≤◌, List, [], ◌∷◌, slice_get, Some, None, refl, sym, ap, subst, ◌∙◌, arith}
use Rattle.module_vec.specs.declared.steps.Step.{Step}
use Rattle.basis_entry.specs.declared.recipes.Recipe.{Recipe}
use Rattle.basis_entry.specs.declared.recipes.Recipe.TheVariants.{Gen, Sum}
use Rattle.report_reading.specs.declared.data.ReportData.{ReportData}
use Rattle.report_reading.specs.declared.entry.EntryData.{EntryData}
use Rattle.report_reading.specs.declared.replies.ReplyData.{ReplyData}
use Rattle.report_trimming.specs.Trimming.{Pairwise, IsRising, IsKept, IsStepRenamed, AreStepsRenamed, IsRecipeRenamed, IsEntryRenamed, IsReplyRenamed, IsKeptEntry}
use Rattle.report_trimming.specs.Trimming.{IsTrimming}
use Rattle.report_trimming.proofs.Marking.{some_same}
use Rattle.report_trimming.proofs.Again.{kept_once}

none_some : {X : Type 0} {x : X} → None ≡ Some x → ⊥
none_some e = cc

-- ---- one list of numbers rises through a set

tail_rises : (x : ℕ) (xs : List ℕ) → IsRising (x ∷ xs) → IsRising xs
tail_rises x xs h i j a b lt p q = h (suc i) (suc j) a b (omega (arith, lt)) p q

-- the first is the least
first_least : (x : ℕ) (xs : List ℕ) → IsRising (x ∷ xs) → (k : ℕ) → IsKept (x ∷ xs) k → x ≤ k
first_least x xs h k (zero, p) = let e = some_same p in omega (arith, e)
first_least x xs h k (suc i, p) = let l = h 0 (suc i) x k (omega arith) refl p in omega (arith, l)

behind_first : (x : ℕ) (xs : List ℕ) → IsRising (x ∷ xs) → (k : ℕ) → IsKept xs k → x < k
behind_first x xs h k m = h 0 (suc m.0) x k (omega arith) refl m.1

not_first : (y : ℕ) (ys : List ℕ) (k : ℕ) → y < k → IsKept (y ∷ ys) k → IsKept ys k
not_first y ys k lt (zero, p) = absurd (let e = some_same p in omega (arith, e, lt))
not_first y ys k lt (suc i, p) = (i, p)

pub kept_same : (xs ys : List ℕ) → IsRising xs → IsRising ys → ((k : ℕ) → IsKept xs k → IsKept ys k) → ((k : ℕ) → IsKept ys k → IsKept xs k) → xs ≡ ys
kept_same [] [] h k f g = refl
kept_same [] (y ∷ ys) h k f g = absurd (none_some (g y (0, refl)).1)
kept_same (x ∷ xs) [] h k f g = absurd (none_some (f x (0, refl)).1)
kept_same (x ∷ xs) (y ∷ ys) h k f g =
    let below = first_least x xs h y (g y (0, refl)) in
    let above = first_least y ys k x (f x (0, refl)) in
    let same : x ≡ y = omega (arith, below, above) in
    let rest : xs ≡ ys = kept_same xs ys (tail_rises x xs h) (tail_rises y ys k)
    (λ i m. (let lt = behind_first x xs h i m in not_first y ys i (omega (arith, lt, same)) (f i (suc m.0, m.1))))
    (λ i m. (let lt = behind_first y ys k i m in not_first x xs i (omega (arith, lt, same)) (g i (suc m.0, m.1)))) in
    λ i. same i ∷ rest i

-- ---- one list is related to a list

pair_one : {X Y : Type 0} (R : X → Y → Type 0) → ((x : X) (y z : Y) → R x y → R x z → y ≡ z) → (xs : List X) (ys zs : List Y) → Pairwise R xs ys
    → Pairwise R xs zs → ys ≡ zs
pair_one R one [] [] [] h k = refl
pair_one R one [] [] (z ∷ zs) h k = absurd k
pair_one R one [] (y ∷ ys) zs h k = absurd h
pair_one R one (x ∷ xs) [] zs h k = absurd h
pair_one R one (x ∷ xs) (y ∷ ys) [] h k = absurd k
pair_one R one (x ∷ xs) (y ∷ ys) (z ∷ zs) h k =
    let first : y ≡ z = one x y z h.0 k.0 in
    let rest : ys ≡ zs = pair_one R one xs ys zs h.1 k.1 in
    λ i. first i ∷ rest i

module _ (kept : List ℕ) (rising : IsRising kept) where
  one_step : (s t u : Step) → IsStepRenamed kept s t → IsStepRenamed kept s u → t ≡ u
  one_step s t u h k =
      let q : t.q ≡ u.q = h.q ∙ sym k.q in
      let m : t.t ≡ u.t = h.t ∙ sym k.t in
      let by : t.by ≡ u.by = kept_once kept rising t.by u.by s.by h.by k.by in
      λ i. record { q = q i; t = m i; by = by i }

  one_steps : (ss ts us : List Step) → AreStepsRenamed kept ss ts → AreStepsRenamed kept ss us → ts ≡ us
  one_steps ss ts us h k = pair_one (IsStepRenamed kept) one_step ss ts us h k

  one_recipe : (r s t : Recipe) → IsRecipeRenamed kept r s → IsRecipeRenamed kept r t → s ≡ t
  one_recipe (Gen number negated) s t h k = h ∙ sym k
  one_recipe (Sum steps) s t h k =
      let same : h.0 ≡ k.0 = one_steps steps h.0 k.0 h.2 k.2 in
      h.1 ∙ (ap (λ (ss : List Step). Sum ss) same ∙ sym k.1)

  one_entry : (e f g : EntryData) → IsEntryRenamed kept e f → IsEntryRenamed kept e g → f ≡ g
  one_entry e f g h k =
      let recipe : f.recipe ≡ g.recipe = one_recipe e.recipe f.recipe g.recipe h.recipe k.recipe in
      let vector : f.vector ≡ g.vector = h.vector ∙ sym k.vector in
      λ i. record { recipe = recipe i; vector = vector i }

  one_kept : (es : List EntryData) (n : ℕ) (f g : EntryData) → IsKeptEntry es kept n f → IsKeptEntry es kept n g → f ≡ g
  one_kept es n f g h k =
      let same : h.entry ≡ k.entry = some_same (sym h.is ∙ k.is) in
      one_entry k.entry f g (subst (λ (e : EntryData). IsEntryRenamed kept e f) same h.renamed) k.renamed

  one_reply : (r s t : ReplyData) → IsReplyRenamed kept r s → IsReplyRenamed kept r t → s ≡ t
  one_reply r s t h k =
      let session : s.session ≡ t.session = h.session ∙ sym k.session in
      let question : s.question ≡ t.question = h.question ∙ sym k.question in
      let live : s.live ≡ t.live = h.live ∙ sym k.live in
      let front : s.front ≡ t.front = h.front ∙ sym k.front in
      let verdict : s.verdict ≡ t.verdict = h.verdict ∙ sym k.verdict in
      let proofs : s.proofs ≡ t.proofs = pair_one (AreStepsRenamed kept) one_steps r.proofs s.proofs t.proofs h.proofs k.proofs in
      λ i. record { session = session i; question = question i; live = live i; front = front i; verdict = verdict i; proofs = proofs i }

one_number : (fs : List ℕ) (k x y : ℕ) → slice_get fs k ≡ Some x → slice_get fs k ≡ Some y → x ≡ y
one_number fs k x y h j = some_same (sym h ∙ j)

pub one_trimming : (d t u : ReportData) → IsTrimming d t → IsTrimming d u → t ≡ u
one_trimming d t u h k =
    let kept : h.kept ≡ k.kept = kept_same h.kept k.kept h.rising k.rising (λ i m. (k.used i).1 ((h.used i).0 m)) (λ i m. (h.used i).1 ((k.used i).0 m)) in
    let version : t.version ≡ u.version = h.version ∙ sym k.version in
    let items : t.items ≡ u.items = h.items ∙ sym k.items in
    let end : t.end ≡ u.end = h.end ∙ sym k.end in
    let from : t.from ≡ u.from =
    pair_one (λ n f. slice_get d.from n ≡ Some f) (one_number d.from) k.kept t.from u.from
    (subst (λ ks. Pairwise (λ n f. slice_get d.from n ≡ Some f) ks t.from) kept h.from) k.from in
    let entries : t.entries ≡ u.entries =
    pair_one (IsKeptEntry d.entries k.kept) (one_kept k.kept k.rising d.entries) k.kept t.entries u.entries
    (subst (λ ks. Pairwise (IsKeptEntry d.entries ks) ks t.entries) kept h.entries) k.entries in
    let replies : t.replies ≡ u.replies =
    pair_one (IsReplyRenamed k.kept) (one_reply k.kept k.rising) d.replies t.replies u.replies
    (subst (λ ks. Pairwise (IsReplyRenamed ks) d.replies t.replies) kept h.replies) k.replies in
    λ i. record { version = version i; items = items i; from = from i; entries = entries i; replies = replies i; end = end i }
