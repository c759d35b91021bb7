-- A trimmed report is its own trimming.
use Rattle.std.proofs.Common.{◌≡◌, ◌⊎◌, ◌↔◌, inl, inr, ℕ, zero, suc, ◌+◌, ◌<◌, List, [], ◌∷◌, length, slice_get, Some, None, refl, sym, ap, subst, ◌∙◌, arith}
use Rattle.module_vec.specs.declared.steps.Step.{Step}
use Rattle.basis_entry.specs.declared.recipes.Recipe.{Recipe}
use Rattle.basis_entry.specs.declared.recipes.Recipe.TheVariants.{Gen, Sum}
use Rattle.report_reading.specs.declared.data.ReportData.{ReportData}
use Rattle.report_reading.specs.declared.entry.EntryData.{EntryData}
use Rattle.report_reading.specs.declared.replies.ReplyData.{ReplyData}
use Rattle.report_trimming.specs.Used.{Name, NamedInProof, steps_in, IsNeeded, IsUsed}
use Rattle.report_trimming.specs.Trimming.{Pairwise, IsRising, IsKept, IsStepRenamed, AreStepsRenamed, IsRecipeRenamed, IsReplyRenamed, IsKeptEntry}
use Rattle.report_trimming.specs.Trimming.{IsTrimming}
use Rattle.report_trimming.proofs.Marking.{some_same, within, needed}
use Rattle.report_trimming.proofs.Pairing.{paired_first}

none_some : {X : Type 0} {x : X} → None ≡ Some x → ⊥
none_some e = cc

-- ---- pairs

record Second {X Y : Type 0} (R : X → Y → Type 0) (x : X) (ys : List Y) (i : ℕ) : Type 0 where
  item : Y
  is : slice_get ys i ≡ Some item
  related : R x item

paired_second : {X Y : Type 0} (R : X → Y → Type 0) (xs : List X) (ys : List Y) (i : ℕ) (x : X) → Pairwise R xs ys → slice_get xs i ≡ Some x → Second R x ys i
paired_second R [] ys i x h is = absurd (none_some is)
paired_second R (a ∷ xs) [] i x h is = absurd h
paired_second R (a ∷ xs) (b ∷ ys) zero x h is = record { item = b; is = refl; related = subst (λ z. R z b) (some_same is) h.0 }
paired_second R (a ∷ xs) (b ∷ ys) (suc i) x h is =
    let p = paired_second R xs ys i x h.1 is in record { item = p.item; is = p.is; related = p.related }

pair_length : {X Y : Type 0} (R : X → Y → Type 0) (xs : List X) (ys : List Y) → Pairwise R xs ys → length ys ≡ length xs
pair_length R [] [] h = refl
pair_length R [] (b ∷ ys) h = absurd h
pair_length R (a ∷ xs) [] h = absurd h
pair_length R (a ∷ xs) (b ∷ ys) h = let e = pair_length R xs ys h.1 in omega (arith, e)

pair_self : {Y : Type 0} (R : Y → Y → Type 0) (ys : List Y) → ((i : ℕ) (y : Y) → slice_get ys i ≡ Some y → R y y) → Pairwise R ys ys
pair_self R [] f = tt
pair_self R (y ∷ ys) f = (f 0 y refl, pair_self R ys (λ i z h. f (suc i) z h))

-- ---- all numbers below n

upto : ℕ → ℕ → List ℕ
upto b zero = []
upto b (suc n) = b ∷ upto (b + 1) n

get_upto : (b n k : ℕ) → k < n → slice_get (upto b n) k ≡ Some (b + k)
unfolding upto
get_upto b zero k lt = absurd (omega (arith, lt))
get_upto b (suc n) zero lt = let e : b ≡ b + 0 = omega arith in ap Some e
get_upto b (suc n) (suc k) lt = let e : b + 1 + k ≡ b + suc k = omega arith in get_upto (b + 1) n k (omega (arith, lt)) ∙ ap Some e

record IsThere (b n k x : ℕ) : Type 0 where
  is : x ≡ b + k
  below : k < n

upto_get : (b n k x : ℕ) → slice_get (upto b n) k ≡ Some x → IsThere b n k x
unfolding upto
upto_get b zero k x h = absurd (none_some h)
upto_get b (suc n) zero x h = record { is = (let e = some_same h in omega (arith, e)); below = omega arith }
upto_get b (suc n) (suc k) x h =
    let t = upto_get (b + 1) n k x h in record { is = (let e = t.is in omega (arith, e)); below = (let l = t.below in omega (arith, l)) }

pair_upto : {Y : Type 0} (R : ℕ → Y → Type 0) (b : ℕ) (ys : List Y) → ((i : ℕ) (y : Y) → slice_get ys i ≡ Some y → R (b + i) y)
    → Pairwise R (upto b (length ys)) ys
unfolding upto
pair_upto R b [] f = tt
pair_upto {Y} R b (y ∷ ys) f =
    let here : b + 0 ≡ b = omega arith in (
      subst (λ k. R k y) here (f 0 y refl),
      pair_upto R (b + 1) ys (λ i z h. let next : b + suc i ≡ b + 1 + i = omega arith in subst (λ k. R k z) next (f (suc i) z h)),
    )

own_place : (n k : ℕ) → k < n → slice_get (upto 0 n) k ≡ Some k
own_place n k lt = let e : 0 + k ≡ k = omega arith in get_upto 0 n k lt ∙ ap Some e

kept_below : (n k : ℕ) → IsKept (upto 0 n) k → k < n
kept_below n k h = let t = upto_get 0 n h.0 k h.1 in let e = t.is in let l = t.below in omega (arith, e, l)

upto_rising : (n : ℕ) → IsRising (upto 0 n)
upto_rising n i j a b lt h k =
    let s = upto_get 0 n i a h in let t = upto_get 0 n j b k in let e = s.is in let f = t.is in omega (arith, e, f, lt)

-- ---- places among those that are kept

three : (i j : ℕ) → (i < j) ⊎ ((i ≡ j) ⊎ (j < i))
three zero zero = inr (inl refl)
three zero (suc j) = inl (omega arith)
three (suc i) zero = inr (inr (omega arith))
three (suc i) (suc j) = next (three i j)
  where
    next : (i < j) ⊎ ((i ≡ j) ⊎ (j < i)) → (suc i < suc j) ⊎ ((suc i ≡ suc j) ⊎ (suc j < suc i))
    next (inl l) = inl (omega (arith, l))
    next (inr (inl e)) = inr (inl (ap suc e))
    next (inr (inr l)) = inr (inr (omega (arith, l)))

pub kept_once : (kept : List ℕ) → IsRising kept → (i j x : ℕ) → slice_get kept i ≡ Some x → slice_get kept j ≡ Some x → i ≡ j
kept_once kept rising i j x h k = by (three i j)
  where
    by : (i < j) ⊎ ((i ≡ j) ⊎ (j < i)) → i ≡ j
    by (inl l) = let wrong = rising i j x x l h k in absurd (omega (arith, wrong))
    by (inr (inl e)) = e
    by (inr (inr l)) = let wrong = rising j i x x l k h in absurd (omega (arith, wrong))

module _ (kept : List ℕ) (rising : IsRising kept) where
  -- what a step names, its renaming does by the place
  rename_name : (ss ts : List Step) → AreStepsRenamed kept ss ts → (x k : ℕ) → slice_get kept k ≡ Some x → Name ss x → Name ts k
  rename_name ss ts h x k at n =
      let p = paired_second (IsStepRenamed kept) ss ts n.place n.step h n.is in
      record { place = n.place; step = p.item; is = p.is; by = kept_once kept rising p.item.by k x (p.related.by ∙ ap Some n.by) at }

  named_below : (ss ts : List Step) → AreStepsRenamed kept ss ts → (k : ℕ) → Name ts k → k < length kept
  named_below ss ts h k n =
      let p = paired_first (IsStepRenamed kept) ss ts n.place n.step h n.is in
      let l = within kept n.step.by p.item.by p.related.by in
      let e = n.by in omega (arith, l, e)

  same_steps : (ss ts : List Step) → AreStepsRenamed kept ss ts → AreStepsRenamed (upto 0 (length kept)) ts ts
  same_steps ss ts h = pair_self (IsStepRenamed (upto 0 (length kept))) ts (λ i s at.
      let p = paired_first (IsStepRenamed kept) ss ts i s h at in
      record { q = refl; t = refl; by = own_place (length kept) s.by (within kept s.by p.item.by p.related.by) })

  -- ---- recipes

  recipe_name : (r s : Recipe) → IsRecipeRenamed kept r s → (x k : ℕ) → slice_get kept k ≡ Some x → Name (steps_in r) x → Name (steps_in s) k
  recipe_name (Gen number negated) s h x k at n = absurd (none_some n.is)
  recipe_name (Sum steps) s h x k at n = subst (λ t. Name (steps_in t) k) (sym h.1) (rename_name steps h.0 h.2 x k at n)

  recipe_below : (r s : Recipe) → IsRecipeRenamed kept r s → (k : ℕ) → Name (steps_in s) k → k < length kept
  recipe_below (Gen number negated) s h k n = let none : Name [] k = subst (λ t. Name (steps_in t) k) h n in absurd (none_some none.is)
  recipe_below (Sum steps) s h k n = named_below steps h.0 h.2 k (subst (λ t. Name (steps_in t) k) h.1 n)

  same_recipe : (r s : Recipe) → IsRecipeRenamed kept r s → IsRecipeRenamed (upto 0 (length kept)) s s
  same_recipe (Gen number negated) s h = subst (λ t. IsRecipeRenamed (upto 0 (length kept)) t t) (sym h) refl
  same_recipe (Sum steps) s h =
      subst (λ t. IsRecipeRenamed (upto 0 (length kept)) t t) (sym h.1) (h.0, refl, same_steps steps h.0 h.2)

  -- ---- replies

  reply_name : (rs ss : List ReplyData) → Pairwise (IsReplyRenamed kept) rs ss → (x k : ℕ) → slice_get kept k ≡ Some x → NamedInProof rs x → NamedInProof ss k
  reply_name rs ss h x k at n =
      let p = paired_second (IsReplyRenamed kept) rs ss n.place n.reply h n.replied in
      let q = paired_second (AreStepsRenamed kept) n.reply.proofs p.item.proofs n.subject n.steps p.related.proofs n.shown in
      record {
        place = n.place;
        reply = p.item;
        subject = n.subject;
        steps = q.item;
        replied = p.is;
        shown = q.is;
        names = rename_name n.steps q.item q.related x k at n.names;
      }

  reply_below : (rs ss : List ReplyData) → Pairwise (IsReplyRenamed kept) rs ss → (k : ℕ) → NamedInProof ss k → k < length kept
  reply_below rs ss h k n =
      let p = paired_first (IsReplyRenamed kept) rs ss n.place n.reply h n.replied in
      let q = paired_first (AreStepsRenamed kept) p.item.proofs n.reply.proofs n.subject n.steps p.related.proofs n.shown in
      named_below q.item n.steps q.related k n.names

  same_replies : (rs ss : List ReplyData) → Pairwise (IsReplyRenamed kept) rs ss → Pairwise (IsReplyRenamed (upto 0 (length kept))) ss ss
  same_replies rs ss h = pair_self (IsReplyRenamed (upto 0 (length kept))) ss (λ i s at.
      let p = paired_first (IsReplyRenamed kept) rs ss i s h at in
      record {
        session = refl;
        question = refl;
        live = refl;
        front = refl;
        verdict = refl;
        proofs = pair_self (AreStepsRenamed (upto 0 (length kept))) s.proofs (λ j ts is.
            let q = paired_first (AreStepsRenamed kept) p.item.proofs s.proofs j ts p.related.proofs is in same_steps q.item ts q.related);
      })

-- ---- the report

module _ (d t : ReportData) (is : IsTrimming d t) where
  -- a used entry, at its place
  record IsUsedAgain (x : ℕ) : Type 0 where
    before : IsUsed d x
    again : (k : ℕ) → slice_get is.kept k ≡ Some x → IsUsed t k

  first_again : (x : ℕ) → NamedInProof d.replies x → IsUsedAgain x
  first_again x n = record {
    before = IsNeeded.start x n;
    again = λ k at. IsNeeded.start k (reply_name is.kept is.rising d.replies t.replies is.replies x k at n);
  }

  more_again : (j x : ℕ) (e : EntryData) → IsUsedAgain j → slice_get d.entries j ≡ Some e → Name (steps_in e.recipe) x → IsUsedAgain x
  more_again j x e u read n = record {
    before = IsNeeded.named j x e u.before read n;
    again = λ k at.
        let place = (is.used j).1 u.before in
        let p = paired_second (IsKeptEntry d.entries is.kept) is.kept t.entries place.0 j is.entries place.1 in
        let same : e ≡ p.related.entry = some_same (sym read ∙ p.related.is) in
        IsNeeded.named place.0 k p.item (u.again place.0 place.1) p.is
        (recipe_name is.kept is.rising p.related.entry.recipe p.item.recipe p.related.renamed.recipe x k at
        (subst (λ (f : EntryData). Name (steps_in f.recipe) x) same n));
  }

  used_again : (x : ℕ) → IsUsed d x → IsUsedAgain x
  used_again x u = needed (NamedInProof d.replies) IsUsedAgain d.entries first_again more_again x u

  used_below : (k : ℕ) → IsUsed t k → k < length is.kept
  used_below k u = needed (NamedInProof t.replies) (λ i. i < length is.kept) t.entries
      (λ i n. reply_below is.kept is.rising d.replies t.replies is.replies i n)
      (λ j i f lt read n.
      let p = paired_first (IsKeptEntry d.entries is.kept) is.kept t.entries j f is.entries read in
      recipe_below is.kept is.rising p.related.entry.recipe f.recipe p.related.renamed.recipe i n) k u

  stands : (k : ℕ) → k < length is.kept → (x : ℕ) × (slice_get is.kept k ≡ Some x)
  stands k lt = at is.kept k lt
    where
      at : (xs : List ℕ) (k : ℕ) → k < length xs → (x : ℕ) × (slice_get xs k ≡ Some x)
      at [] k lt = absurd (omega (arith, lt))
      at (x ∷ xs) zero lt = (x, refl)
      at (x ∷ xs) (suc k) lt = at xs k (omega (arith, lt))

  kept_again : (k : ℕ) → IsKept (upto 0 (length is.kept)) k ↔ IsUsed t k
  kept_again k = (
    λ h. (let x = stands k (kept_below (length is.kept) k h) in (used_again x.0 ((is.used x.0).0 (k, x.1))).again k x.1),
    λ u. (k, own_place (length is.kept) k (used_below k u)),
  )

  froms : Pairwise (λ k f. slice_get t.from k ≡ Some f) (upto 0 (length is.kept)) t.from
  froms =
      let long : length t.from ≡ length is.kept = pair_length (λ k f. slice_get d.from k ≡ Some f) is.kept t.from is.from in
      subst (λ m. Pairwise (λ k f. slice_get t.from k ≡ Some f) (upto 0 m) t.from) long
      (pair_upto (λ k f. slice_get t.from k ≡ Some f) 0 t.from (λ i f at. let e : 0 + i ≡ i = omega arith in ap (slice_get t.from) e ∙ at))

  entries_again : Pairwise (IsKeptEntry t.entries (upto 0 (length is.kept))) (upto 0 (length is.kept)) t.entries
  entries_again =
      let long : length t.entries ≡ length is.kept = pair_length (IsKeptEntry d.entries is.kept) is.kept t.entries is.entries in
      subst (λ m. Pairwise (IsKeptEntry t.entries (upto 0 (length is.kept))) (upto 0 m) t.entries) long
      (pair_upto (IsKeptEntry t.entries (upto 0 (length is.kept))) 0 t.entries (λ i f at.
      let e : 0 + i ≡ i = omega arith in
      let p = paired_first (IsKeptEntry d.entries is.kept) is.kept t.entries i f is.entries at in
      record {
        entry = f;
        is = ap (slice_get t.entries) e ∙ at;
        renamed = record { recipe = same_recipe is.kept is.rising p.related.entry.recipe f.recipe p.related.renamed.recipe; vector = refl };
      }))

  pub own_trimming : IsTrimming t t
  own_trimming = record {
    kept = upto 0 (length is.kept);
    rising = upto_rising (length is.kept);
    used = kept_again;
    version = is.version;
    items = refl;
    from = froms;
    entries = entries_again;
    replies = same_replies is.kept is.rising d.replies t.replies is.replies;
    end = refl;
  }
