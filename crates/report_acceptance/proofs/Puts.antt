-- What is found in a map when an entry is put into it, and questions that are left open.
use Rattle.std.proofs.Common.{◌≡◌, ◌≢◌, ℕ, zero, suc, ◌<◌, nat_lt, ◌==◌, cond, Bool, true, false, List, [], ◌∷◌, ◌++◌, length, drop, slice_get, refl, sym, ap}
use Rattle.std.proofs.Common.{subst, ◌∙◌, arith}
use Rattle.std.proofs.lemmas.Bool.Decides.{nat_tests}
use Rattle.std.specs.Prelude.{Some}
use Rattle.std.specs.List.{AllByRecursion}
use Rattle.std.specs.BTreeMap.{insert_entry, is_at}
use Rattle.std.specs.Map.{lookup}
use Rattle.std.specs.declared.cmp.Ordering.{Ordering}
use Rattle.std.specs.declared.cmp.Ordering.TheVariants.{Less, Equal, Greater}
use Rattle.std.specs.Ordering.{nat_cmp, is_eq, match_ordering, ordering_then}
use Rattle.session_text.specs.declared.question.Question.{Question}
use Rattle.report_reading.specs.Telling.{by_number}

-- ---- numbers in order

nat_same : (a : ℕ) → nat_cmp a a ≡ Equal
nat_same a = grind arith

pub nat_less : (a b : ℕ) → a < b → nat_cmp a b ≡ Less
nat_less a b lt = let l : nat_lt a b ≡ true = grind (arith, nat_tests) in rw l refl

pub nat_more : (a b : ℕ) → b < a → nat_cmp a b ≡ Greater
nat_more a b lt =
    let l : nat_lt a b ≡ false = grind (arith, nat_tests) in
    let e : (a == b) ≡ false = grind (arith, nat_tests) in
    rw (l, e) refl

-- a key that differs isn't found
unlike : (a b : ℕ) → a ≢ b → is_at (nat_cmp a) b ≡ false
unlike a b other = by (nat_lt a b) refl (a == b) refl
  where
    by : (x : Bool) → nat_lt a b ≡ x → (y : Bool) → (a == b) ≡ y → is_at (nat_cmp a) b ≡ false
    by true h y k = rw h refl
    by false h true k = let e : a ≡ b = grind (arith, nat_tests) in absurd (other e)
    by false h false k = rw (h, k) refl

equal_keys : (a b : ℕ) → nat_cmp a b ≡ Equal → a ≡ b
equal_keys a b e = by (nat_lt a b) refl (a == b) refl
  where
    by : (x : Bool) → nat_lt a b ≡ x → (y : Bool) → (a == b) ≡ y → a ≡ b
    by true h y k = let l : nat_cmp a b ≡ Less = rw h refl in absurd (let w : Less ≡ Equal = sym l ∙ e in cc)
    by false h true k = grind (arith, nat_tests)
    by false h false k = let l : nat_cmp a b ≡ Greater = rw (h, k) refl in absurd (let w : Greater ≡ Equal = sym l ∙ e in cc)

-- ---- the number of a session's last question

module _ (s n : ℕ) where
  -- a look-up of t where the new number goes to its place
  found : (t : ℕ) (x : ℕ × ℕ) (xs : List (ℕ × ℕ)) (o : Ordering) → nat_cmp s x.0 ≡ o
      → lookup (is_at (nat_cmp t)) (insert_entry nat_cmp (x ∷ xs) s n) ≡ lookup (is_at (nat_cmp t))
      (match_ordering o ((s, n) ∷ x ∷ xs) ((x.0, n) ∷ xs) (x ∷ insert_entry nat_cmp xs s n))
  found t x xs o e = ap (λ r. lookup (is_at (nat_cmp t)) (match_ordering r ((s, n) ∷ x ∷ xs) ((x.0, n) ∷ xs) (x ∷ insert_entry nat_cmp xs s n))) e

  first_is : (t : ℕ) (x : ℕ × ℕ) (xs : List (ℕ × ℕ)) (b : Bool) → is_at (nat_cmp t) x.0 ≡ b
      → lookup (is_at (nat_cmp t)) (x ∷ xs) ≡ cond b (Some x.1) (lookup (is_at (nat_cmp t)) xs)
  first_is t x xs b e = ap (λ r. cond r (Some x.1) (lookup (is_at (nat_cmp t)) xs)) e

  pub put_here : (xs : List (ℕ × ℕ)) → lookup (is_at (nat_cmp s)) (insert_entry nat_cmp xs s n) ≡ Some n
  put_here [] = first_is s (s, n) [] true (ap is_eq (nat_same s))
  put_here (x ∷ xs) = by (nat_cmp s x.0) refl (put_here xs)
    where
      by : (o : Ordering) → nat_cmp s x.0 ≡ o → lookup (is_at (nat_cmp s)) (insert_entry nat_cmp xs s n) ≡ Some n
          → lookup (is_at (nat_cmp s)) (insert_entry nat_cmp (x ∷ xs) s n) ≡ Some n
      by Less e later = found s x xs Less e ∙ first_is s (s, n) (x ∷ xs) true (ap is_eq (nat_same s))
      by Equal e later = found s x xs Equal e ∙ first_is s (x.0, n) xs true (ap is_eq e)
      by Greater e later = found s x xs Greater e ∙ (first_is s x (insert_entry nat_cmp xs s n) false (ap is_eq e) ∙ later)

  pub put_other : (xs : List (ℕ × ℕ)) (t : ℕ) → t ≢ s → lookup (is_at (nat_cmp t)) (insert_entry nat_cmp xs s n) ≡ lookup (is_at (nat_cmp t)) xs
  put_other [] t other = first_is t (s, n) [] false (unlike t s other)
  put_other (x ∷ xs) t other = by (nat_cmp s x.0) refl (put_other xs t other)
    where
      by : (o : Ordering) → nat_cmp s x.0 ≡ o → lookup (is_at (nat_cmp t)) (insert_entry nat_cmp xs s n) ≡ lookup (is_at (nat_cmp t)) xs
          → lookup (is_at (nat_cmp t)) (insert_entry nat_cmp (x ∷ xs) s n) ≡ lookup (is_at (nat_cmp t)) (x ∷ xs)
      by Less e later = found t x xs Less e ∙ first_is t (s, n) (x ∷ xs) false (unlike t s other)
      by Equal e later =
          let no : is_at (nat_cmp t) x.0 ≡ false = unlike t x.0 (λ same. other (same ∙ sym (equal_keys s x.0 e))) in
          found t x xs Equal e ∙ (first_is t (x.0, n) xs false no ∙ sym (first_is t x xs false no))
      by Greater e later = found t x xs Greater e ∙ ap (λ l. cond (is_at (nat_cmp t) x.0) (Some x.1) l) later

-- ---- questions that are left open

-- the reply at this place was given to the question with this number
pub record IsLeft (qs : List Question) (x : (ℕ × ℕ) × ℕ) (y : (ℕ × ℕ) × Question) : Type 0 where
  pub at : x.0 ≡ y.0
  pub question : slice_get qs x.1 ≡ Some y.1

-- these questions are left open, where replies were given to those
abbrev pub AreLeft : List Question → List ((ℕ × ℕ) × ℕ) → List ((ℕ × ℕ) × Question) → Type 0
AreLeft qs [] [] = Unit {0}
AreLeft qs [] (y ∷ ys) = ⊥
AreLeft qs (x ∷ xs) [] = ⊥
AreLeft qs (x ∷ xs) (y ∷ ys) = IsLeft qs x y × AreLeft qs xs ys

get_front : (qs rs : List Question) (i : ℕ) (q : Question) → slice_get qs i ≡ Some q → slice_get (qs ++ rs) i ≡ Some q
get_front [] rs i q h = absurd cc
get_front (p ∷ qs) rs zero q h = h
get_front (p ∷ qs) rs (suc i) q h = get_front qs rs i q h

pub get_behind : {X : Type 0} (qs : List X) (q : X) → slice_get (qs ++ q ∷ []) (length qs) ≡ Some q
get_behind [] q = refl
get_behind (p ∷ qs) q = get_behind qs q

pub more_left : (qs rs : List Question) (xs : List ((ℕ × ℕ) × ℕ)) (ys : List ((ℕ × ℕ) × Question)) → AreLeft qs xs ys → AreLeft (qs ++ rs) xs ys
more_left qs rs [] [] h = tt
more_left qs rs [] (y ∷ ys) h = h
more_left qs rs (x ∷ xs) [] h = h
more_left qs rs (x ∷ xs) (y ∷ ys) h = (record { at = h.0.at; question = get_front qs rs x.1 y.1 h.0.question }, more_left qs rs xs ys h.1)

-- one more is put behind those that come before it, and before those that come behind it
pub put_left : (qs : List Question) (xs : List ((ℕ × ℕ) × ℕ)) (before behind : List ((ℕ × ℕ) × Question)) (at : ℕ × ℕ) (place : ℕ) (q : Question)
    → AreLeft qs xs (before ++ behind)
    → AllByRecursion (λ y. by_number at y.0 ≡ Greater) before → AllByRecursion (λ y. by_number at y.0 ≡ Less) behind → slice_get qs place ≡ Some q
    → AreLeft qs (insert_entry by_number xs at place) (before ++ (at, q) ∷ behind)
put_left qs [] [] [] at place q h g l is = (record { at = refl; question = is }, tt)
put_left qs [] [] (y ∷ ys) at place q h g l is = absurd h
put_left qs (x ∷ xs) [] [] at place q h g l is = absurd h
put_left qs (x ∷ xs) [] (y ∷ ys) at place q h g l is =
    let less : by_number at x.0 ≡ Less = ap (by_number at) h.0.at ∙ l.0 in
    subst (λ zs. AreLeft qs zs ((at, q) ∷ y ∷ ys))
    (sym (ap (λ o. match_ordering o ((at, place) ∷ x ∷ xs) ((x.0, place) ∷ xs) (x ∷ insert_entry by_number xs at place)) less))
    (record { at = refl; question = is }, h)
put_left qs [] (b ∷ before) behind at place q h g l is = absurd h
put_left qs (x ∷ xs) (b ∷ before) behind at place q h g l is =
    let more : by_number at x.0 ≡ Greater = ap (by_number at) h.0.at ∙ g.0 in
    subst (λ zs. AreLeft qs zs (b ∷ (before ++ (at, q) ∷ behind)))
    (sym (ap (λ o. match_ordering o ((at, place) ∷ x ∷ xs) ((x.0, place) ∷ xs) (x ∷ insert_entry by_number xs at place)) more))
    (h.0, put_left qs xs before behind at place q h.1 g.1 l is)

-- the first of them
pub record IsFirst (qs : List Question) (xs : List ((ℕ × ℕ) × ℕ)) (at : ℕ × ℕ) (q : Question) (ys : List ((ℕ × ℕ) × Question)) : Type 0 where
  pub place : ℕ
  pub first : slice_get xs 0 ≡ Some (at, place)
  pub question : slice_get qs place ≡ Some q
  pub others : AreLeft qs (drop 1 xs) ys

pub first_left : (qs : List Question) (xs : List ((ℕ × ℕ) × ℕ)) (at : ℕ × ℕ) (q : Question) (ys : List ((ℕ × ℕ) × Question)) → AreLeft qs xs ((at, q) ∷ ys)
    → IsFirst qs xs at q ys
first_left qs [] at q ys h = absurd h
first_left qs (x ∷ xs) at q ys h = record { place = x.1; first = ap (λ a. Some (a, x.1)) h.0.at; question = h.0.question; others = h.1 }

pub none_left : (qs : List Question) (xs : List ((ℕ × ℕ) × ℕ)) → AreLeft qs xs [] → xs ≡ []
none_left qs [] h = refl
none_left qs (x ∷ xs) h = absurd h

-- ---- keys in order

pub earlier_session : (s n t m : ℕ) → t < s → by_number (s, n) (t, m) ≡ Greater
earlier_session s n t m lt = ap (λ o. ordering_then o (nat_cmp n m)) (nat_more s t lt)

pub later_session : (s n t m : ℕ) → s < t → by_number (s, n) (t, m) ≡ Less
later_session s n t m lt = ap (λ o. ordering_then o (nat_cmp n m)) (nat_less s t lt)

pub earlier_question : (s n m : ℕ) → m < n → by_number (s, n) (s, m) ≡ Greater
earlier_question s n m lt = ap (λ o. ordering_then o (nat_cmp n m)) (nat_same s) ∙ nat_more n m lt

pub later_question : (s n m : ℕ) → n < m → by_number (s, n) (s, m) ≡ Less
later_question s n m lt = ap (λ o. ordering_then o (nat_cmp n m)) (nat_same s) ∙ nat_less n m lt
