-- Links between the entries of one component.
use Rattle.std.proofs.Common.{ℕ, ◌<◌, ◌^◌, ◌≡◌, arith, sym, ap, ◌∙◌, List, [], ◌++◌, length, Option, Some, None, subst, get_or}
use Rattle.module_vec.specs.declared.places.Term.{Term}
use Rattle.basis_entry.specs.Entries.{BasisEntry}
use Rattle.pair_book.specs.Fellows.{component_at, FindsLast, AreLinked}
use Rattle.pair_book.proofs.Starting.{lead_left}

-- what is found turns on the components of the numbers below alone
finds_same : (f g : ℕ → ℕ) (n c : ℕ) (o : Option ℕ) → ((m : ℕ) → m < n → f m ≡ g m) → FindsLast f n c o → FindsLast g n c o
finds_same f g n c None e h = λ m lt q. h m lt (e m lt ∙ q)
finds_same f g n c (Some k) e h = (h.0, sym (e k h.0) ∙ h.1, λ m kl lt q. h.2 m kl lt (e m lt ∙ q))

pub linked_none : (f : ℕ → ℕ) (before last : List (Option ℕ)) → before ≡ [] → length last ≡ 2 ^ 8 → ((c : ℕ) → c < 2 ^ 8 → get_or last c None ≡ None)
    → AreLinked f 0 before last
linked_none f before last e long none = record {
  count = ap length e;
  each = λ k lt. absurd (omega (arith, lt));
  components = long;
  ends = λ c lt. subst (FindsLast f 0 c) (sym (none c lt)) (λ m below q. omega (arith, below));
}

linked_same : (f g : ℕ → ℕ) (n : ℕ) (before last : List (Option ℕ)) → ((m : ℕ) → m < n → f m ≡ g m) → AreLinked f n before last → AreLinked g n before last
linked_same f g n before last e h = record {
  count = h.count;
  each = λ k lt. subst (λ (c : ℕ). FindsLast g k c (get_or before k None)) (e k lt)
      (finds_same f g k (f k) (get_or before k None) (λ m below. e m (omega (arith, below, lt))) (h.each k lt));
  components = h.components;
  ends = λ c lt. finds_same f g n c (get_or last c None) e (h.ends c lt);
}

-- the links of the entries of a log, where a further one is appended
pub linked_still : (es more : List BasisEntry) (before last : List (Option ℕ)) → AreLinked (component_at es) (length es) before last
    → AreLinked (component_at (es ++ more)) (length es) before last
linked_still es more before last h = linked_same (component_at es) (component_at (es ++ more)) (length es) before last
    (λ m lt. ap (λ (t : Term). t.at.c) (sym (lead_left es more m lt))) h
