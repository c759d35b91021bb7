-- Cutting at the first separator.
use Rattle.std.proofs.Common.{◌≡◌, ℕ, ◌+◌, ◌<◌, ◌≤◌, ◌==◌, Bool, true, false, List, [], ◌∷◌, ◌++◌, length, take, drop, get_or, Option, Some, None, option_map}
use Rattle.std.proofs.Common.{refl, sym, ap, ◌∙◌, arith, append_assoc, add-one, drop-cons}
use Rattle.std.proofs.lemmas.List.{drop_all, append-nil, take_more}
use Rattle.std.proofs.lemmas.Bool.Decides.{nat_tests}
use Rattle.std.specs.List.{AllByRecursion}
use Rattle.std.proofs.lemmas.Option.{none-some}
use Rattle.spelling.specs.Spelling.{cut}

abbrev pub fronted : List ℕ → Option (List ℕ × List ℕ) → Option (List ℕ × List ℕ)
fronted front o = option_map (λ p. (front ++ p.0, p.1)) o

fronted_nothing : (o : Option (List ℕ × List ℕ)) → o ≡ fronted [] o
fronted_nothing None = refl
fronted_nothing (Some p) = refl

pub cut_starts : (c : ℕ) (text : List ℕ) → cut c text ≡ fronted (take 0 text) (cut c (drop 0 text))
cut_starts c text = fronted_nothing (cut c text)

fronted_more : (front : List ℕ) (b : ℕ) (o : Option (List ℕ × List ℕ)) → fronted front (fronted (b ∷ []) o) ≡ fronted (front ++ b ∷ []) o
fronted_more front b None = refl
fronted_more front b (Some p) = ap (λ (t : List ℕ). Some (t, p.1)) (sym (append_assoc front (b ∷ []) p.0))

-- a byte that is not the separator joins the front
pub cut_goes_on : (c : ℕ) (text : List ℕ) (at : ℕ) → at < length text → (get_or text at 0 == c) ≡ false
    → cut c text ≡ fronted (take at text) (cut c (drop at text))
    → cut c text ≡ fronted (take (at + 1) text) (cut c (drop (at + 1) text))
cut_goes_on c text at lt differs so_far =
    let e : cut c (drop at text) ≡ fronted (get_or text at 0 ∷ []) (cut c (drop (at + 1) text)) = rw (drop-cons text at 0 lt, add-one, differs) refl in
    so_far ∙ ap (fronted (take at text)) e ∙ rw (take_more text at 0 lt) (fronted_more (take at text) (get_or text at 0) (cut c (drop (at + 1) text)))

pub cut_found : (c : ℕ) (text : List ℕ) (at : ℕ) → at < length text → (get_or text at 0 == c) ≡ true
    → cut c text ≡ fronted (take at text) (cut c (drop at text))
    → cut c text ≡ Some (take at text, drop (at + 1) text)
cut_found c text at lt same so_far =
    let e : cut c (drop at text) ≡ Some ([], drop (at + 1) text) = rw (drop-cons text at 0 lt, add-one, same) refl in
    so_far ∙ ap (fronted (take at text)) e ∙ ap (λ (t : List ℕ). Some (t, drop (at + 1) text)) (append-nil (take at text))

pub cut_ends : (c : ℕ) (text : List ℕ) (at : ℕ) → length text ≤ at
    → cut c text ≡ fronted (take at text) (cut c (drop at text))
    → cut c text ≡ None
cut_ends c text at le so_far = so_far ∙ rw (drop_all at text le) refl

pub some_same : {x y : List ℕ × List ℕ} → Some x ≡ Some y → x ≡ y
some_same e = cc

is_byte : (b c : ℕ) → (b == c) ≡ true → b ≡ c
is_byte b c e = grind (arith, nat_tests)

-- what is cut, joined again
pub cut_joins : (c : ℕ) (text front rest : List ℕ) → cut c text ≡ Some (front, rest) → text ≡ front ++ c ∷ rest
cut_joins c [] front rest e = absurd (none-some (front, rest) e)
cut_joins c (b ∷ bs) front rest e = by (b == c) refl (cut c bs) refl (λ f r k. cut_joins c bs f r k) where
  by : (t : Bool) → (b == c) ≡ t → (o : Option (List ℕ × List ℕ)) → cut c bs ≡ o → ((f r : List ℕ) → cut c bs ≡ Some (f, r) → bs ≡ f ++ c ∷ r)
      → b ∷ bs ≡ front ++ c ∷ rest
  by true h o k again =
      let d : b ≡ c = is_byte b c h in
      let f : Some ([], bs) ≡ Some (front, rest) = sym (rw h refl) ∙ e in
      let g = some_same f in
      rw (sym (ap (λ p. p.0) g), sym (ap (λ p. p.1) g), d) refl
  by false h None k again =
      let f : None ≡ Some (front, rest) = sym (rw (h, k) refl) ∙ e in absurd (none-some (front, rest) f)
  by false h (Some p) k again =
      let f : Some (b ∷ p.0, p.1) ≡ Some (front, rest) = sym (rw (h, k) refl) ∙ e in
      let g = some_same f in
      rw (again p.0 p.1 k, sym (ap (λ (p : List ℕ × List ℕ). p.0) g), sym (ap (λ (p : List ℕ × List ℕ). p.1) g)) refl

-- a text without the separator is the front of what it is joined to
pub cut_here : (c : ℕ) (front rest : List ℕ) → AllByRecursion (λ b. (b == c) ≡ false) front → cut c (front ++ c ∷ rest) ≡ Some (front, rest)
cut_here c [] rest h = grind (arith, nat_tests)
cut_here c (b ∷ front) rest h = rw (h.0, cut_here c front rest h.1) refl

-- the course of a search for the separator
pub ruleset search_for_cut = (cut_starts, cut_goes_on, cut_found, cut_ends)
