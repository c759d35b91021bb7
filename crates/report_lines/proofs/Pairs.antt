-- Texts of two parts with a separator between them, read from the first part on.
use Rattle.std.proofs.Common.{◌≡◌, ℕ, ◌<◌, ◌==◌, Bool, true, false, if◌then◌else◌, nat_eq, List, [], ◌∷◌, ◌++◌, take, length, Option, Some, None, Ok, Err}
use Rattle.std.proofs.Common.{codes, refl, sym, ap, ◌∙◌, arith, append_assoc}
use Rattle.std.proofs.lemmas.Option.{none-some}
use Rattle.std.specs.Cmp.Lexicographic.{pointwise}
use Rattle.spelling.specs.Spelling.{IsRead, cut}
use Rattle.spelling.proofs.Numbers.{same_text}
use Rattle.spelling.proofs.Cuts.{cut_here, cut_joins}
use Rattle.spelling.proofs.Lacking.{Lacks, lacks_append}
use Rattle.vector_text.specs.declared.fault.SpellFault.{SpellFault}
use Rattle.vector_text.specs.declared.fault.SpellFault.TheVariants.{Spelling, NoMemory}
use Rattle.vector_text.specs.Reading.{Reads}
use Rattle.vector_text.proofs.Parts.{IsApart}
use Rattle.vector_text.proofs.PlaceTexts.{some_pair}
use Rattle.report_lines.specs.Parts.{headed, IsHead, paired, AreBoth, itself, HasNoColon}

-- texts that differ in one of their first bytes
pub clash : (n : ℕ) (a b : List ℕ) → a ≡ b → pointwise nat_eq (take n a) (take n b) ≡ false → ⊥
clash n a b e differ =
    let t : pointwise nat_eq (take n a) (take n b) ≡ true = same_text (take n a) (take n b) (ap (take n) e) in
    let f : true ≡ false = sym t ∙ differ in cc

-- a byte stands nowhere in a text that is written out
abbrev is_clear : ℕ → List ℕ → Bool
is_clear c [] = true
is_clear c (b ∷ bs) = if b == c then false else is_clear c bs

pub literal : (c : ℕ) (text : List ℕ) → is_clear c text ≡ true → Lacks c text
literal c [] e = tt
literal c (b ∷ bs) e = by (b == c) refl e (λ k. literal c bs k) where
  by : (t : Bool) → (b == c) ≡ t → (if t then false else is_clear c bs) ≡ true → (is_clear c bs ≡ true → Lacks c bs) → Lacks c (b ∷ bs)
  by true h k again = absurd (cc)
  by false h k again = (h, again k)

-- ---- a first part that ends where the separator stands

pub record IsFirst {A : Type 0} (f : A → List ℕ) (IsA : A → Type 0) (separator : List ℕ) : Type 0 where
  pub same : (a b : A) (r s : List ℕ) → IsA a → IsA b → f a ++ (separator ++ r) ≡ f b ++ (separator ++ s) → (a ≡ b) × (r ≡ s)

pub first_by_cut : {A : Type 0} (c : ℕ) (f : A → List ℕ) (IsA : A → Type 0) → IsApart c f IsA → IsFirst f IsA (c ∷ [])
first_by_cut c f IsA apart = record {
  same = λ a b r s h k e.
      let both = some_pair (f a, r) (f b, s) (sym (cut_here c (f a) r (apart.lacks a h)) ∙ ap (cut c) e ∙ cut_here c (f b) s (apart.lacks b k)) in
      (apart.one a b h k both.0, both.1);
}

pub uncut : {A : Type 0} (c : ℕ) (f : A → List ℕ) (IsA : A → Type 0) → IsApart c f IsA → (text : List ℕ) → cut c text ≡ None
    → IsRead (headed f (c ∷ [])) (IsHead IsA) text None
uncut c f IsA apart text none = λ x h e. none-some _ (sym none ∙ ap (cut c) e ∙ cut_here c (f x.0) x.1 (apart.lacks x.0 h))

pub no_head : {A : Type 0} (c : ℕ) (f : A → List ℕ) (IsA : A → Type 0) → IsApart c f IsA → (text front rest : List ℕ) → cut c text ≡ Some (front, rest)
    → IsRead f IsA front None
    → IsRead (headed f (c ∷ [])) (IsHead IsA) text None
no_head c f IsA apart text front rest k bad = λ x h e.
    let both = some_pair (front, rest) (f x.0, x.1) (sym k ∙ ap (cut c) e ∙ cut_here c (f x.0) x.1 (apart.lacks x.0 h)) in
    bad x.0 h both.0

pub head_read : {A : Type 0} (c : ℕ) (f : A → List ℕ) (IsA : A → Type 0) (text front rest : List ℕ) (a : A) → cut c text ≡ Some (front, rest)
    → IsRead f IsA front (Some a)
    → IsRead (headed f (c ∷ [])) (IsHead IsA) text (Some (a, rest))
head_read c f IsA text front rest a k good = (good.0, cut_joins c text front rest k ∙ ap (λ (t : List ℕ). t ++ c ∷ rest) good.1)

-- ---- pairs by their first part

pub no_first : {A B : Type 0} (f : A → List ℕ) (IsA : A → Type 0) (sep : List ℕ) (g : B → List ℕ) (IsB : B → Type 0) (text : List ℕ)
    → IsRead (headed f sep) (IsHead IsA) text None
    → IsRead (paired f sep g) (AreBoth IsA IsB) text None
no_first f IsA sep g IsB text bad = λ x h e. bad (x.0, g x.1) h.0 e

pub no_second : {A B : Type 0} (f : A → List ℕ) (IsA : A → Type 0) (sep : List ℕ) (g : B → List ℕ) (IsB : B → Type 0) → IsFirst f IsA sep
    → (text rest : List ℕ) (a : A)
    → IsRead (headed f sep) (IsHead IsA) text (Some (a, rest)) → IsRead g IsB rest None → IsRead (paired f sep g) (AreBoth IsA IsB) text None
no_second f IsA sep g IsB first text rest a good bad = λ x h e.
    let s = first.same x.0 a (g x.1) rest h.0 good.0 (sym e ∙ good.1) in bad x.1 h.1 (sym s.1)

pub both_read : {A B : Type 0} (f : A → List ℕ) (IsA : A → Type 0) (sep : List ℕ) (g : B → List ℕ) (IsB : B → Type 0) (text rest : List ℕ) (a : A) (b : B)
    → IsRead (headed f sep) (IsHead IsA) text (Some (a, rest)) → IsRead g IsB rest (Some b) → IsRead (paired f sep g) (AreBoth IsA IsB) text (Some (a, b))
both_read f IsA sep g IsB text rest a b good next = ((good.0, next.0), good.1 ∙ ap (λ (t : List ℕ). f a ++ (sep ++ t)) next.1)

pub second_fails : {A B : Type 0} (f : A → List ℕ) (IsA : A → Type 0) (sep : List ℕ) (g : B → List ℕ) (IsB : B → Type 0) → IsFirst f IsA sep
    → (text rest : List ℕ) (a : A)
    → IsRead (headed f sep) (IsHead IsA) text (Some (a, rest)) → (e : SpellFault) → Reads g IsB rest (Err e)
    → Reads (paired f sep g) (AreBoth IsA IsB) text (Err e)
second_fails f IsA sep g IsB first text rest a good Spelling bad = no_second f IsA sep g IsB first text rest a good bad
second_fails f IsA sep g IsB first text rest a good NoMemory bad = tt

pub pair_same : {A B : Type 0} (f : A → List ℕ) (IsA : A → Type 0) (sep : List ℕ) (g : B → List ℕ) (IsB : B → Type 0) → IsFirst f IsA sep
    → ((a b : B) → IsB a → IsB b → g a ≡ g b → a ≡ b) → (x y : A × B) → AreBoth IsA IsB x → AreBoth IsA IsB y → paired f sep g x ≡ paired f sep g y
    → (x.0 ≡ y.0) × (x.1 ≡ y.1)
pair_same f IsA sep g IsB first one x y h k e =
    let s = first.same x.0 y.0 (g x.1) (g y.1) h.0 k.0 e in (s.0, one x.1 y.1 h.1 k.1 s.1)

-- ---- around a colon

cut_lacks : (c : ℕ) (text front rest : List ℕ) → cut c text ≡ Some (front, rest) → Lacks c front
cut_lacks c [] front rest e = absurd (none-some (front, rest) e)
cut_lacks c (b ∷ bs) front rest e = by (b == c) refl (cut c bs) refl (λ f r k. cut_lacks c bs f r k) where
  by : (t : Bool) → (b == c) ≡ t → (o : Option (List ℕ × List ℕ)) → cut c bs ≡ o → ((f r : List ℕ) → cut c bs ≡ Some (f, r) → Lacks c f) → Lacks c front
  by true h o k again =
      let f : Some ([], bs) ≡ Some (front, rest) = sym (rw h refl) ∙ e in
      let g = some_pair ([], bs) (front, rest) f in
      rw (sym g.0) tt
  by false h None k again =
      let f : None ≡ Some (front, rest) = sym (rw (h, k) refl) ∙ e in absurd (none-some (front, rest) f)
  by false h (Some p) k again =
      let f : Some (b ∷ p.0, p.1) ≡ Some (front, rest) = sym (rw (h, k) refl) ∙ e in
      let g = some_pair (b ∷ p.0, p.1) (front, rest) f in
      rw (sym g.0) (h, again p.0 p.1 k)

lacks_front : (c : ℕ) (a b : List ℕ) → Lacks c (a ++ b) → Lacks c a
lacks_front c [] b h = tt
lacks_front c (x ∷ a) b h = (h.0, lacks_front c a b h.1)

-- the colon with its spaces is found behind a text without a colon
around : (front rest : List ℕ) → HasNoColon front → cut 58 (front ++ (codes " : " ++ rest)) ≡ Some (front ++ 32 ∷ [], 32 ∷ rest)
around front rest h =
    ap (cut 58) (sym (append_assoc front (32 ∷ []) (58 ∷ 32 ∷ rest)))
    ∙ cut_here 58 (front ++ 32 ∷ []) (32 ∷ rest) (lacks_append 58 front (32 ∷ []) h (refl, tt))

pub no_colon : (text : List ℕ) → cut 58 text ≡ None → IsRead (headed itself (codes " : ")) (IsHead HasNoColon) text None
no_colon text none = λ x h e. none-some _ (sym none ∙ ap (cut 58) e ∙ around x.0 x.1 h)

pub no_space_before : (text front rest : List ℕ) → cut 58 text ≡ Some (front, rest) → ((f : List ℕ) → front ≡ f ++ 32 ∷ [] → ⊥)
    → IsRead (headed itself (codes " : ")) (IsHead HasNoColon) text None
no_space_before text front rest k bad = λ x h e.
    let both = some_pair (front, rest) (x.0 ++ 32 ∷ [], 32 ∷ x.1) (sym k ∙ ap (cut 58) e ∙ around x.0 x.1 h) in bad x.0 both.0

pub no_space_after : (text front rest : List ℕ) → cut 58 text ≡ Some (front, rest) → ((r : List ℕ) → rest ≡ 32 ∷ r → ⊥)
    → IsRead (headed itself (codes " : ")) (IsHead HasNoColon) text None
no_space_after text front rest k bad = λ x h e.
    let both = some_pair (front, rest) (x.0 ++ 32 ∷ [], 32 ∷ x.1) (sym k ∙ ap (cut 58) e ∙ around x.0 x.1 h) in bad x.1 both.1

pub around_read : (text front rest before after : List ℕ) → cut 58 text ≡ Some (front, rest) → front ≡ before ++ 32 ∷ [] → rest ≡ 32 ∷ after
    → IsRead (headed itself (codes " : ")) (IsHead HasNoColon) text (Some (before, after))
around_read text front rest before after k f r =
    let lacks : Lacks 58 (before ++ 32 ∷ []) = rw (← f) (cut_lacks 58 text front rest k) in
    (lacks_front 58 before (32 ∷ []) lacks, cut_joins 58 text front rest k ∙ rw (f, r) (append_assoc before (32 ∷ []) (58 ∷ 32 ∷ after)))

snoc_same : (a b : List ℕ) → a ++ 32 ∷ [] ≡ b ++ 32 ∷ [] → a ≡ b
snoc_same [] [] e = refl
snoc_same [] (y ∷ b) e = absurd (omega (arith, ap length e, longer b)) where
  longer : (b : List ℕ) → 0 < length (b ++ 32 ∷ [])
  longer [] = omega arith
  longer (z ∷ b) = omega arith
snoc_same (x ∷ a) [] e = absurd (omega (arith, ap length e, longer a)) where
  longer : (b : List ℕ) → 0 < length (b ++ 32 ∷ [])
  longer [] = omega arith
  longer (z ∷ b) = omega arith
snoc_same (x ∷ a) (y ∷ b) e = let h = parts e in cc (h.0, snoc_same a b h.1) where
  parts : {v w : ℕ} {s t : List ℕ} → v ∷ s ≡ w ∷ t → (v ≡ w) × (s ≡ t)
  parts k = (cc, cc)

-- a text without a colon ends where a colon with its spaces stands
pub before_colon : IsFirst itself HasNoColon (codes " : ")
before_colon = record {
  same = λ a b r s h k e.
      let both = some_pair (a ++ 32 ∷ [], 32 ∷ r) (b ++ 32 ∷ [], 32 ∷ s) (sym (around a r h) ∙ ap (cut 58) e ∙ around b s k) in
      (snoc_same a b both.0, tail both.1);
} where
  tail : {v w : ℕ} {s t : List ℕ} → v ∷ s ≡ w ∷ t → s ≡ t
  tail k = cc

-- so the text of a value does, where no colon stands in it
pub colon_first : {A : Type 0} (f : A → List ℕ) (IsA : A → Type 0) → ((a : A) → IsA a → HasNoColon (f a)) → ((a b : A) → IsA a → IsA b → f a ≡ f b → a ≡ b)
    → IsFirst f IsA (codes " : ")
colon_first f IsA plain one = record {
  same = λ a b r s h k e. let t = before_colon.same (f a) (f b) r s (plain a h) (plain b k) e in (one a b h k t.0, t.1);
}

pub colon_missing : {A B : Type 0} (f : A → List ℕ) (IsA : A → Type 0) (g : B → List ℕ) (IsB : B → Type 0) → ((a : A) → IsA a → HasNoColon (f a))
    → (text : List ℕ)
    → IsRead (headed itself (codes " : ")) (IsHead HasNoColon) text None → IsRead (paired f (codes " : ") g) (AreBoth IsA IsB) text None
colon_missing f IsA g IsB plain text bad = λ x h e. bad (f x.0, g x.1) (plain x.0 h.0) e

pub front_fails : {A B : Type 0} (f : A → List ℕ) (IsA : A → Type 0) (g : B → List ℕ) (IsB : B → Type 0) → ((a : A) → IsA a → HasNoColon (f a))
    → (text front rest : List ℕ)
    → IsRead (headed itself (codes " : ")) (IsHead HasNoColon) text (Some (front, rest)) → (e : SpellFault) → Reads f IsA front (Err e)
    → Reads (paired f (codes " : ") g) (AreBoth IsA IsB) text (Err e)
front_fails f IsA g IsB plain text front rest good Spelling bad = λ x h e.
    let t = before_colon.same (f x.0) front (g x.1) rest (plain x.0 h.0) good.0 (sym e ∙ good.1) in bad x.0 h.0 (sym t.0)
front_fails f IsA g IsB plain text front rest good NoMemory bad = tt

pub back_fails : {A B : Type 0} (f : A → List ℕ) (IsA : A → Type 0) (g : B → List ℕ) (IsB : B → Type 0) → ((a : A) → IsA a → HasNoColon (f a))
    → (text front rest : List ℕ)
    → IsRead (headed itself (codes " : ")) (IsHead HasNoColon) text (Some (front, rest)) → (e : SpellFault) → Reads g IsB rest (Err e)
    → Reads (paired f (codes " : ") g) (AreBoth IsA IsB) text (Err e)
back_fails f IsA g IsB plain text front rest good Spelling bad = λ x h e.
    let t = before_colon.same (f x.0) front (g x.1) rest (plain x.0 h.0) good.0 (sym e ∙ good.1) in bad x.1 h.1 (sym t.1)
back_fails f IsA g IsB plain text front rest good NoMemory bad = tt

pub around_both : {A B : Type 0} (f : A → List ℕ) (IsA : A → Type 0) (g : B → List ℕ) (IsB : B → Type 0) (text front rest : List ℕ) (a : A) (b : B)
    → IsRead (headed itself (codes " : ")) (IsHead HasNoColon) text (Some (front, rest)) → Reads f IsA front (Ok a) → Reads g IsB rest (Ok b)
    → Reads (paired f (codes " : ") g) (AreBoth IsA IsB) text (Ok (a, b))
around_both f IsA g IsB text front rest a b good first second = ((first.0, second.0), good.1 ∙ rw (first.1, second.1) refl)
