-- What is read up to a place stays the same where other bytes stand from there on, if these begin alike, or end all
-- tokens.
use Rattle.std.proofs.Common.{◌==◌, ◌≡◌, ℕ, Bool, true, false, List, [], ◌∷◌, ◌++◌, length, drop, take_while, refl, sym, ◌∙◌, ap, subst}
use Rattle.std.proofs.lemmas.List.{append_assoc}
use Rattle.std.proofs.lemmas.List.Sums.{take_while-cons}
use Rattle.word_text.specs.Scan.{is_blank, is_digit, is_name_byte}

-- no name, number, blanks or power goes on with these bytes
abbrev pub Halts : List ℕ → Type 0
Halts [] = Unit {0}
Halts (c ∷ cs) = (is_name_byte c ≡ false) × (is_digit c ≡ false) × (is_blank c ≡ false) × ((c == 94) ≡ false)

pub data Fits : List ℕ → List ℕ → Type 0 where
  alike : (c : ℕ) (bs cs : List ℕ) → Fits (c ∷ bs) (c ∷ cs)
  halts : (bs cs : List ℕ) → Halts cs → Fits bs cs

pub fits_behind : (q bs cs : List ℕ) → Fits bs cs → Fits (q ++ bs) (q ++ cs)
fits_behind [] bs cs h = h
fits_behind (c ∷ q) bs cs h = Fits.alike c (q ++ bs) (q ++ cs)

-- a relation between a place and a later one, which stays where other bytes stand from the later one on
abbrev pub Swap : (List ℕ → List ℕ → Type 0) → List ℕ → List ℕ → Type 0
Swap R bs rest = (q : List ℕ) × (bs ≡ q ++ rest) × ((cs : List ℕ) → Fits rest cs → R (q ++ cs) cs)

pub both : (R S T : List ℕ → List ℕ → Type 0) (a b c : List ℕ) → Swap R a b → Swap S b c → ((x y z : List ℕ) → R x y → S y z → T x z) → Swap T a c
both R S T a b c f g t = (
  f.0 ++ g.0,
  f.1 ∙ (ap (λ (l : List ℕ). f.0 ++ l) g.1 ∙ sym (append_assoc f.0 g.0 c)),
  λ cs h. subst (λ (l : List ℕ). T l cs) (sym (append_assoc f.0 g.0 cs))
      (t (f.0 ++ (g.0 ++ cs)) (g.0 ++ cs) cs (f.2 (g.0 ++ cs) (subst (λ (l : List ℕ). Fits l (g.0 ++ cs)) (sym g.1) (fits_behind g.0 c cs h))) (g.2 cs h)),
)

pub weaker : (R T : List ℕ → List ℕ → Type 0) (a b : List ℕ) → Swap R a b → ((x y : List ℕ) → R x y → T x y) → Swap T a b
weaker R T a b f t = (f.0, f.1, λ cs h. t (f.0 ++ cs) cs (f.2 cs h))

pub stays : (R : List ℕ → List ℕ → Type 0) (bs : List ℕ) → ((cs : List ℕ) → Fits bs cs → R cs cs) → Swap R bs bs
stays R bs f = ([], refl, f)

-- the first byte fails a test
abbrev pub Past : (ℕ → Bool) → List ℕ → Type 0
Past p [] = Unit {0}
Past p (c ∷ cs) = p c ≡ false

pub past_fits : (p : ℕ → Bool) (bs cs : List ℕ) → Fits bs cs → Past p bs → (Halts cs → Past p cs) → Past p cs
past_fits p _ _ (Fits.alike c bs cs) h f = h
past_fits p _ _ (Fits.halts bs cs h) i f = f h

pub past_nothing : (p : ℕ → Bool) (cs : List ℕ) → Past p cs → take_while p cs ≡ []
past_nothing p [] h = refl
past_nothing p (c ∷ cs) h = rw (take_while-cons p c cs, h) refl

-- bytes that pass a test, and those behind them
pub taken : (p : ℕ → Bool) (b : ℕ) (bs : List ℕ) → p b ≡ true → take_while p (b ∷ bs) ≡ b ∷ take_while p bs
taken p b bs e = rw (take_while-cons p b bs, e) refl

pub none_taken : (p : ℕ → Bool) (b : ℕ) (bs : List ℕ) → p b ≡ false → take_while p (b ∷ bs) ≡ []
none_taken p b bs e = rw (take_while-cons p b bs, e) refl

pub record Run (p : ℕ → Bool) (bs : List ℕ) : Type 0 where
  pub splits : bs ≡ take_while p bs ++ drop (length (take_while p bs)) bs
  pub past : Past p (drop (length (take_while p bs)) bs)
  pub again : (cs : List ℕ) → Past p cs → take_while p (take_while p bs ++ cs) ≡ take_while p bs

run_of : (p : ℕ → Bool) (b : ℕ) (bs : List ℕ) (t : Bool) → p b ≡ t → Run p bs → Run p (b ∷ bs)
run_of p b bs true e r = record {
  splits = rw (taken p b bs e) (ap (λ (l : List ℕ). b ∷ l) r.splits);
  past = rw (taken p b bs e) (r.past);
  again = λ cs h. rw (taken p b bs e) (taken p b (take_while p bs ++ cs) e ∙ ap (λ (l : List ℕ). b ∷ l) (r.again cs h));
}
run_of p b bs false e r = record {
  splits = rw (none_taken p b bs e) refl;
  past = rw (none_taken p b bs e) e;
  again = λ cs h. rw (none_taken p b bs e) (past_nothing p cs h);
}

pub run : (p : ℕ → Bool) (bs : List ℕ) → Run p bs
run p [] = record { splits = refl; past = tt; again = λ cs h. past_nothing p cs h }
run p (b ∷ bs) = run_of p b bs (p b) refl (run p bs)

-- the same bytes fit
pub fits_self : (bs : List ℕ) → Fits bs bs
fits_self [] = Fits.halts [] [] tt
fits_self (b ∷ bs) = Fits.alike b bs bs

pub unmoved : (R : List ℕ → List ℕ → Type 0) (a b : List ℕ) → Swap R a b → R a b
unmoved R a b f = subst (λ (l : List ℕ). R l b) (sym f.1) (f.2 b (fits_self b))
