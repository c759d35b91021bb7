-- Lines, one after another.
use Rattle.std.proofs.Common.{◌≡◌, ℕ, suc, ◌+◌, ◌-◌, ◌<◌, ◌≤◌, List, [], ◌∷◌, ◌++◌, refl, sym, ap, ◌∙◌, arith, append_assoc}
use Rattle.std.proofs.lemmas.List.{append-nil}
use Rattle.gen_input.specs.Texts.{line_text, line_from, after_line, lines_text}

first_line : (n s : ℕ) → lines_text (suc n) s ≡ line_text (line_from s) ++ 10 ∷ lines_text n (after_line s)
unfolding lines_text
first_line n s = refl

no_line : (s : ℕ) → lines_text 0 s ≡ []
unfolding lines_text
no_line s = refl

-- what is written and what is left stay the same, where a line goes from here to there
pub one_more : (n c s : ℕ) (out mid new all : List ℕ) → c < n → out ++ lines_text (n - c) s ≡ all → mid ≡ out ++ line_text (line_from s) → new ≡ mid ++ 10 ∷ []
    → new ++ lines_text (n - (c + 1)) (after_line s) ≡ all
one_more n c s out mid new all lt whole one end =
    let count : n - c ≡ suc (n - (c + 1)) = omega (arith, lt) in
    let rest : List ℕ = lines_text (n - (c + 1)) (after_line s) in
    ap (λ (l : List ℕ). l ++ rest) (end ∙ ap (λ (l : List ℕ). l ++ 10 ∷ []) one)
    ∙ (append_assoc (out ++ line_text (line_from s)) (10 ∷ []) rest
    ∙ (append_assoc out (line_text (line_from s)) (10 ∷ rest)
    ∙ (ap (λ (l : List ℕ). out ++ l) (sym (first_line (n - (c + 1)) s) ∙ ap (λ (k : ℕ). lines_text k s) (sym count))
    ∙ whole)))

-- and at the end nothing is left
pub all_lines : (n c s : ℕ) (out all : List ℕ) → n ≤ c → out ++ lines_text (n - c) s ≡ all → out ≡ all
all_lines n c s out all le whole =
    let none : n - c ≡ 0 = omega (arith, le) in
    sym (append-nil out) ∙ (ap (λ (l : List ℕ). out ++ l) (sym (no_line s) ∙ ap (λ (k : ℕ). lines_text k s) (sym none)) ∙ whole)
