-- The words of a straight-line program.
use Rattle.std.proofs.Common.{◌≡◌, ℕ, zero, suc, ◌+◌, ◌-◌, ◌<◌, ◌≤◌, List, [], ◌∷◌, ◌++◌, length, get_or, refl, sym, subst, ◌∙◌, ap, arith, add-one, add-zero}
use Rattle.std.proofs.Common.{length-append, append_assoc}
use Rattle.std.proofs.lemmas.List.{get_or_append_left, get_or_at, append-nil}
use Rattle.free_words.specs.declared.letter.Letter.{Letter}
use Rattle.word_text.specs.declared.program.Line.{Line}
use Rattle.word_text.specs.declared.program.Line.TheVariants as lines
use Rattle.word_text.specs.declared.program.Entry.{Entry}
use Rattle.word_text.specs.Program.{word_of, made, words_from, Speaks, IsEntry, IsProgram, Keeps}

-- earlier words stay where more are put behind them
pub word_of-append : (ws more : List (List Letter)) (k : ℕ) → k ≤ length ws → word_of (ws ++ more) k ≡ word_of ws k
word_of-append ws more zero le = refl
word_of-append ws more (suc k) le = get_or_append_left ws more [] k (omega arith)

pub word_of_last : (ws : List (List Letter)) (w : List Letter) → word_of (ws ++ w ∷ []) (length ws + 1) ≡ w
word_of_last ws w = rw add-one (get_or_at ws w [] [] (length ws) refl)

pub keeps_push : (ws : List (List Letter)) (w : List Letter) → Keeps ws (ws ++ w ∷ [])
keeps_push ws w = (omega (arith, length-append ws (w ∷ [])), λ k le. word_of-append ws (w ∷ []) k le)

made-append : (ws more : List (List Letter)) (line : Line) → Speaks (length ws) line → made (ws ++ more) line ≡ made ws line
made-append ws more (lines.Letter l) h = refl
made-append ws more (lines.Product u v) h = rw (word_of-append ws more u h.0, word_of-append ws more v h.1) refl
made-append ws more (lines.Power base raise) h = rw (word_of-append ws more base h.0) refl
made-append ws more (lines.Commutator u v) h = rw (word_of-append ws more u h.0, word_of-append ws more v h.1) refl

-- one more line
pub words_push : (ws : List (List Letter)) (es : List Entry) (e : Entry)
    → words_from ws (es ++ e ∷ []) ≡ words_from ws es ++ made (words_from ws es) e.line ∷ []
words_push ws [] e = refl
words_push ws (x ∷ es) e = words_push (ws ++ made ws x.line ∷ []) es e

pub program_push : (ws : List (List Letter)) (es : List Entry) (e : Entry) → IsProgram ws es → IsEntry (words_from ws es) e
    → IsProgram ws (es ++ e ∷ [])
program_push ws [] e p h = (h, tt)
program_push ws (x ∷ es) e p h = (p.0, program_push (ws ++ made ws x.line ∷ []) es e p.1 h)

pub length-words : (ws : List (List Letter)) (es : List Entry) → length (words_from ws es) ≡ length ws + length es
length-words ws [] = omega arith
length-words ws (x ∷ es) =
    omega (arith, length-words (ws ++ made ws x.line ∷ []) es, length-append ws (made ws x.line ∷ []))

extends : (ws : List (List Letter)) (es : List Entry) → (more : List (List Letter)) × (words_from ws es ≡ ws ++ more)
extends ws [] = ([], sym (append-nil ws))
extends ws (x ∷ es) =
    let h = extends (ws ++ made ws x.line ∷ []) es in
    (made ws x.line ∷ h.0, h.1 ∙ append_assoc ws (made ws x.line ∷ []) h.0)

-- the line of a word
abbrev IsMade : List (List Letter) → ℕ → Entry → Type 0
IsMade words n e = Speaks n e.line × (get_or words n [] ≡ made words e.line) × (e.letters ≡ length (get_or words n []))

first_made : (ws more : List (List Letter)) (e : Entry) → IsEntry ws e → IsMade (ws ++ (made ws e.line ∷ more)) (length ws) e
first_made ws more e h =
    let here : get_or (ws ++ (made ws e.line ∷ more)) (length ws) [] ≡ made ws e.line = get_or_at ws (made ws e.line) more [] (length ws) refl in
    (h.0, here ∙ sym (made-append ws (made ws e.line ∷ more) e.line h.0), h.1 ∙ ap length (sym here))

entry_made : (ws : List (List Letter)) (es : List Entry) (i : ℕ) (d : Entry) → IsProgram ws es → i < length es
    → IsMade (words_from ws es) (length ws + i) (get_or es i d)
entry_made ws [] i d p lt = absurd (omega arith)
entry_made ws (e ∷ es) zero d p lt =
    let h = extends (ws ++ made ws e.line ∷ []) es in
    let same : words_from (ws ++ made ws e.line ∷ []) es ≡ ws ++ (made ws e.line ∷ h.0) = h.1 ∙ append_assoc ws (made ws e.line ∷ []) h.0 in
    rw (add-zero, same) (first_made ws h.0 e p.0)
entry_made ws (e ∷ es) (suc i) d p lt =
    let n : length (ws ++ made ws e.line ∷ []) + i ≡ length ws + suc i = omega (arith, length-append ws (made ws e.line ∷ [])) in
    rw (← n) (entry_made (ws ++ made ws e.line ∷ []) es i d p.1 (omega arith))

at_start : (es : List Entry) (i : ℕ) (d : Entry) → IsProgram [] es → suc i ≤ length (words_from [] es)
    → IsMade (words_from [] es) i (get_or es (suc i - 1) d)
at_start es i d p le =
    let m : 0 + i ≡ i = omega arith in
    let n : i ≡ suc i - 1 = omega arith in
    let h : IsMade (words_from [] es) (0 + i) (get_or es i d) = entry_made [] es i d p (omega (arith, length-words [] es)) in
    rw (← n) (subst (λ (k : ℕ). IsMade (words_from [] es) k (get_or es i d)) m h)

pub line_speaks : (es : List Entry) (word : ℕ) (d : Entry) → IsProgram [] es → 0 < word → word ≤ length (words_from [] es)
    → Speaks (word - 1) (get_or es (word - 1) d).line
line_speaks es zero d p lt le = absurd (omega arith)
line_speaks es (suc i) d p lt le =
    let n : i ≡ suc i - 1 = omega arith in
    subst (λ (k : ℕ). Speaks k (get_or es (suc i - 1) d).line) n (at_start es i d p le).0

pub line_made : (es : List Entry) (word : ℕ) (d : Entry) → IsProgram [] es → 0 < word → word ≤ length (words_from [] es)
    → word_of (words_from [] es) word ≡ made (words_from [] es) (get_or es (word - 1) d).line
line_made es zero d p lt le = absurd (omega arith)
line_made es (suc i) d p lt le = (at_start es i d p le).1

pub line_letters : (es : List Entry) (word : ℕ) (d : Entry) → IsProgram [] es → 0 < word → word ≤ length (words_from [] es)
    → (get_or es (word - 1) d).letters ≡ length (word_of (words_from [] es) word)
line_letters es zero d p lt le = absurd (omega arith)
line_letters es (suc i) d p lt le = (at_start es i d p le).2

-- what a program with one more line has
pub added : (es new : List Entry) (e : Entry) → new ≡ es ++ e ∷ [] → Keeps (words_from [] es) (words_from [] new)
    × (length new ≤ length (words_from [] new)) × (word_of (words_from [] new) (length new) ≡ made (words_from [] es) e.line)
added es new e same =
    let ws : List (List Letter) = words_from [] es in
    let n : length ws + 1 ≡ length (es ++ e ∷ []) = omega (arith, length-words [] es, length-append es (e ∷ [])) in
    rw (same, words_push [] es e) (
      keeps_push ws (made ws e.line),
      omega (arith, length-append ws (made ws e.line ∷ []), n),
      rw (← n) (word_of_last ws (made ws e.line)),
    )
