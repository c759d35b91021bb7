-- Writing out the words of a straight-line program, task after task.
use Rattle.std.proofs.Common.{◌≡◌, ℕ, zero, suc, ◌+◌, ◌-◌, ◌*◌, ◌^◌, ◌<◌, ◌≤◌, Bool, true, false, not, List, [], ◌∷◌, ◌++◌, replicate, refl, sym, ◌∙◌, subst}
use Rattle.std.proofs.Common.{append_assoc, arith, if◌then◌else◌}
use Rattle.std.proofs.Math.Nat.{pow-le-pow_right, pow-succ', pow-zero, mul-le-mul_left, mul-le-mul_right}
use Rattle.std.proofs.lemmas.List.{append-nil}
use Rattle.free_words.specs.declared.letter.Letter.{Letter}
use Rattle.free_words.specs.Words.{inverse, copies, commutator}
use Rattle.word_text.specs.declared.program.Line.{Line}
use Rattle.word_text.specs.declared.program.Line.TheVariants as lines
use Rattle.word_text.specs.declared.spell.Task.{Task}
use Rattle.word_text.specs.Powers.{power_of}
use Rattle.word_text.specs.Program.{word_of, made, Speaks}
use Rattle.word_text.specs.Spell.{signed, told, task, letters_now, parts, AreBelow, load}
use Rattle.word_text.proofs.Algebra.{copies_front, inverse-append, inverse-inverse, inverse-copies}

-- what tasks write
told-append : (ws : List (List Letter)) (ts us : List Task) → told ws (ts ++ us) ≡ told ws ts ++ told ws us
told-append ws [] us = refl
told-append ws (t ∷ ts) us = rw (told-append ws ts us) (sym (append_assoc (signed t.inverted (word_of ws t.word)) (told ws ts) (told ws us)))

told-replicate : (ws : List (List Letter)) (n word : ℕ) (inverted : Bool) → told ws (replicate n (task word inverted))
    ≡ copies n (signed inverted (word_of ws word))
told-replicate ws zero word inverted = refl
told-replicate ws (suc n) word inverted =
    rw (told-replicate ws n word inverted) (copies_front n (signed inverted (word_of ws word)))

signed_power : (inverted negative : Bool) (n : ℕ) (w : List Letter)
    → copies n (signed (if negative then not inverted else inverted) w) ≡ signed inverted (power_of negative n w)
signed_power true true n w = rw (inverse-copies n (inverse w), inverse-inverse w) refl
signed_power true false n w = sym (inverse-copies n w)
signed_power false true n w = refl
signed_power false false n w = refl

inverse_commutator : (u v : List Letter) → v ++ (u ++ (inverse v ++ inverse u)) ≡ inverse (commutator u v)
inverse_commutator u v =
    rw (inverse-append (u ++ v ++ inverse u) (inverse v), inverse-append (u ++ v) (inverse u), inverse-append u v, inverse-inverse u, inverse-inverse v) refl

-- the parts of a line's word make it
parts_made : (ws : List (List Letter)) (inverted : Bool) (line : Line) → letters_now inverted line ++ told ws (parts inverted line)
    ≡ signed inverted (made ws line)
parts_made ws true (lines.Letter l) = refl
parts_made ws false (lines.Letter l) = refl
parts_made ws true (lines.Product u v) = simp (append-nil, inverse-append)
parts_made ws false (lines.Product u v) = simp append-nil
parts_made ws inverted (lines.Power base raise) =
    told-replicate ws raise.times base (if raise.negative then not inverted else inverted) ∙ signed_power inverted raise.negative raise.times (word_of ws base)
parts_made ws true (lines.Commutator u v) = simp append-nil (inverse_commutator (word_of ws u) (word_of ws v))
parts_made ws false (lines.Commutator u v) = simp (append-nil, append_assoc)

pub written_on : (ws : List (List Letter)) (inverted : Bool) (line : Line) (word : ℕ) (out : List Letter) (ts : List Task) → word_of ws word ≡ made ws line
    → (out ++ letters_now inverted line) ++ told ws (parts inverted line ++ ts) ≡ out ++ (signed inverted (word_of ws word) ++ told ws ts)
written_on ws inverted line word out ts e =
    rw (told-append ws (parts inverted line) ts, e, ← parts_made ws inverted line) (simp append_assoc)

-- what is left to be done
load-append : (ts us : List Task) → load (ts ++ us) ≡ load ts + load us
load-append [] us = omega arith
load-append (t ∷ ts) us = omega (arith, load-append ts us)

load-replicate : (n word : ℕ) (inverted : Bool) → load (replicate n (task word inverted)) ≡ n * 4294967296 ^ word
load-replicate zero word inverted = omega arith
load-replicate (suc n) word inverted = omega (arith, load-replicate n word inverted)

-- fewer than m of at most m ^ i are below m ^ (i + 1)
below_next : (m n b i : ℕ) → 0 < m → b ≤ i → n < m → n * m ^ b < m ^ suc i
below_next m n b i some le lt =
    let power : m ^ b ≤ m ^ i = pow-le-pow_right some le in
    let one : 1 ≤ m ^ b = rw (pow-zero m) at (pow-le-pow_right some {i = 0} {j = b} (omega arith)) in
    let more : suc n * m ^ b ≤ m * m ^ b = mul-le-mul_right (m ^ b) lt in
    let most : m * m ^ b ≤ m * m ^ i = mul-le-mul_left m power in
    omega (arith, pow-succ' m i)

-- four of them
four_below : (m a b i : ℕ) → 4 < m → a ≤ i → b ≤ i → m ^ a + m ^ b + m ^ a + m ^ b < m ^ suc i
four_below m a b i lt la lb =
    let some : 0 < m = omega arith in
    let pa : m ^ a ≤ m ^ i = pow-le-pow_right some la in
    let pb : m ^ b ≤ m ^ i = pow-le-pow_right some lb in
    let all : 4 * m ^ i < m ^ suc i = below_next m 4 i i some (omega arith) lt in
    omega arith

pub lighter : (inverted : Bool) (line : Line) (i : ℕ) → Speaks i line → load (parts inverted line) < 4294967296 ^ suc i
lighter inverted (lines.Letter l) i h = let p : 0 * 4294967296 ^ 0 < 4294967296 ^ suc i = below_next 4294967296 0 0 i (omega arith) (omega arith) (omega arith)
    in omega arith
lighter true (lines.Product u v) i h = let p = four_below 4294967296 u v i (omega arith) h.0 h.1 in omega (arith, p)
lighter false (lines.Product u v) i h = let p = four_below 4294967296 u v i (omega arith) h.0 h.1 in omega (arith, p)
lighter inverted (lines.Power base raise) i h =
    rw (load-replicate raise.times base (if raise.negative then not inverted else inverted))
    (below_next 4294967296 raise.times base i (omega arith) h.0 h.1)
lighter true (lines.Commutator u v) i h = let p = four_below 4294967296 u v i (omega arith) h.0 h.1 in omega (arith, p)
lighter false (lines.Commutator u v) i h = let p = four_below 4294967296 u v i (omega arith) h.0 h.1 in omega (arith, p)

pub lighter_on : (inverted : Bool) (line : Line) (word : ℕ) (ts : List Task) → 0 < word → Speaks (word - 1) line
    → load (parts inverted line ++ ts) < 4294967296 ^ word + load ts
lighter_on inverted line zero ts lt h = absurd (omega arith)
lighter_on inverted line (suc i) ts lt h =
    let e : suc i - 1 ≡ i = omega arith in
    let l : load (parts inverted line) < 4294967296 ^ suc i = lighter inverted line i (subst (λ (k : ℕ). Speaks k line) e h) in
    omega (arith, load-append (parts inverted line) ts, l)

-- the parts are among the same words
below_replicate : (n k word : ℕ) (inverted : Bool) (ts : List Task) → word ≤ n → AreBelow n ts → AreBelow n (replicate k (task word inverted) ++ ts)
below_replicate n zero word inverted ts le h = h
below_replicate n (suc k) word inverted ts le h = (le, below_replicate n k word inverted ts le h)

below_parts : (n i : ℕ) (inverted : Bool) (line : Line) (ts : List Task) → i ≤ n → Speaks i line → AreBelow n ts → AreBelow n (parts inverted line ++ ts)
below_parts n i inverted (lines.Letter l) ts le s h = h
below_parts n i true (lines.Product u v) ts le s h = (omega (arith, s.1), (omega (arith, s.0), h))
below_parts n i false (lines.Product u v) ts le s h = (omega (arith, s.0), (omega (arith, s.1), h))
below_parts n i inverted (lines.Power base raise) ts le s h =
    let low : base ≤ n = omega (arith, s.0) in
    below_replicate n raise.times base (if raise.negative then not inverted else inverted) ts low h
below_parts n i true (lines.Commutator u v) ts le s h = (omega (arith, s.1), (omega (arith, s.0), (omega (arith, s.1), (omega (arith, s.0), h))))
below_parts n i false (lines.Commutator u v) ts le s h = (omega (arith, s.0), (omega (arith, s.1), (omega (arith, s.0), (omega (arith, s.1), h))))

pub below_on : (n word : ℕ) (inverted : Bool) (line : Line) (ts : List Task) → word ≤ n → Speaks (word - 1) line → AreBelow n ts
    → AreBelow n (parts inverted line ++ ts)
below_on n word inverted line ts le s h =
    let low : word - 1 ≤ n = omega arith in
    below_parts n (word - 1) inverted line ts low s h

-- nothing is written of the empty word
pub signed_nil : (inverted : Bool) (w : List Letter) → w ≡ [] → signed inverted w ≡ []
signed_nil true w e = rw e refl
signed_nil false w e = e

positive : (m word : ℕ) → 0 < m → 0 < m ^ word
positive m word some =
    let one : 1 ≤ m ^ word = rw (pow-zero m) at (pow-le-pow_right some {i = 0} {j = word} (omega arith)) in
    omega arith

pub power_some : (word : ℕ) → 0 < 4294967296 ^ word
power_some word = positive 4294967296 word (omega arith)
