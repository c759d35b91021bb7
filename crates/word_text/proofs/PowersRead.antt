-- How reading powers ends, by the bytes alone.
use Rattle.std.proofs.Common.{◌≡◌, ℕ, zero, suc, ◌<◌, ◌≤◌, Bool, true, false, List, length, drop, Result, Ok, Err, refl, ◌∙◌, arith, nat_lt, if◌then◌else◌}
use Rattle.std.proofs.lemmas.Bool.Decides.{nat_tests}
use Rattle.free_words.specs.declared.letter.Letter.{Letter}
use Rattle.word_text.specs.declared.fault.Fault.{Fault}
use Rattle.word_text.specs.declared.fault.TextKind.TheVariants.{WordTooLong}
use Rattle.word_text.specs.Scan.{◌>>=◌, first_is, after_blanks}
use Rattle.word_text.specs.Powers.{Exponent, power_of, exponent_at, raised, powers_from, powers_within}
use Rattle.word_text.specs.Grammar.{IsExponent, Raised, PowersWithin}
use Rattle.word_text.proofs.Lexing.{skip_le, first_lt}
use Rattle.word_text.proofs.Limits.{made_ok, made_long}
use Rattle.word_text.proofs.Suffixes.{exponent, no_longer}
use Rattle.word_text.proofs.Exponents.{NoExponent, ExponentRead, exponent_read, exponent_again, exponent_fault}

-- the powers are read; or one of them has no exponent; or with one of them the word passes the limit
pub data PowersRead (limit start : ℕ) (w : List Letter) (bs : List ℕ) : Result (List Letter × List ℕ) Fault → Type 0 where
  powers : (v : List Letter) (rest : List ℕ) → PowersWithin limit w bs v rest → PowersRead limit start w bs (Ok (v, rest))
  no_exponent : (v : List Letter) (at : List ℕ) (e : Fault) → Raised limit w bs v at → first_is 94 at ≡ true
      → NoExponent (after_blanks (drop 1 at)) e → PowersRead limit start w bs (Err e)
  too_long : (v : List Letter) (at mid : List ℕ) (negative : Bool) (n : ℕ) → Raised limit w bs v at → first_is 94 at ≡ true
      → IsExponent (after_blanks (drop 1 at)) negative n mid → limit < length (power_of negative n v)
      → PowersRead limit start w bs (Err (record { kind = WordTooLong; left = start }))

-- powers before others
before : (limit start : ℕ) (w u : List Letter) (bs mid : List ℕ) (r : Result (List Letter × List ℕ) Fault)
    → ((v : List Letter) (rest : List ℕ) → Raised limit u mid v rest → Raised limit w bs v rest)
    → PowersRead limit start u mid r → PowersRead limit start w bs r
before limit start w u bs mid _ more (PowersRead.powers v rest p) = PowersRead.powers v rest (more v rest p.0, p.1)
before limit start w u bs mid _ more (PowersRead.no_exponent v at e p c x) = PowersRead.no_exponent v at e (more v at p) c x
before limit start w u bs mid _ more (PowersRead.too_long v at last negative n p c x lt) = PowersRead.too_long v at last negative n (more v at p) c x lt

past : (m n : ℕ) → nat_lt m n ≡ true → m < n
past m n e = grind (arith, nat_tests)

not_past : (m n : ℕ) → nat_lt m n ≡ false → n ≤ m
not_past m n e = grind (arith, nat_tests)

-- one power is within the limit, or it isn't
by_length : (limit n start : ℕ) (w : List Letter) (bs mid : List ℕ) (negative : Bool) (size : ℕ) (t : Bool)
    → nat_lt limit (length (power_of negative size w)) ≡ t → first_is 94 bs ≡ true → IsExponent (after_blanks (drop 1 bs)) negative size mid
    → ((u : List Letter) → PowersRead limit start u (after_blanks mid) (powers_from limit n start u (after_blanks mid)))
    → PowersRead limit start w bs
    ((if t then Err (record { kind = WordTooLong; left = start }) else Ok (power_of negative size w)) >>= λ v. powers_from limit n start v (after_blanks mid))
by_length limit n start w bs mid negative size true t c x next =
    PowersRead.too_long w bs mid negative size (Raised.none w bs) c x (past limit (length (power_of negative size w)) t)
by_length limit n start w bs mid negative size false t c x next =
    before limit start w (power_of negative size w) bs (after_blanks mid) _
    (λ v rest p. Raised.more w v bs mid rest negative size c x (not_past limit (length (power_of negative size w)) t) p) (next (power_of negative size w))

by_exponent : (limit n start : ℕ) (w : List Letter) (bs : List ℕ) (r : Result Exponent Fault) → first_is 94 bs ≡ true
    → ExponentRead (after_blanks (drop 1 bs)) r
    → ((u : List Letter) (mid : List ℕ) → length mid ≤ length (after_blanks (drop 1 bs))
    → PowersRead limit start u (after_blanks mid) (powers_from limit n start u (after_blanks mid)))
    → PowersRead limit start w bs (r >>= λ k. (raised limit start k.negative k.size w >>= λ v. powers_from limit n start v (after_blanks k.rest)))
by_exponent limit n start w bs _ c (ExponentRead.exponent negative size mid x) next =
    by_length limit n start w bs mid negative size (nat_lt limit (length (power_of negative size w))) refl c x
    (λ u. next u mid (no_longer (after_blanks (drop 1 bs)) mid (exponent (after_blanks (drop 1 bs)) negative size mid x)))
by_exponent limit n start w bs _ c (ExponentRead.none e x) next = PowersRead.no_exponent w bs e (Raised.none w bs) c x

by_caret : (limit n start : ℕ) (w : List Letter) (bs : List ℕ) (t : Bool) → first_is 94 bs ≡ t
    → ((u : List Letter) (mid : List ℕ) → length (after_blanks mid) < length bs
    → PowersRead limit start u (after_blanks mid) (powers_from limit n start u (after_blanks mid)))
    → PowersRead limit start w bs
    (if t then (exponent_at (after_blanks (drop 1 bs)) >>= λ k. (raised limit start k.negative k.size w >>=
    λ v. powers_from limit n start v (after_blanks k.rest))) else Ok (w, bs))
by_caret limit n start w bs true t next =
    by_exponent limit n start w bs (exponent_at (after_blanks (drop 1 bs))) t (exponent_read (after_blanks (drop 1 bs)))
    (λ u mid le. next u mid (omega (arith, skip_le mid, skip_le (drop 1 bs), first_lt 94 bs t)))
by_caret limit n start w bs false t next = PowersRead.powers w bs (Raised.none w bs, t)

read_from : (limit n start : ℕ) (w : List Letter) (bs : List ℕ) → length bs < n → PowersRead limit start w bs (powers_from limit n start w bs)
unfolding powers_from
read_from limit zero start w bs lt = absurd (omega arith)
read_from limit (suc n) start w bs lt =
    by_caret limit n start w bs (first_is 94 bs) refl (λ u mid le. read_from limit n start u (after_blanks mid) (omega arith))

pub powers_read : (limit start : ℕ) (w : List Letter) (bs : List ℕ) → PowersRead limit start w (after_blanks bs) (powers_within limit start w bs)
unfolding powers_within
powers_read limit start w bs = read_from limit (suc (length (after_blanks bs))) start w (after_blanks bs) (omega arith)

-- powers are read; behind some of them the reading goes on as from there
abbrev Onward : ℕ → ℕ → ℕ → List Letter → List ℕ → List Letter → List ℕ → Type 0
Onward limit start n w bs v at = (m : ℕ) × (length at < m) × (powers_from limit n start w bs ≡ powers_from limit m start v at)

onward : (limit start n : ℕ) (w v : List Letter) (bs at : List ℕ) → Raised limit w bs v at → length bs < n → Onward limit start n w bs v at
unfolding powers_from
onward limit start n _ _ _ _ (Raised.none w bs) lt = (n, lt, refl)
onward limit start zero _ _ _ _ (Raised.more w v bs mid rest negative k t x le p) lt = absurd (omega arith)
onward limit start (suc n) _ _ _ _ (Raised.more w v bs mid rest negative k t x le p) lt =
    let room : length (after_blanks mid) < n = omega (
      arith,
      skip_le mid,
      no_longer (after_blanks (drop 1 bs)) mid (exponent (after_blanks (drop 1 bs)) negative k mid x),
      skip_le (drop 1 bs),
      first_lt 94 bs t,
    ) in
    rw (t, exponent_again (after_blanks (drop 1 bs)) negative k mid x, made_ok limit start (power_of negative k w) le)
    (onward limit start n (power_of negative k w) v (after_blanks mid) rest p room)

ended : (limit start m : ℕ) (v : List Letter) (at : List ℕ) → length at < m → first_is 94 at ≡ false → powers_from limit m start v at ≡ Ok (v, at)
unfolding powers_from
ended limit start zero v at lt t = absurd (omega arith)
ended limit start (suc m) v at lt t = rw t refl

stopped : (limit start m : ℕ) (v : List Letter) (at : List ℕ) (e : Fault) → length at < m → first_is 94 at ≡ true
    → NoExponent (after_blanks (drop 1 at)) e → powers_from limit m start v at ≡ Err e
unfolding powers_from
stopped limit start zero v at e lt t x = absurd (omega arith)
stopped limit start (suc m) v at e lt t x = rw (t, exponent_fault (after_blanks (drop 1 at)) e x) refl

long_power : (limit start m : ℕ) (v : List Letter) (at mid : List ℕ) (negative : Bool) (n : ℕ) → length at < m → first_is 94 at ≡ true
    → IsExponent (after_blanks (drop 1 at)) negative n mid → limit < length (power_of negative n v)
    → powers_from limit m start v at ≡ Err (record { kind = WordTooLong; left = start })
unfolding powers_from
long_power limit start zero v at mid negative n lt t x long = absurd (omega arith)
long_power limit start (suc m) v at mid negative n lt t x long =
    rw (t, exponent_again (after_blanks (drop 1 at)) negative n mid x, made_long limit start (power_of negative n v) long) refl

pub powers_again : (limit start : ℕ) (w v : List Letter) (bs rest : List ℕ) → PowersWithin limit w (after_blanks bs) v rest
    → powers_within limit start w bs ≡ Ok (v, rest)
unfolding powers_within
powers_again limit start w v bs rest p =
    let o = onward limit start (suc (length (after_blanks bs))) w v (after_blanks bs) rest p.0 (omega arith) in
    o.2 ∙ ended limit start o.0 v rest o.1 p.1

pub powers_fault : (limit start : ℕ) (w v : List Letter) (bs at : List ℕ) (e : Fault) → Raised limit w (after_blanks bs) v at → first_is 94 at ≡ true
    → NoExponent (after_blanks (drop 1 at)) e → powers_within limit start w bs ≡ Err e
unfolding powers_within
powers_fault limit start w v bs at e p t x =
    let o = onward limit start (suc (length (after_blanks bs))) w v (after_blanks bs) at p (omega arith) in
    o.2 ∙ stopped limit start o.0 v at e o.1 t x

pub powers_long : (limit start : ℕ) (w v : List Letter) (bs at mid : List ℕ) (negative : Bool) (n : ℕ) → Raised limit w (after_blanks bs) v at
    → first_is 94 at ≡ true
    → IsExponent (after_blanks (drop 1 at)) negative n mid → limit < length (power_of negative n v)
    → powers_within limit start w bs ≡ Err (record { kind = WordTooLong; left = start })
unfolding powers_within
powers_long limit start w v bs at mid negative n p t x long =
    let o = onward limit start (suc (length (after_blanks bs))) w v (after_blanks bs) at p (omega arith) in
    o.2 ∙ long_power limit start o.0 v at mid negative n o.1 t x long
