-- Lines that tell more, one after another.
use Rattle.std.proofs.Common.{◌≡◌, ◌≢◌, ℕ, List, [], ◌∷◌, ◌++◌, refl, sym, ap, subst, ◌∙◌}
use Rattle.std.specs.Option.{unwrap_or}
use Rattle.std.specs.List.{AllByRecursion}
use Rattle.report_lines.specs.declared.lines.Line.{Line}
use Rattle.report_lines.specs.declared.lines.Line.TheVariants as lines
use Rattle.report_reading.specs.Telling.{Told, MayFollow, tell, Tell, last_number}
use Rattle.report_acceptance.proofs.Puts.{put_other}

pub tell_append : (s t u : Told) (ls ms : List Line) → Tell s ls t → Tell t ms u → Tell s (ls ++ ms) u
tell_append s t u [] ms h k = subst (λ x. Tell x ms u) (sym h) k
tell_append s t u (l ∷ ls) ms h k = (h.0, tell_append (tell s l) t u ls ms h.1 k)

-- where P holds, the lines may follow, and Q holds then
abbrev pub Goes : (Told → Type 0) → List Line → (Told → Type 0) → Type 0
Goes P ls Q = (t : Told) → P t → (u : Told) × (Tell t ls u × Q u)

pub nothing_more : (P : Told → Type 0) → Goes P [] P
nothing_more P t h = (t, (refl, h))

pub one_more : (P Q : Told → Type 0) (l : Line) → ((t : Told) → P t → MayFollow t l × Q (tell t l)) → Goes P (l ∷ []) Q
one_more P Q l f t h = let k = f t h in (tell t l, ((k.0, refl), k.1))

pub then_more : (P Q R : Told → Type 0) (ls ms : List Line) → Goes P ls Q → Goes Q ms R → Goes P (ls ++ ms) R
then_more P Q R ls ms a b t h =
    let first = a t h in
    let second = b first.0 first.1.1 in
    (second.0, (tell_append t first.0 second.0 ls ms first.1.0 second.1.0, second.1.1))

pub read_so : (P Q R S : Told → Type 0) (ls : List Line) → ((t : Told) → P t → Q t) → Goes Q ls R → ((t : Told) → R t → S t) → Goes P ls S
read_so P Q R S ls before a behind t h = let k = a t (before t h) in (k.0, (k.1.0, behind k.0 k.1.1))

-- ---- the number of a session's last question

-- the line answers no question of this session
abbrev pub IsSpared : ℕ → Line → Type 0
IsSpared s (lines.Entry number made vector) = Unit {0}
IsSpared s lines.Seal = Unit {0}
IsSpared s (lines.Live session number front q v) = s ≢ session
IsSpared s (lines.Proof subject steps) = Unit {0}
IsSpared s (lines.End end) = Unit {0}
IsSpared s (lines.Close session number q v) = Unit {0}
IsSpared s lines.Done = Unit {0}

abbrev pub AreSpared : ℕ → List Line → Type 0
AreSpared s ls = AllByRecursion (IsSpared s) ls

pub spared_append : (s : ℕ) (ls ms : List Line) → AreSpared s ls → AreSpared s ms → AreSpared s (ls ++ ms)
spared_append s [] ms h k = k
spared_append s (l ∷ ls) ms h k = (h.0, spared_append s ls ms h.1 k)

one_kept : (t : Told) (l : Line) (s : ℕ) → IsSpared s l → last_number (tell t l) s ≡ last_number t s
one_kept t (lines.Entry number made vector) s h = refl
one_kept t lines.Seal s h = refl
one_kept t (lines.Live session number front q v) s h = ap (λ o. unwrap_or o 0) (put_other session number t.numbers s h)
one_kept t (lines.Proof subject steps) s h = refl
one_kept t (lines.End end) s h = refl
one_kept t (lines.Close session number q v) s h = refl
one_kept t lines.Done s h = refl

pub number_kept : (t u : Told) (ls : List Line) (s : ℕ) → Tell t ls u → AreSpared s ls → last_number u s ≡ last_number t s
number_kept t u [] s told h = ap (λ x. last_number x s) (sym told)
number_kept t u (l ∷ ls) s told h = number_kept (tell t l) u ls s told.1 h.1 ∙ one_kept t l s h.0
