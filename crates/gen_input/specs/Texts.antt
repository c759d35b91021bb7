-- The texts that a seed gives: a presentation, and a session of questions about it.
use Rattle.std.specs.Prelude.{ℕ, zero, suc, ◌+◌, ◌==◌, if◌then◌else◌, codes, decimal, List, [], ◌∷◌, ◌++◌}
use Rattle.gen_input.specs.declared.TheConstants.{QUESTIONS}
use Rattle.gen_input.specs.declared.lines.Form.{Form}
use Rattle.gen_input.specs.declared.lines.Form.TheVariants.{Trivial, Equal, Normal, Hom}
use Rattle.gen_input.specs.declared.lines.Line.{Line}
use Rattle.gen_input.specs.Draws.{next, drawn}

-- ---- the presentation

abbrev pub numbered : List ℕ → ℕ → List ℕ
numbered text n = text ++ decimal n

abbrev pub relators : ℕ → ℕ → ℕ → List ℕ
relators p q r = numbered (codes "<a, b, c | [a,b]^") p ++ (numbered (codes ", [a,c]^") q
    ++ (numbered (codes ", [b,c]^") r ++ (codes ">" ++ 10 ∷ [])))

-- from 2 to 13
abbrev pub exponent : ℕ → ℕ
exponent s = 2 + drawn s 12

-- the state after the presentation was drawn
abbrev pub after_presentation : ℕ → ℕ
after_presentation seed = next (next (next seed))

abbrev pub presentation_text : ℕ → List ℕ
presentation_text seed = relators (exponent (next seed)) (exponent (next (next seed)))
    (exponent (after_presentation seed))

-- ---- a line of the session

abbrev pub power : ℕ → ℕ → List ℕ
power name n = name ∷ 94 ∷ decimal n

abbrev pub product : List ℕ → List ℕ → List ℕ
product u v = u ++ (codes " " ++ v)

-- the power of a commutator
abbrev pub commutator : List ℕ → List ℕ → ℕ → List ℕ
commutator u v m = codes "[" ++ (u ++ (codes "," ++ (v ++ numbered (codes "]^") m)))

abbrev pub form_text : Form → Line → List ℕ
form_text Trivial l = codes "trivial " ++ commutator (power l.x l.i) (power l.y l.j) l.m
form_text Equal l = codes "equal " ++ (product (power l.x l.i) (power l.y l.j)
    ++ (codes " = " ++ product (product (power l.y l.j) (power l.x l.i)) (commutator (l.x ∷ []) (l.y ∷ []) l.m)))
form_text Normal l = codes "normal " ++ commutator (power l.x l.i) (l.y ∷ []) l.m
form_text Hom l = codes "hom <s,u | " ++ (commutator (codes "s") (codes "u") l.m
    ++ (codes "> -> " ++ (power l.x l.i ++ (codes ", " ++ power l.y l.j))))

abbrev pub line_text : Line → List ℕ
line_text l = form_text l.form l

-- ---- the session

abbrev pub form_of : ℕ → Form
form_of f = if f == 0 then Trivial else (if f == 1 then Equal else (if f == 2 then Normal else Hom))

-- the names a and b, a and c, or b and c
abbrev pub first_of : ℕ → ℕ
first_of pair = if pair == 2 then 98 else 97

abbrev pub second_of : ℕ → ℕ
second_of pair = if pair == 0 then 98 else 99

-- the line that is drawn from a state
abbrev pub line_from : ℕ → Line
line_from s = record {
  form = form_of (drawn (next s) 4);
  x = first_of (drawn (next (next s)) 3);
  y = second_of (drawn (next (next s)) 3);
  i = 1 + drawn (next (next (next s))) 20;
  j = 1 + drawn (next (next (next (next s)))) 20;
  m = 1 + drawn (next (next (next (next (next s))))) 6;
}

-- the state after it
abbrev pub after_line : ℕ → ℕ
after_line s = next (next (next (next (next s))))

-- so many lines
unfoldable pub lines_text : ℕ → ℕ → List ℕ
lines_text zero s = []
lines_text (suc n) s = line_text (line_from s) ++ 10 ∷ lines_text n (after_line s)

abbrev pub session_text : ℕ → List ℕ
session_text seed = lines_text QUESTIONS (after_presentation seed)
