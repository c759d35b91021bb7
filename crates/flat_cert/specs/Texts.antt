-- The texts of certificates, and the first line of another text that can't stand.
use Rattle.std.specs.List.{flat_map}
use Rattle.std.specs.Prelude.{◌≡◌, ◌≢◌, ℕ, ◌+◌, ◌≤◌, List, [], ◌∷◌, ◌++◌, length, codes, decimal, Option, Some, None}
use Rattle.std.specs.Prelude.{Result, Ok, Err, Vec}
use Rattle.std.specs.declared.alloc.Global.{Global}
use Rattle.spelling.specs.Spelling.{coefficient, cut}
use Rattle.presentation.specs.Presented.{Presented}
use Rattle.presentation.specs.Writing.{name_of}
use Rattle.vector_text.specs.Spelling.{monomial_text}
use Rattle.flat_cert.specs.declared.TheConstants.{LINES}
use Rattle.flat_cert.specs.declared.lines.Flat.{Flat}
use Rattle.flat_cert.specs.declared.lines.FlatKind.{FlatKind}
use Rattle.flat_cert.specs.declared.lines.FlatKind.TheVariants.{Rel, Bin, Mod}
use Rattle.flat_cert.specs.declared.faults.FlatTextFault.{FlatTextFault}
use Rattle.flat_cert.specs.declared.faults.FlatTextFault.TheVariants.{Line, NoMemory}
use Rattle.flat_cert.specs.Certificates.{AreFlat}

-- what a line is a multiple of
abbrev pub kind_text : List (List ℕ) → FlatKind → List ℕ
kind_text names (Rel j) = codes "rel " ++ decimal j
kind_text names (Bin j c) = codes "bin " ++ (decimal j ++ (codes " " ++ name_of names c))
kind_text names (Mod c) = codes "mod " ++ name_of names c

-- a line: its coefficient, `*`, its monomial, a space, and what it is a multiple of
abbrev pub line_text : List (List ℕ) → Flat → List ℕ
line_text names l = coefficient l.k ++ (codes "*" ++ (monomial_text names l.t ++ (codes " " ++ kind_text names l.what)))

-- the lines, each with its end
abbrev pub lines_text : List (List ℕ) → List Flat → List ℕ
lines_text names ls = flat_map (λ l. line_text names l ++ 10 ∷ []) ls

abbrev pub title : List ℕ
title = codes "metab flat 1"

abbrev pub last_line : List ℕ
last_line = codes "done"

-- the text of a certificate
abbrev pub certificate_text : List (List ℕ) → List Flat → List ℕ
certificate_text names ls = title ++ 10 ∷ (lines_text names ls ++ (last_line ++ 10 ∷ []))

-- a certificate over the presentation, within the limit
pub record IsCertificate (p : Presented) (ls : List Flat) : Type 0 where
  pub flat : AreFlat p ls
  pub few : length ls ≤ LINES

-- ---- the first line that can't stand

-- no further line may stand behind so many: there are too many then, or it is no flat line
abbrev pub NoneFollows : Presented → List Flat → List ℕ → Type 0
NoneFollows p ls line = (l : Flat) → IsCertificate p (ls ++ l ∷ []) → line ≡ line_text p.names l → ⊥

-- this line isn't the title, or is missing
abbrev pub IsNoTitle : Option (List ℕ × List ℕ) → Type 0
IsNoTitle None = Unit {0}
IsNoTitle (Some parts) = parts.0 ≢ title

-- what is left begins with no line that may stand behind these: with no whole line, or with one that is neither the
-- last one nor a further one
abbrev pub CantStand : Presented → List Flat → Option (List ℕ × List ℕ) → Type 0
CantStand p ls None = Unit {0}
CantStand p ls (Some parts) = (parts.0 ≢ last_line) × NoneFollows p ls parts.0

-- the line with this number is the first that can't stand
pub data IsFirstFault (p : Presented) (text : List ℕ) : ℕ → Type 0 where
  at_title : IsNoTitle (cut 10 text) → IsFirstFault p text 1
  behind : (ls : List Flat) (rest : List ℕ) → IsCertificate p ls → text ≡ title ++ 10 ∷ (lines_text p.names ls ++ rest)
      → CantStand p ls (cut 10 rest) → IsFirstFault p text (length ls + 2)
  after_last : (ls : List Flat) (rest : List ℕ) → IsCertificate p ls → text ≡ certificate_text p.names ls ++ rest
      → rest ≢ [] → IsFirstFault p text (length ls + 3)

-- what is answered to a text, unless memory runs out
abbrev pub ReadsText : Presented → List ℕ → Result (Vec Flat Global) FlatTextFault → Type 0
ReadsText p text (Ok ls) = IsCertificate p ls.items × (text ≡ certificate_text p.names ls.items)
ReadsText p text (Err (Line n)) = IsFirstFault p text n
ReadsText p text (Err NoMemory) = Unit {0}

-- what is answered to the text of this certificate: it is read, unless memory runs out
abbrev pub IsReadBack : List Flat → Result (Vec Flat Global) FlatTextFault → Type 0
IsReadBack ls (Ok read) = read.items ≡ ls
IsReadBack ls (Err (Line n)) = ⊥
IsReadBack ls (Err NoMemory) = Unit {0}
