-- The texts of the lines of a trimmed report.
use Rattle.std.proofs.Common.{◌≡◌, ℕ, List, ◌++◌, length, drop, Option, Some, None, Ok, Err, codes, decimal, refl, sym, ap, subst, ◌∙◌}
use Rattle.spelling.specs.Spelling.{IsRead, IsSmall}
use Rattle.presentation.specs.Presented.{Presented, IsPresented}
use Rattle.presentation.proofs.WritingBack.{names_of}
use Rattle.module_vec.specs.declared.places.Term.{Term}
use Rattle.vector_text.specs.declared.fault.SpellFault.{SpellFault}
use Rattle.vector_text.specs.declared.fault.SpellFault.TheVariants.{Spelling, NoMemory}
use Rattle.vector_text.specs.Spelling.{vector_text}
use Rattle.vector_text.specs.Over.{IsVectorOf}
use Rattle.vector_text.specs.Reading.{Reads}
use Rattle.report_lines.specs.declared.lines.Made.{Made}
use Rattle.report_lines.specs.declared.lines.Line.{Line}
use Rattle.report_lines.specs.declared.lines.Line.TheVariants as lines
use Rattle.report_lines.specs.declared.trimmed.TrimmedLine.{TrimmedLine}
use Rattle.report_lines.specs.declared.trimmed.TrimmedLine.TheVariants.{Entry, Other}
use Rattle.report_lines.specs.Parts.{headed, IsHead, paired, AreBoth, itself, HasNoColon}
use Rattle.report_lines.specs.Texts.{made_text, line_text}
use Rattle.report_lines.specs.Lines.{IsMadeOf, IsLineOf}
use Rattle.report_lines.specs.Trimmed.{items_line, trimmed_line_text, IsNoEntry, TrimmedIsOver, IsTrimmedLineOf, IsTrimmedReadBack}
use Rattle.report_lines.proofs.Pairs.{no_first, second_fails, both_read, pair_same, colon_missing, front_fails, back_fails, around_both}
use Rattle.report_lines.proofs.Numbers.{number_first, number_same}
use Rattle.report_lines.proofs.MadeTexts.{made_lacks}
use Rattle.report_lines.proofs.LineTexts.{Recipe, recipe, IsRecipe, entry, IsEntry, is_entry, recipe_same, line_same}
use Rattle.report_lines.proofs.ReadingBack.{line_is_over, made_is_over}

-- ---- the parts behind `entry `

-- an entry behind the word before its second number
abbrev placed : Presented → ℕ × Recipe → List ℕ
placed p x = codes "from " ++ entry p x

-- and behind its first
abbrev kept : Presented → ℕ × (ℕ × Recipe) → List ℕ
kept p = paired decimal (codes " ") (placed p)

abbrev IsKept : Presented → ℕ × (ℕ × Recipe) → Type 0
IsKept p = AreBoth IsSmall (IsEntry p)

-- ---- how an entry was made, and its vector

pub no_colon_in : (p : Presented) → IsPresented p → (text : List ℕ) → IsRead (headed itself (codes " : ")) (IsHead HasNoColon) text None
    → Reads (recipe p) (IsRecipe p) text (Err Spelling)
no_colon_in p known text bad =
    colon_missing (made_text p.names) (IsMadeOf (length p.names)) (vector_text p.names) (IsVectorOf (length p.names))
    (made_lacks p.names (names_of p known)) text bad

pub made_is_none : (p : Presented) → IsPresented p → (text front last : List ℕ)
    → IsRead (headed itself (codes " : ")) (IsHead HasNoColon) text (Some (front, last)) → (f : SpellFault)
    → Reads (made_text p.names) (IsMadeOf (length p.names)) front (Err f)
    → Reads (recipe p) (IsRecipe p) text (Err f)
made_is_none p known text front last a f bad =
    front_fails (made_text p.names) (IsMadeOf (length p.names)) (vector_text p.names) (IsVectorOf (length p.names))
    (made_lacks p.names (names_of p known)) text front last a f bad

pub vector_is_none : (p : Presented) → IsPresented p → (text front last : List ℕ)
    → IsRead (headed itself (codes " : ")) (IsHead HasNoColon) text (Some (front, last)) → (f : SpellFault)
    → Reads (vector_text p.names) (IsVectorOf (length p.names)) last (Err f)
    → Reads (recipe p) (IsRecipe p) text (Err f)
vector_is_none p known text front last a f bad =
    back_fails (made_text p.names) (IsMadeOf (length p.names)) (vector_text p.names) (IsVectorOf (length p.names))
    (made_lacks p.names (names_of p known)) text front last a f bad

pub recipe_is_read : (p : Presented) (text front last : List ℕ) (made : Made) (vector : List Term)
    → IsRead (headed itself (codes " : ")) (IsHead HasNoColon) text (Some (front, last))
    → Reads (made_text p.names) (IsMadeOf (length p.names)) front (Ok made)
    → Reads (vector_text p.names) (IsVectorOf (length p.names)) last (Ok vector)
    → Reads (recipe p) (IsRecipe p) text (Ok (made, vector))
recipe_is_read p text front last made vector a b c =
    around_both (made_text p.names) (IsMadeOf (length p.names)) (vector_text p.names) (IsVectorOf (length p.names)) text front last made vector a b c

-- ---- which line a text begins like

no_entry_text : (p : Presented) (rest : List ℕ) (l : Line) → IsNoEntry l → codes "entry " ++ rest ≡ line_text p l → ⊥
no_entry_text p rest l h e = let i = is_entry p rest l e in subst IsNoEntry i.1 h

is_kept : (p : Presented) (rest : List ℕ) (l : TrimmedLine) → IsTrimmedLineOf p l → codes "entry " ++ rest ≡ trimmed_line_text p l
    → (x : ℕ × (ℕ × Recipe)) × (l ≡ Entry x.0 x.1.0 x.1.1.0 x.1.1.1) × (rest ≡ kept p x)
is_kept p rest (Entry number from made vector) h e = ((number, (from, (made, vector))), refl, ap (drop 6) e)
is_kept p rest (Other l) h e = absurd (no_entry_text p rest l h.0 e)

no_entry : (p : Presented) (text : List ℕ) → ((r : List ℕ) → text ≡ codes "entry " ++ r → ⊥) → (l : Line) → text ≡ line_text p l → IsNoEntry l
no_entry p text other (lines.Entry number made vector) e = other (entry p (number, (made, vector))) e
no_entry p text other lines.Seal e = tt
no_entry p text other (lines.Live session number front question verdict) e = tt
no_entry p text other (lines.Proof subject steps) e = tt
no_entry p text other (lines.End end) e = tt
no_entry p text other (lines.Close session number question verdict) e = tt
no_entry p text other lines.Done e = tt

-- ---- other lines

pub other_fails : (p : Presented) (text : List ℕ) → ((r : List ℕ) → text ≡ codes "entry " ++ r → ⊥) → (f : SpellFault)
    → Reads (line_text p) (IsLineOf p) text (Err f) → Reads (trimmed_line_text p) (IsTrimmedLineOf p) text (Err f)
other_fails p text other Spelling bad = λ l h e. by l h e
  where
    by : (l : TrimmedLine) → IsTrimmedLineOf p l → text ≡ trimmed_line_text p l → ⊥
    by (Entry number from made vector) h e = other (kept p (number, (from, (made, vector)))) e
    by (Other l) h e = bad l h.1 e
other_fails p text other NoMemory bad = tt

pub other_read : (p : Presented) (text : List ℕ) → ((r : List ℕ) → text ≡ codes "entry " ++ r → ⊥) → (l : Line)
    → Reads (line_text p) (IsLineOf p) text (Ok l) → Reads (trimmed_line_text p) (IsTrimmedLineOf p) text (Ok (Other l))
other_read p text other l a = ((no_entry p text other l a.1, a.0), a.1)

-- the line that is read behind a word is read of the whole text
pub behind_word : (p : Presented) (text word rest : List ℕ) (r : _) → text ≡ word ++ rest
    → Reads (trimmed_line_text p) (IsTrimmedLineOf p) (word ++ rest) r → Reads (trimmed_line_text p) (IsTrimmedLineOf p) text r
behind_word p text word rest r is h = let P : List ℕ → Type 0 = λ t. Reads (trimmed_line_text p) (IsTrimmedLineOf p) t r in subst P (sym is) h

-- ---- an entry

kept_fails : (p : Presented) (rest : List ℕ) (f : SpellFault) → Reads (kept p) (IsKept p) rest (Err f)
    → Reads (trimmed_line_text p) (IsTrimmedLineOf p) (codes "entry " ++ rest) (Err f)
kept_fails p rest Spelling bad = λ l h e.
    let i = is_kept p rest l h e in
    let P : TrimmedLine → Type 0 = IsTrimmedLineOf p in
    bad i.0 (subst P i.1 h) i.2
kept_fails p rest NoMemory bad = tt

from_fails : (p : Presented) (rest more : List ℕ) → rest ≡ codes "from " ++ more → (f : SpellFault) → Reads (entry p) (IsEntry p) more (Err f)
    → Reads (placed p) (IsEntry p) rest (Err f)
from_fails p rest more is Spelling bad = λ x h e. bad x h (ap (drop 5) (sym is ∙ e))
from_fails p rest more is NoMemory bad = tt

from_read : (p : Presented) (rest more : List ℕ) → rest ≡ codes "from " ++ more → (x : ℕ × Recipe) → Reads (entry p) (IsEntry p) more (Ok x)
    → Reads (placed p) (IsEntry p) rest (Ok x)
from_read p rest more is x a = (a.0, is ∙ ap (λ (t : List ℕ). codes "from " ++ t) a.1)

-- behind the first number
placed_fails : (p : Presented) (text rest : List ℕ) (n : ℕ) → IsRead (headed decimal (codes " ")) (IsHead IsSmall) text (Some (n, rest)) → (f : SpellFault)
    → Reads (placed p) (IsEntry p) rest (Err f) → Reads (trimmed_line_text p) (IsTrimmedLineOf p) (codes "entry " ++ text) (Err f)
placed_fails p text rest n a f bad = kept_fails p text f (second_fails decimal IsSmall (codes " ") (placed p) (IsEntry p) number_first text rest n a f bad)

pub no_number : (p : Presented) (text : List ℕ) → IsRead (headed decimal (codes " ")) (IsHead IsSmall) text None
    → Reads (trimmed_line_text p) (IsTrimmedLineOf p) (codes "entry " ++ text) (Err Spelling)
no_number p text bad = kept_fails p text Spelling (no_first decimal IsSmall (codes " ") (placed p) (IsEntry p) text bad)

pub no_from : (p : Presented) (text rest : List ℕ) (n : ℕ) → IsRead (headed decimal (codes " ")) (IsHead IsSmall) text (Some (n, rest))
    → ((r : List ℕ) → rest ≡ codes "from " ++ r → ⊥) → Reads (trimmed_line_text p) (IsTrimmedLineOf p) (codes "entry " ++ text) (Err Spelling)
no_from p text rest n a bad = placed_fails p text rest n a Spelling (λ x h e. bad (entry p x) e)

pub no_place : (p : Presented) (text rest more : List ℕ) (n : ℕ) → IsRead (headed decimal (codes " ")) (IsHead IsSmall) text (Some (n, rest))
    → rest ≡ codes "from " ++ more → IsRead (headed decimal (codes " ")) (IsHead IsSmall) more None
    → Reads (trimmed_line_text p) (IsTrimmedLineOf p) (codes "entry " ++ text) (Err Spelling)
no_place p text rest more n a is bad =
    placed_fails p text rest n a Spelling (from_fails p rest more is Spelling (no_first decimal IsSmall (codes " ") (recipe p) (IsRecipe p) more bad))

pub recipe_is_none : (p : Presented) (text rest more last : List ℕ) (n from : ℕ)
    → IsRead (headed decimal (codes " ")) (IsHead IsSmall) text (Some (n, rest)) → rest ≡ codes "from " ++ more
    → IsRead (headed decimal (codes " ")) (IsHead IsSmall) more (Some (from, last)) → (f : SpellFault)
    → Reads (recipe p) (IsRecipe p) last (Err f)
    → Reads (trimmed_line_text p) (IsTrimmedLineOf p) (codes "entry " ++ text) (Err f)
recipe_is_none p text rest more last n from a is b f bad =
    placed_fails p text rest n a f
    (from_fails p rest more is f (second_fails decimal IsSmall (codes " ") (recipe p) (IsRecipe p) number_first more last from b f
    bad))

pub trimmed_entry_read : (p : Presented) (text rest more last : List ℕ) (n from : ℕ) (made : Made) (vector : List Term)
    → IsRead (headed decimal (codes " ")) (IsHead IsSmall) text (Some (n, rest)) → rest ≡ codes "from " ++ more
    → IsRead (headed decimal (codes " ")) (IsHead IsSmall) more (Some (from, last))
    → Reads (recipe p) (IsRecipe p) last (Ok (made, vector))
    → Reads (trimmed_line_text p) (IsTrimmedLineOf p) (codes "entry " ++ text) (Ok (Entry n from made vector))
trimmed_entry_read p text rest more last n from made vector a is b c =
    let inner = both_read decimal IsSmall (codes " ") (recipe p) (IsRecipe p) more last from (made, vector) b c in
    let all = both_read decimal IsSmall (codes " ") (placed p) (IsEntry p) text rest n (from, (made, vector)) a
    (from_read p rest more is (from, (made, vector)) inner) in
    (all.0, ap (λ (t : List ℕ). codes "entry " ++ t) all.1)

-- ---- a text is that of one line

entry_same : (p : Presented) → IsPresented p → (x y : ℕ × Recipe) → IsEntry p x → IsEntry p y → entry p x ≡ entry p y → x ≡ y
entry_same p known x y h k e =
    let a = pair_same decimal IsSmall (codes " ") (recipe p) (IsRecipe p) number_first (λ u w m n f. recipe_same p known u w m n f) x y h k e in
    λ i. (a.0 i, a.1 i)

pub one_trimmed_line : (p : Presented) (l m : TrimmedLine) → IsPresented p → IsTrimmedLineOf p l → IsTrimmedLineOf p m
    → trimmed_line_text p l ≡ trimmed_line_text p m → l ≡ m
one_trimmed_line p (Entry number from made vector) m known h k e =
    let i = is_kept p (kept p (number, (from, (made, vector)))) m k e in
    let P : TrimmedLine → Type 0 = IsTrimmedLineOf p in
    let a = pair_same decimal IsSmall (codes " ") (placed p) (IsEntry p) number_first (λ x y q r f. entry_same p known x y q r (ap (drop 5) f))
    (number, (from, (made, vector))) i.0 h (subst P i.1 k) i.2 in
    (λ x. Entry (a.0 x) (a.1 x).0 (a.1 x).1.0 (a.1 x).1.1) ∙ sym i.1
one_trimmed_line p (Other l) (Entry number from made vector) known h k e = absurd (no_entry_text p (kept p (number, (from, (made, vector)))) l h.0 (sym e))
one_trimmed_line p (Other l) (Other m) known h k e = ap (λ (x : Line). Other x) (line_same p known l m h.1 k.1 e)

pub trimmed_back : (p : Presented) (l : TrimmedLine) (text : List ℕ) → IsPresented p → IsTrimmedLineOf p l → text ≡ trimmed_line_text p l
    → IsTrimmedReadBack p l text
trimmed_back p l text known h e = λ read r. by read r where
  by : (read : Option TrimmedLine) → IsRead (trimmed_line_text p) (IsTrimmedLineOf p) text read → read ≡ Some l
  by (Some m) r = ap (λ (x : TrimmedLine). Some x) (one_trimmed_line p m l known r.0 h (sym r.1 ∙ e))
  by None r = absurd (r l h e)

pub trimmed_is_over : (p : Presented) (l : TrimmedLine) → IsTrimmedLineOf p l → TrimmedIsOver p l
trimmed_is_over p (Entry number from made vector) h = (made_is_over (length p.names) made h.1.1.0, h.1.1.1.over)
trimmed_is_over p (Other l) h = line_is_over p l h.1

-- ---- the number of items

pub one_items_line : (m n : ℕ) → IsSmall m → IsSmall n → items_line m ≡ items_line n → m ≡ n
one_items_line m n h k e = number_same m n h k (ap (drop 6) e)
