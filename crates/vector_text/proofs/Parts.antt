-- Texts of values with a separator between each two, read from the first value on.
use Rattle.std.proofs.Common.{◌≡◌, ◌≢◌, ℕ, suc, ◌<◌, List, [], ◌∷◌, ◌++◌, length, map, Option, Some, None, refl, sym, ap, subst, ◌∙◌, arith, append_assoc}
use Rattle.std.proofs.Common.{append-nil}
use Rattle.std.proofs.lemmas.Option.{none-some}
use Rattle.std.specs.List.{AllByRecursion}
use Rattle.spelling.specs.Spelling.{IsRead, cut, parted, first_part}
use Rattle.spelling.proofs.Cuts.{cut_here, cut_joins}
use Rattle.spelling.proofs.Lacking.{Lacks, lacks_append, apart, not_cut}
use Rattle.presentation.specs.Writing.{joined, led_by}

-- spellings without the byte c, each of one valid value
pub record IsApart {X : Type 0} (c : ℕ) (spelling : X → List ℕ) (IsValid : X → Type 0) : Type 0 where
  pub lacks : (x : X) → IsValid x → Lacks c (spelling x)
  pub one : (x y : X) → IsValid x → IsValid y → spelling x ≡ spelling y → x ≡ y

-- the values' spellings with c between each two
abbrev pub listed : {X : Type 0} → ℕ → (X → List ℕ) → List X → List ℕ
listed c spelling xs = joined (c ∷ []) (map spelling xs)

-- what follows the first value
abbrev pub others : {X : Type 0} → ℕ → (X → List ℕ) → List X → Option (List ℕ)
others c spelling [] = None
others c spelling (x ∷ xs) = Some (listed c spelling (x ∷ xs))

-- the values' spellings with c behind each
abbrev pub ended : {X : Type 0} → ℕ → (X → List ℕ) → List X → List ℕ
ended c spelling [] = []
ended c spelling (x ∷ xs) = spelling x ++ c ∷ ended c spelling xs

-- how much is left to be read
abbrev pub size : Option (List ℕ) → ℕ
size None = 0
size (Some rest) = suc (length rest)

-- the text is that of the values that were read, and of what is left, if something is
abbrev pub Leaves : {X : Type 0} → ℕ → (X → List ℕ) → List ℕ → List X → Option (List ℕ) → Type 0
Leaves c spelling text made None = (0 < length made) × (text ≡ listed c spelling made)
Leaves c spelling text made (Some rest) = text ≡ ended c spelling made ++ rest

cut_parted : (c : ℕ) (text front rest : List ℕ) → cut c text ≡ Some (front, rest) → first_part c text ≡ (front, Some rest)
cut_parted c text front rest e = ap (parted text) e

-- the first value of a list
pub first_listed : {X : Type 0} (c : ℕ) (spelling : X → List ℕ) (x : X) (xs : List X) → Lacks c (spelling x)
    → first_part c (listed c spelling (x ∷ xs)) ≡ (spelling x, others c spelling xs)
first_listed c spelling x [] h = rw (append-nil (spelling x)) (ap (parted (spelling x)) (not_cut c (spelling x) h))
first_listed c spelling x (y ∷ ys) h = cut_parted c _ (spelling x) (listed c spelling (y ∷ ys)) (cut_here c (spelling x) (listed c spelling (y ∷ ys)) h)

pair_same : {A B : Type 0} {a b : A} {x y : B} → ◌≡◌ {A = A × B} (a, x) (b, y) → (a ≡ b) × (x ≡ y)
pair_same e = (ap (λ p. p.0) e, ap (λ p. p.1) e)

-- a list's text after some values that were read
pub record Follows {X : Type 0} (c : ℕ) (spelling : X → List ℕ) (made xs : List X) (rest : List ℕ) : Type 0 where
  pub next : X
  pub more : List X
  pub split : xs ≡ made ++ next ∷ more
  pub text : rest ≡ listed c spelling (next ∷ more)

some_same : {x y : List ℕ} → Some x ≡ Some y → x ≡ y
some_same e = cc

-- where two lists begin, and what follows
firsts : {X : Type 0} (c : ℕ) (spelling : X → List ℕ) (m : X) (ms : List X) (x : X) (xs : List X) (rest : List ℕ) → Lacks c (spelling m) → Lacks c (spelling x)
    → listed c spelling (x ∷ xs) ≡ ended c spelling (m ∷ ms) ++ rest → (spelling x ≡ spelling m) × (others c spelling xs ≡ Some (ended c spelling ms ++ rest))
firsts c spelling m ms x xs rest h k e =
    let left = first_listed c spelling x xs k in
    let assoc : ended c spelling (m ∷ ms) ++ rest ≡ spelling m ++ c ∷ (ended c spelling ms ++ rest) =
    append_assoc (spelling m) (c ∷ ended c spelling ms) rest in
    let right = cut_parted c (spelling m ++ c ∷ (ended c spelling ms ++ rest)) (spelling m) (ended c spelling ms ++ rest)
    (cut_here c (spelling m) (ended c spelling ms ++ rest) h) in
    pair_same (sym left ∙ ap (first_part c) (e ∙ assoc) ∙ right)

follows_more : {X : Type 0} (c : ℕ) (spelling : X → List ℕ) (m : X) (ms : List X) (x : X) (xs rest : _) → x ≡ m → Follows c spelling ms xs rest
    → Follows c spelling (m ∷ ms) (x ∷ xs) rest
follows_more c spelling m ms x xs rest same f = record { next = f.next; more = f.more; split = cc (same, f.split); text = f.text }

pub followed : {X : Type 0} (c : ℕ) (spelling : X → List ℕ) (IsValid : X → Type 0) → IsApart c spelling IsValid → (made xs : List X) (rest : List ℕ)
    → AllByRecursion IsValid made → AllByRecursion IsValid xs → 0 < length xs → listed c spelling xs ≡ ended c spelling made ++ rest
    → Follows c spelling made xs rest
followed c spelling IsValid apart made [] rest h k some e = absurd (omega arith)
followed c spelling IsValid apart [] (x ∷ xs) rest h k some e = record { next = x; more = xs; split = refl; text = sym e }
followed c spelling IsValid apart (m ∷ ms) (x ∷ []) rest h k some e =
    absurd (none-some (ended c spelling ms ++ rest) (firsts c spelling m ms x [] rest (apart.lacks m h.0) (apart.lacks x k.0) e).1)
followed c spelling IsValid apart (m ∷ ms) (x ∷ y ∷ ys) rest h k some e =
    let both = firsts c spelling m ms x (y ∷ ys) rest (apart.lacks m h.0) (apart.lacks x k.0) e in
    let same = apart.one x m k.0 h.0 both.0 in
    follows_more c spelling m ms x (y ∷ ys) rest same (followed c spelling IsValid apart ms (y ∷ ys) rest h.1 k.1 (omega arith) (some_same both.1))

ended_more : {X : Type 0} (c : ℕ) (spelling : X → List ℕ) (made : List X) (x : X)
    → ended c spelling (made ++ x ∷ []) ≡ ended c spelling made ++ (spelling x ++ c ∷ [])
ended_more c spelling [] x = refl
ended_more c spelling (m ∷ ms) x = rw (ended_more c spelling ms x) (sym (append_assoc (spelling m) (c ∷ ended c spelling ms) (spelling x ++ c ∷ [])))

listed_more : {X : Type 0} (c : ℕ) (spelling : X → List ℕ) (made : List X) (x : X) → listed c spelling (made ++ x ∷ []) ≡ ended c spelling made ++ spelling x
listed_more c spelling [] x = append-nil (spelling x)
listed_more c spelling (m ∷ []) x = simp (append-nil, append_assoc)
listed_more c spelling (m ∷ n ∷ ms) x =
    ap (λ (bs : List ℕ). spelling m ++ c ∷ bs) (listed_more c spelling (n ∷ ms) x)
    ∙ sym (append_assoc (spelling m) (c ∷ ended c spelling (n ∷ ms)) (spelling x))

first_whole : (c : ℕ) (text front : List ℕ) → first_part c text ≡ (front, None) → text ≡ front
first_whole c text front e = by (cut c text) e where
  by : (o : Option (List ℕ × List ℕ)) → parted text o ≡ (front, None) → text ≡ front
  by None k = (pair_same k).0
  by (Some p) k = absurd (none-some p.1 (sym (pair_same k).1))

first_joins : (c : ℕ) (text front rest : List ℕ) → first_part c text ≡ (front, Some rest) → text ≡ front ++ c ∷ rest
first_joins c text front rest e = cut_joins c text front rest (by (cut c text) e) where
  by : (o : Option (List ℕ × List ℕ)) → parted text o ≡ (front, Some rest) → o ≡ Some (front, rest)
  by None k = absurd (none-some rest (pair_same k).1)
  by (Some p) k = rw ((pair_same k).0, some_same (pair_same k).1) refl

length_more : {X : Type 0} (xs : List X) (x : X) → 0 < length (xs ++ x ∷ [])
length_more [] x = omega arith
length_more (y ∷ ys) x = omega arith

-- one more value is read
pub goes_on : {X : Type 0} (c : ℕ) (spelling : X → List ℕ) (text rest front : List ℕ) (after : Option (List ℕ)) (made : List X) (x : X)
    → Leaves c spelling text made (Some rest) → first_part c rest ≡ (front, after) → front ≡ spelling x → Leaves c spelling text (made ++ x ∷ []) after
goes_on c spelling text rest front None made x h e is =
    (length_more made x, h ∙ rw (first_whole c rest front e, is) (sym (listed_more c spelling made x)))
goes_on c spelling text rest front (Some after) made x h e is =
    h ∙ rw (first_joins c rest front after e, is, ended_more c spelling made x) (simp append_assoc)

-- where a list of valid values has the text, a valid value comes next
pub record Next {X : Type 0} (c : ℕ) (spelling : X → List ℕ) (IsValid : X → Type 0) (made xs : List X) (front : List ℕ) : Type 0 where
  pub next : X
  pub more : List X
  pub split : xs ≡ made ++ next ∷ more
  pub valid : IsValid next
  pub text : front ≡ spelling next

all_after : {X : Type 0} (P : X → Type 0) (xs : List X) (y : X) (ys : List X) → AllByRecursion P (xs ++ y ∷ ys) → P y
all_after P [] y ys h = h.0
all_after P (x ∷ xs) y ys h = all_after P xs y ys h.1

pub next_is : {X : Type 0} (c : ℕ) (spelling : X → List ℕ) (IsValid : X → Type 0) → IsApart c spelling IsValid
    → (text rest front : List ℕ) (after : Option (List ℕ)) (made xs : List X)
    → Leaves c spelling text made (Some rest) → first_part c rest ≡ (front, after) → AllByRecursion IsValid made → AllByRecursion IsValid xs → 0 < length xs
    → text ≡ listed c spelling xs → Next c spelling IsValid made xs front
next_is c spelling IsValid apart text rest front after made xs h e all_made all_xs some is =
    let f = followed c spelling IsValid apart made xs rest all_made all_xs some (sym is ∙ h) in
    let valid = all_after IsValid made f.next f.more (let P : List _ → Type 0 = AllByRecursion IsValid in subst P f.split all_xs) in
    let both = pair_same (sym e ∙ ap (first_part c) f.text ∙ first_listed c spelling f.next f.more (apart.lacks f.next valid)) in
    record { next = f.next; more = f.more; split = f.split; valid = valid; text = both.0 }

-- nothing valid has a text of which the next part is no value's
pub unread : {X : Type 0} (c : ℕ) (spelling : X → List ℕ) (IsValid : X → Type 0) → IsApart c spelling IsValid
    → (text rest front : List ℕ) (after : Option (List ℕ)) (made xs : List X)
    → Leaves c spelling text made (Some rest) → first_part c rest ≡ (front, after) → AllByRecursion IsValid made → IsRead spelling IsValid front None
    → AllByRecursion IsValid xs → 0 < length xs → text ≡ listed c spelling xs → ⊥
unread c spelling IsValid apart text rest front after made xs h e all_made bad all_xs some is =
    let n = next_is c spelling IsValid apart text rest front after made xs h e all_made all_xs some is in bad n.next n.valid n.text

-- the value that is read is the next one
pub read_next : {X : Type 0} (c : ℕ) (spelling : X → List ℕ) (IsValid : X → Type 0) → IsApart c spelling IsValid
    → (text rest front : List ℕ) (after : Option (List ℕ)) (made xs : List X) (x : X)
    → Leaves c spelling text made (Some rest) → first_part c rest ≡ (front, after) → AllByRecursion IsValid made → IsRead spelling IsValid front (Some x)
    → AllByRecursion IsValid xs → 0 < length xs → text ≡ listed c spelling xs → (more : List X) × (xs ≡ made ++ x ∷ more)
read_next c spelling IsValid apart text rest front after made xs x h e all_made good all_xs some is =
    let n = next_is c spelling IsValid apart text rest front after made xs h e all_made all_xs some is in
    let same : n.next ≡ x = apart.one n.next x n.valid good.0 (sym n.text ∙ good.1) in
    (n.more, rw (← same) n.split)

-- lists of valid values with one text are one list
pub listed_same : {X : Type 0} (c : ℕ) (spelling : X → List ℕ) (IsValid : X → Type 0) → IsApart c spelling IsValid → (xs ys : List X)
    → AllByRecursion IsValid xs → AllByRecursion IsValid ys → others c spelling xs ≡ others c spelling ys → xs ≡ ys
listed_same c spelling IsValid apart [] [] h k e = refl
listed_same c spelling IsValid apart [] (y ∷ ys) h k e = absurd (none-some (listed c spelling (y ∷ ys)) e)
listed_same c spelling IsValid apart (x ∷ xs) [] h k e = absurd (none-some (listed c spelling (x ∷ xs)) (sym e))
listed_same c spelling IsValid apart (x ∷ xs) (y ∷ ys) h k e =
    let both = pair_same (sym (first_listed c spelling x xs (apart.lacks x h.0)) ∙ ap (first_part c) (some_same e)
    ∙ first_listed c spelling y ys (apart.lacks y k.0)) in
    let first : x ≡ y = apart.one x y h.0 k.0 both.0 in
    let rest : xs ≡ ys = listed_same c spelling IsValid apart xs ys h.1 k.1 both.1 in cc (first, rest)

led_lacks : {X : Type 0} (b c : ℕ) (spelling : X → List ℕ) (xs : List X) → c ≢ b → AllByRecursion (λ x. Lacks b (spelling x)) xs
    → Lacks b (led_by (c ∷ []) (map spelling xs))
led_lacks b c spelling [] ne h = tt
led_lacks b c spelling (x ∷ xs) ne h = (apart c b ne, lacks_append b (spelling x) (led_by (c ∷ []) (map spelling xs)) h.0 (led_lacks b c spelling xs ne h.1))

-- a byte that stands in no value's spelling and is not the separator
pub listed_lacks : {X : Type 0} (b c : ℕ) (spelling : X → List ℕ) (xs : List X) → c ≢ b → AllByRecursion (λ x. Lacks b (spelling x)) xs
    → Lacks b (listed c spelling xs)
listed_lacks b c spelling [] ne h = tt
listed_lacks b c spelling (x ∷ xs) ne h = lacks_append b (spelling x) (led_by (c ∷ []) (map spelling xs)) h.0 (led_lacks b c spelling xs ne h.1)

pub all_weaker : {X : Type 0} {P Q : X → Type 0} (xs : List X) → ((x : X) → P x → Q x) → AllByRecursion P xs → AllByRecursion Q xs
all_weaker [] f h = tt
all_weaker (x ∷ xs) f h = (f x h.0, all_weaker xs f h.1)
