-- Texts that are written piece by piece.
use Rattle.std.proofs.Common.{◌≡◌, ℕ, List, [], ◌∷◌, ◌++◌, take, drop, Option, Some, None, Result, Ok, Err, refl, sym, ap, subst, ◌∙◌, append_assoc, append-nil}
use Rattle.std.proofs.Common.{take-append-drop}
use Rattle.std.proofs.Common.{inl, inr, ◌≤◌, arith}
use Rattle.mb_io.specs.Shelf.{TakesPrefix, CountRose}
use Rattle.flat_cert.specs.declared.faults.WriteFault.{WriteFault}
use Rattle.flat_cert.specs.declared.faults.WriteFault.TheVariants.{Failed, NoMemory}
use Rattle.flat_cert.specs.Texts.{title, last_line, lines_text, certificate_text}
use Rattle.flat_cert.specs.declared.lines.Flat.{Flat}
use Rattle.flat_cert.specs.Writing.{Stops, Puts, Counts}

took_nothing : (o : Option (List ℕ)) → TakesPrefix o [] o
took_nothing None = tt
took_nothing (Some x) = sym (append-nil x)

took_more : (a b c : Option (List ℕ)) (x y : List ℕ) → TakesPrefix a x b → TakesPrefix b y c → TakesPrefix a (x ++ y) c
took_more None None None x y h k = tt
took_more None (Some b) c x y h k = absurd h
took_more None None (Some c) x y h k = absurd k
took_more (Some a) None c x y h k = absurd h
took_more (Some a) (Some b) None x y h k = absurd k
took_more (Some a) (Some b) (Some c) x y h k = k ∙ ap (λ t. t ++ y) h ∙ append_assoc a x y

-- a front of the bytes
pub put_front : (a b : Option (List ℕ)) (text bytes : List ℕ) (n : ℕ) → bytes ≡ text → TakesPrefix a (take n bytes) b → Stops a text b
put_front a b text bytes n is h = record { front = take n bytes; rest = drop n bytes; is = sym is ∙ sym (take-append-drop n bytes); took = h }

-- ---- one text behind another

-- what follows a text that was written
pub then_puts : (a b c : Option (List ℕ)) (x y : List ℕ) (r : Result (Unit {0}) WriteFault) → TakesPrefix a x b → Puts b y r c → Puts a (x ++ y) r c
then_puts a b c x y (Ok u) h k = took_more a b c x y h k
then_puts a b c x y (Err e) h k = record {
  front = x ++ k.front;
  rest = k.rest;
  is = ap (λ t. x ++ t) k.is ∙ sym (append_assoc x k.front k.rest);
  took = took_more a b c x k.front h k.took;
}

-- a front of a text is one of the text with another behind it
pub stops_before : (a b : Option (List ℕ)) (x y : List ℕ) → Stops a x b → Stops a (x ++ y) b
stops_before a b x y h = record { front = h.front; rest = h.rest ++ y; is = ap (λ t. t ++ y) h.is ∙ append_assoc h.front h.rest y; took = h.took }

-- behind a text that was written
pub stops_behind : (a b c : Option (List ℕ)) (x y : List ℕ) → TakesPrefix a x b → Stops b y c → Stops a (x ++ y) c
stops_behind a b c x y h k = record {
  front = x ++ k.front;
  rest = k.rest;
  is = ap (λ t. x ++ t) k.is ∙ sym (append_assoc x k.front k.rest);
  took = took_more a b c x k.front h k.took;
}

-- nothing was written
pub stops_at_once : (a : Option (List ℕ)) (text : List ℕ) → Stops a text a
stops_at_once a text = record { front = []; rest = text; is = refl; took = took_nothing a }

pub puts_nothing : (a : Option (List ℕ)) → TakesPrefix a [] a
puts_nothing a = took_nothing a

-- the first text was written, and nothing behind it
pub stops_between : (a b : Option (List ℕ)) (x y : List ℕ) → TakesPrefix a x b → Stops a (x ++ y) b
stops_between a b x y h = record { front = x; rest = y; is = refl; took = h }

-- ---- counts

rose_later : (a b c : ℕ) → a ≤ b → CountRose b c → CountRose a c
rose_later a b c le (inl lt) = inl (omega (arith, le, lt))
rose_later a b c le (inr top) = inr top

-- a failure that is counted later is counted
pub counts_later : (a b c : ℕ) (e : WriteFault) → a ≤ b → Counts b (Err e) c → Counts a (Err e) c
counts_later a b c Failed le h = (omega (arith, le, h.0), rose_later a b c le h.1)
counts_later a b c NoMemory le h = omega (arith, le, h)

-- ---- a whole certificate

pub whole_text : (names : List (List ℕ)) (ls : List Flat)
    → (title ++ 10 ∷ []) ++ (lines_text names ls ++ (last_line ++ 10 ∷ [])) ≡ certificate_text names ls
whole_text names ls = append_assoc title (10 ∷ []) (lines_text names ls ++ (last_line ++ 10 ∷ []))

module _ (names : List (List ℕ)) (ls : List Flat) (a b : Option (List ℕ)) where
  pub head_stops : Stops a (title ++ 10 ∷ []) b → Stops a (certificate_text names ls) b
  head_stops h = subst (λ (t : List ℕ). Stops a t b) (whole_text names ls)
      (stops_before a b (title ++ 10 ∷ []) (lines_text names ls ++ (last_line ++ 10 ∷ [])) h)

  module _ (head : TakesPrefix a (title ++ 10 ∷ []) b) (c : Option (List ℕ)) where
    pub lines_stop : Stops b (lines_text names ls) c → Stops a (certificate_text names ls) c
    lines_stop h = subst (λ (t : List ℕ). Stops a t c) (whole_text names ls)
        (stops_behind a b c (title ++ 10 ∷ []) (lines_text names ls ++ (last_line ++ 10 ∷ [])) head
        (stops_before b c (lines_text names ls) (last_line ++ 10 ∷ []) h))

    module _ (lines : TakesPrefix b (lines_text names ls) c) where
      pub last_halts : Stops a (certificate_text names ls) c
      last_halts = subst (λ (t : List ℕ). Stops a t c) (whole_text names ls)
          (stops_behind a b c (title ++ 10 ∷ []) (lines_text names ls ++ (last_line ++ 10 ∷ [])) head
          (stops_between b c (lines_text names ls) (last_line ++ 10 ∷ []) lines))

      pub last_puts : (d : Option (List ℕ)) (r : Result (Unit {0}) WriteFault) → Puts c (last_line ++ 10 ∷ []) r d → Puts a (certificate_text names ls) r d
      last_puts d r h = subst (λ (t : List ℕ). Puts a t r d) (whole_text names ls)
          (then_puts a b d (title ++ 10 ∷ []) (lines_text names ls ++ (last_line ++ 10 ∷ [])) r head
          (then_puts b c d (lines_text names ls) (last_line ++ 10 ∷ []) r lines h))
