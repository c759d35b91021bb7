-- The texts of kinds and tasks.
use Rattle.std.proofs.Common.{◌≡◌, ℕ, List, Some, None, codes, decimal, refl, sym, ◌∙◌, append_assoc}
use Rattle.spelling.specs.Spelling.{IsRead, IsSmall}
use Rattle.spelling.proofs.Lacking.{Lacks}
use Rattle.vector_text.proofs.Parts.{IsApart}
use Rattle.outcomes.specs.declared.kinds.PairKind.{PairKind}
use Rattle.outcomes.specs.declared.kinds.PairKind.TheVariants.{G, S}
use Rattle.outcomes.specs.declared.tasks.Task.{Task}
use Rattle.report_lines.specs.Parts.{headed, IsHead, paired, AreBoth}
use Rattle.report_lines.specs.Texts.{kind_text, task_text}
use Rattle.report_lines.specs.Lines.{IsKind, IsTask}
use Rattle.report_lines.proofs.Pairs.{IsFirst, first_by_cut, clash, no_first, no_second, both_read, pair_same}
use Rattle.report_lines.proofs.Numbers.{number_first}

-- ---- kinds

kind_same : (a b : PairKind) → kind_text a ≡ kind_text b → a ≡ b
kind_same G G e = refl
kind_same G S e = absurd (clash 1 _ _ e refl)
kind_same S G e = absurd (clash 1 _ _ e refl)
kind_same S S e = refl

kind_lacks : (a : PairKind) → IsKind a → Lacks 32 (kind_text a)
kind_lacks G h = (refl, tt)
kind_lacks S h = (refl, tt)

pub kinds_apart : IsApart 32 kind_text IsKind
kinds_apart = record { lacks = kind_lacks; one = λ a b h k e. kind_same a b e }

kind_first : IsFirst kind_text IsKind (codes " ")
kind_first = first_by_cut 32 kind_text IsKind kinds_apart

pub no_kind : (text : List ℕ) → (text ≡ codes "G" → ⊥) → (text ≡ codes "S" → ⊥) → IsRead kind_text IsKind text None
no_kind text g s = λ k h e. by k e where
  by : (k : PairKind) → text ≡ kind_text k → ⊥
  by G e = g e
  by S e = s e

-- ---- tasks

abbrev Parts : Type 0
Parts = ℕ × (ℕ × PairKind)

abbrev later : ℕ × PairKind → List ℕ
later = paired decimal (codes " ") kind_text

abbrev parts_text : Parts → List ℕ
parts_text = paired decimal (codes " ") later

abbrev ArePartsLater : ℕ × PairKind → Type 0
ArePartsLater = AreBoth IsSmall IsKind

abbrev AreParts : Parts → Type 0
AreParts = AreBoth IsSmall ArePartsLater

no_task : (text : List ℕ) → IsRead parts_text AreParts text None → IsRead task_text IsTask text None
no_task text bad = λ t h e. bad (t.i, (t.j, t.kind)) (h.i, (h.j, tt)) e

pub no_i : (text : List ℕ) → IsRead (headed decimal (codes " ")) (IsHead IsSmall) text None → IsRead task_text IsTask text None
no_i text bad = no_task text (no_first decimal IsSmall (codes " ") later ArePartsLater text bad)

pub no_j : (text rest : List ℕ) (i : ℕ) → IsRead (headed decimal (codes " ")) (IsHead IsSmall) text (Some (i, rest))
    → IsRead (headed decimal (codes " ")) (IsHead IsSmall) rest None
    → IsRead task_text IsTask text None
no_j text rest i a bad =
    no_task text (no_second decimal IsSmall (codes " ") later ArePartsLater number_first text rest i a
    (no_first decimal IsSmall (codes " ") kind_text IsKind rest bad))

pub no_last : (text rest last : List ℕ) (i j : ℕ) → IsRead (headed decimal (codes " ")) (IsHead IsSmall) text (Some (i, rest))
    → IsRead (headed decimal (codes " ")) (IsHead IsSmall) rest (Some (j, last))
    → IsRead kind_text IsKind last None → IsRead task_text IsTask text None
no_last text rest last i j a b bad =
    no_task text (no_second decimal IsSmall (codes " ") later ArePartsLater number_first text rest i a
    (no_second decimal IsSmall (codes " ") kind_text IsKind number_first rest last j b bad))

pub task_read : (text rest last : List ℕ) (i j : ℕ) (k : PairKind) → IsRead (headed decimal (codes " ")) (IsHead IsSmall) text (Some (i, rest))
    → IsRead (headed decimal (codes " ")) (IsHead IsSmall) rest (Some (j, last)) → IsRead kind_text IsKind last (Some k)
    → IsRead task_text IsTask text (Some (record { i = i; j = j; kind = k }))
task_read text rest last i j k a b c =
    let r = both_read decimal IsSmall (codes " ") later ArePartsLater text rest i (j, k) a
    (both_read decimal IsSmall (codes " ") kind_text IsKind rest last j k b c) in
    (record { i = r.0.0; j = r.0.1.0 }, r.1)

pub task_same : (s t : Task) → IsTask s → IsTask t → task_text s ≡ task_text t → s ≡ t
task_same s t h k e =
    let a = pair_same decimal IsSmall (codes " ") later ArePartsLater number_first
    (λ x y p q f. let b = pair_same decimal IsSmall (codes " ") kind_text IsKind number_first (λ u v m n g. kind_same u v g) x y p q f in λ i. (b.0 i, b.1 i))
    (s.i, (s.j, s.kind)) (t.i, (t.j, t.kind)) (h.i, (h.j, tt)) (k.i, (k.j, tt)) e in
    λ i. record { i = a.0 i; j = (a.1 i).0; kind = (a.1 i).1 }

-- ---- a task and what stands behind it

-- the same with any text behind it
abbrev behind_kind : PairKind × List ℕ → List ℕ
behind_kind = headed kind_text (codes " ")

abbrev behind_j : ℕ × (PairKind × List ℕ) → List ℕ
behind_j = paired decimal (codes " ") behind_kind

abbrev AreBehindJ : ℕ × (PairKind × List ℕ) → Type 0
AreBehindJ = AreBoth IsSmall (IsHead IsKind)

abbrev behind_i : ℕ × (ℕ × (PairKind × List ℕ)) → List ℕ
behind_i = paired decimal (codes " ") behind_j

abbrev AreBehindI : ℕ × (ℕ × (PairKind × List ℕ)) → Type 0
AreBehindI = AreBoth IsSmall AreBehindJ

spread : (t : Task) (rest : List ℕ) → headed task_text (codes " ") (t, rest) ≡ behind_i (t.i, (t.j, (t.kind, rest)))
spread t rest = simp append_assoc

none_behind : (text : List ℕ) → IsRead behind_i AreBehindI text None → IsRead (headed task_text (codes " ")) (IsHead IsTask) text None
none_behind text bad = λ x h e. bad (x.0.i, (x.0.j, (x.0.kind, x.1))) (h.i, (h.j, tt)) (e ∙ spread x.0 x.1)

pub no_i_then : (text : List ℕ) → IsRead (headed decimal (codes " ")) (IsHead IsSmall) text None
    → IsRead (headed task_text (codes " ")) (IsHead IsTask) text None
no_i_then text bad = none_behind text (no_first decimal IsSmall (codes " ") behind_j AreBehindJ text bad)

pub no_j_then : (text rest : List ℕ) (i : ℕ) → IsRead (headed decimal (codes " ")) (IsHead IsSmall) text (Some (i, rest))
    → IsRead (headed decimal (codes " ")) (IsHead IsSmall) rest None
    → IsRead (headed task_text (codes " ")) (IsHead IsTask) text None
no_j_then text rest i a bad =
    none_behind text (no_second decimal IsSmall (codes " ") behind_j AreBehindJ number_first text rest i a
    (no_first decimal IsSmall (codes " ") behind_kind (IsHead IsKind) rest bad))

pub no_kind_then : (text rest last : List ℕ) (i j : ℕ) → IsRead (headed decimal (codes " ")) (IsHead IsSmall) text (Some (i, rest))
    → IsRead (headed decimal (codes " ")) (IsHead IsSmall) rest (Some (j, last))
    → IsRead behind_kind (IsHead IsKind) last None → IsRead (headed task_text (codes " ")) (IsHead IsTask) text None
no_kind_then text rest last i j a b bad =
    none_behind text (no_second decimal IsSmall (codes " ") behind_j AreBehindJ number_first text rest i a
    (no_second decimal IsSmall (codes " ") behind_kind (IsHead IsKind) number_first rest last j b bad))

pub task_then_read : (text rest last more : List ℕ) (i j : ℕ) (k : PairKind) → IsRead (headed decimal (codes " ")) (IsHead IsSmall) text (Some (i, rest))
    → IsRead (headed decimal (codes " ")) (IsHead IsSmall) rest (Some (j, last)) → IsRead behind_kind (IsHead IsKind) last (Some (k, more))
    → IsRead (headed task_text (codes " ")) (IsHead IsTask) text (Some (record { i = i; j = j; kind = k }, more))
task_then_read text rest last more i j k a b c =
    let r = both_read decimal IsSmall (codes " ") behind_j AreBehindJ text rest i (j, (k, more)) a
    (both_read decimal IsSmall (codes " ") behind_kind (IsHead IsKind) rest last j (k, more) b c) in
    (record { i = r.0.0; j = r.0.1.0 }, r.1 ∙ sym (spread (record { i = i; j = j; kind = k }) more))

-- a task ends where a space stands behind its kind
pub task_first : IsFirst task_text IsTask (codes " ")
task_first = record {
  same = λ s t a b h k e.
      let i = number_first.same s.i t.i (behind_j (s.j, (s.kind, a))) (behind_j (t.j, (t.kind, b))) h.i k.i (sym (spread s a) ∙ e ∙ spread t b) in
      let j = number_first.same s.j t.j (behind_kind (s.kind, a)) (behind_kind (t.kind, b)) h.j k.j i.1 in
      let kind = kind_first.same s.kind t.kind a b tt tt j.1 in
      ((λ x. record { i = i.0 x; j = j.0 x; kind = kind.0 x }), kind.1);
}
