-- What the lines of a trimmed report tell grows.
use Rattle.std.proofs.Common.{◌≡◌, ℕ, zero, suc, ◌+◌, ◌-◌, ◌<◌, ◌≤◌, nat_lt, Bool, true, false, List, [], ◌∷◌, ◌++◌, length, slice_get, Option, Some, None, IsSome}
use Rattle.std.proofs.Common.{refl, sym, ap, subst, ◌∙◌, append_assoc, append-nil, length-append, arith}
use Rattle.std.proofs.lemmas.Option.{slice_get_within}
use Rattle.module_vec.specs.declared.steps.Step.{Step}
use Rattle.report_lines.specs.declared.lines.Line.{Line}
use Rattle.report_lines.specs.declared.lines.Line.TheVariants as lines
use Rattle.report_lines.specs.declared.trimmed.TrimmedLine.{TrimmedLine}
use Rattle.report_lines.specs.declared.trimmed.TrimmedLine.TheVariants.{Entry, Other}
use Rattle.report_reading.specs.declared.replies.ReplyData.{ReplyData}
use Rattle.report_reading.specs.declared.form.Form.TheVariants.{Trimmed}
use Rattle.report_reading.specs.Telling.{Told, IsDue, last_reply, with_proof}
use Rattle.report_reading.specs.Trimmed.{IsReached, OtherMayFollow, tell_other, tell_trimmed}
use Rattle.report_reading.specs.Forms.{TellIn}
use Rattle.report_acceptance.specs.Accepting.{proofs_in}
use Rattle.report_acceptance.proofs.Puts.{get_behind}

-- ---- lists

none_some : {X : Type 0} {x : X} → None ≡ Some x → ⊥
none_some e = cc

pub some_same : {X : Type 0} {x y : X} → Some x ≡ Some y → x ≡ y
some_same e = cc

pub some_end : {X : Type 0} (o : Option X) → IsSome o → o ≡ None → ⊥
some_end o h e = let wrong : false ≡ true = subst IsSome e h in absurd cc

abbrev pub last_in : {X : Type 0} → List X → Option X
last_in xs = slice_get xs (length xs - 1)

pub last_added : {X : Type 0} (xs : List X) (x : X) → last_in (xs ++ x ∷ []) ≡ Some x
last_added xs x =
    let e : length (xs ++ x ∷ []) ≡ length xs + 1 = length-append xs (x ∷ []) in
    let at : length (xs ++ x ∷ []) - 1 ≡ length xs = omega (arith, e) in
    ap (slice_get (xs ++ x ∷ [])) at ∙ get_behind xs x

pub get_joined : {X : Type 0} (xs ys : List X) (i : ℕ) (x : X) → slice_get xs i ≡ Some x → slice_get (xs ++ ys) i ≡ Some x
get_joined [] ys i x h = absurd (none_some h)
get_joined (y ∷ xs) ys zero x h = h
get_joined (y ∷ xs) ys (suc i) x h = get_joined xs ys i x h

-- the one list, and what follows it in the other
pub record IsLonger {X : Type 0} (xs ys : List X) : Type 0 where
  pub more : List X
  pub is : ys ≡ xs ++ more

same_long : {X : Type 0} (xs ys : List X) → xs ≡ ys → IsLonger xs ys
same_long xs ys e = record { more = []; is = sym e ∙ sym (append-nil xs) }

less_long : {X : Type 0} (xs : List X) (x : X) (ys : List X) → IsLonger (xs ++ x ∷ []) ys → IsLonger xs ys
less_long xs x ys h = record { more = x ∷ h.more; is = h.is ∙ append_assoc xs (x ∷ []) h.more }

pub at_seam : {X : Type 0} (xs : List X) (x : X) (ys : List X) → IsLonger (xs ++ x ∷ []) ys → slice_get ys (length xs) ≡ Some x
at_seam xs x ys h = subst (λ zs. slice_get zs (length xs) ≡ Some x) (sym h.is) (get_joined (xs ++ x ∷ []) h.more (length xs) x (get_behind xs x))

-- ---- proofs of the last reply

-- the same reply, with more proofs
pub record HasGrown (rs : List ReplyData) (i : ℕ) (r : ReplyData) : Type 0 where
  pub more : List (List Step)
  pub is : slice_get rs i ≡ Some (record r { proofs = r.proofs ++ more })

grown_same : (rs : List ReplyData) (i : ℕ) (r : ReplyData) → slice_get rs i ≡ Some r → HasGrown rs i r
grown_same rs i r h = record { more = []; is = h ∙ ap (λ ps. Some (record r { proofs = ps })) (sym (append-nil r.proofs)) }

pub proof_added : (ss : List Step) (rs : List ReplyData) (r : ReplyData) → last_in rs ≡ Some r
    → last_in (with_proof ss rs) ≡ Some (record r { proofs = r.proofs ++ ss ∷ [] })
proof_added ss [] r h = absurd (none_some h)
proof_added ss (q ∷ []) r h = ap (λ (x : ReplyData). Some (record x { proofs = x.proofs ++ ss ∷ [] })) (some_same h)
proof_added ss (q ∷ s ∷ rs) r h =
    let tail : last_in (with_proof ss (s ∷ rs)) ≡ Some (record r { proofs = r.proofs ++ ss ∷ [] }) = proof_added ss (s ∷ rs) r (last_tail q s rs r h) in
    last_more q (with_proof ss (s ∷ rs)) (record r { proofs = r.proofs ++ ss ∷ [] }) tail
  where
    last_tail : (q s : ReplyData) (rs : List ReplyData) (r : ReplyData) → last_in (q ∷ s ∷ rs) ≡ Some r → last_in (s ∷ rs) ≡ Some r
    last_tail q s rs r h =
        let at : length (q ∷ s ∷ rs) - 1 ≡ suc (length (s ∷ rs) - 1) = omega arith in
        sym (ap (slice_get (q ∷ s ∷ rs)) at) ∙ h

    last_more : (q : ReplyData) (xs : List ReplyData) (r : ReplyData) → last_in xs ≡ Some r → last_in (q ∷ xs) ≡ Some r
    last_more q xs r h =
        let within : length xs - 1 < length xs = slice_get_within xs (length xs - 1) r h in
        let at : length (q ∷ xs) - 1 ≡ suc (length xs - 1) = omega (arith, within) in
        ap (slice_get (q ∷ xs)) at ∙ h

-- how many proofs there are then
pub added_proofs : (rs : List ReplyData) (r : ReplyData) → proofs_in (rs ++ r ∷ []) ≡ proofs_in rs + length r.proofs
added_proofs [] r = omega arith
added_proofs (x ∷ rs) r = let e = added_proofs rs r in omega (arith, e)

pub proof_counted : (ss : List Step) (rs : List ReplyData) → 0 < length rs → proofs_in (with_proof ss rs) ≡ proofs_in rs + 1
proof_counted ss [] some = absurd (omega (arith, some))
proof_counted ss (q ∷ []) some = let e = length-append q.proofs (ss ∷ []) in omega (arith, e)
proof_counted ss (q ∷ s ∷ rs) some = let e = proof_counted ss (s ∷ rs) (omega arith) in omega (arith, e)

grown_proof : (ss : List Step) (rs : List ReplyData) (i : ℕ) (r : ReplyData) → slice_get rs i ≡ Some r → HasGrown (with_proof ss rs) i r
grown_proof ss [] i r h = absurd (none_some h)
grown_proof ss (q ∷ []) zero r h = record { more = ss ∷ []; is = ap (λ (x : ReplyData). Some (record x { proofs = x.proofs ++ ss ∷ [] })) (some_same h) }
grown_proof ss (q ∷ []) (suc i) r h = absurd (none_some h)
grown_proof ss (q ∷ s ∷ rs) zero r h = grown_same (q ∷ with_proof ss (s ∷ rs)) 0 r h
grown_proof ss (q ∷ s ∷ rs) (suc i) r h = let g = grown_proof ss (s ∷ rs) i r h in record { more = g.more; is = g.is }

grown_twice : (rs : List ReplyData) (i : ℕ) (r : ReplyData) (more : List (List Step)) → HasGrown rs i (record r { proofs = r.proofs ++ more }) → HasGrown rs i r
grown_twice rs i r more g = record {
  more = more ++ g.more;
  is = g.is ∙ ap (λ ps. Some (record r { proofs = ps })) (append_assoc r.proofs more g.more);
}

-- ---- one line

module _ (n : ℕ) where
  pub other_entries : (u : Told) (l : Line) → OtherMayFollow n u l → (tell_other n u l).entries ≡ u.entries
  other_entries u (lines.Entry number made vector) may = absurd may
  other_entries u lines.Seal may = refl
  other_entries u (lines.Live session number front q v) may = refl
  other_entries u (lines.Proof subject steps) may = refl
  other_entries u (lines.End end) may = refl
  other_entries u (lines.Close session number q v) may = refl
  other_entries u lines.Done may = refl

  pub other_from : (u : Told) (l : Line) → OtherMayFollow n u l → (tell_other n u l).from ≡ u.from
  other_from u (lines.Entry number made vector) may = absurd may
  other_from u lines.Seal may = refl
  other_from u (lines.Live session number front q v) may = refl
  other_from u (lines.Proof subject steps) may = refl
  other_from u (lines.End end) may = refl
  other_from u (lines.Close session number q v) may = refl
  other_from u lines.Done may = refl

  other_grown : (u : Told) (l : Line) (i : ℕ) (r : ReplyData) → slice_get u.replies i ≡ Some r → HasGrown (tell_other n u l).replies i r
  other_grown u (lines.Entry number made vector) i r h = grown_same u.replies i r h
  other_grown u lines.Seal i r h = grown_same u.replies i r h
  other_grown u (lines.Live session number front q v) i r h = grown_same (tell_other n u (lines.Live session number front q v)).replies i r
      (get_joined u.replies _ i r h)
  other_grown u (lines.Proof subject steps) i r h = grown_proof steps u.replies i r h
  other_grown u (lines.End end) i r h = grown_same u.replies i r h
  other_grown u (lines.Close session number q v) i r h = grown_same (tell_other n u (lines.Close session number q v)).replies i r
      (get_joined u.replies _ i r h)
  other_grown u lines.Done i r h = grown_same u.replies i r h

  line_grown : (u : Told) (l : TrimmedLine) (i : ℕ) (r : ReplyData) → slice_get u.replies i ≡ Some r → HasGrown (tell_trimmed n u l).replies i r
  line_grown u (Entry number from made vector) i r h = grown_same u.replies i r h
  line_grown u (Other l) i r h = other_grown u l i r h

  -- ---- all lines

  pub entries_grow : (u t : Told) (ls : List TrimmedLine) → TellIn (Trimmed n) u ls t → IsLonger u.entries t.entries
  entries_grow u t [] h = same_long u.entries t.entries (ap (λ (x : Told). x.entries) h)
  entries_grow u t (Entry number from made vector ∷ ls) h =
      less_long u.entries _ t.entries (entries_grow (tell_trimmed n u (Entry number from made vector)) t ls h.1)
  entries_grow u t (Other l ∷ ls) h =
      subst (λ es. IsLonger es t.entries) (other_entries u l h.0) (entries_grow (tell_trimmed n u (Other l)) t ls h.1)

  pub from_grows : (u t : Told) (ls : List TrimmedLine) → TellIn (Trimmed n) u ls t → IsLonger u.from t.from
  from_grows u t [] h = same_long u.from t.from (ap (λ (x : Told). x.from) h)
  from_grows u t (Entry number from made vector ∷ ls) h =
      less_long u.from from t.from (from_grows (tell_trimmed n u (Entry number from made vector)) t ls h.1)
  from_grows u t (Other l ∷ ls) h = subst (λ ks. IsLonger ks t.from) (other_from u l h.0) (from_grows (tell_trimmed n u (Other l)) t ls h.1)

  pub replies_grow : (u t : Told) (ls : List TrimmedLine) → TellIn (Trimmed n) u ls t → (i : ℕ) (r : ReplyData) → slice_get u.replies i ≡ Some r
      → HasGrown t.replies i r
  replies_grow u t [] h i r at = grown_same t.replies i r (subst (λ (x : Told). slice_get x.replies i ≡ Some r) h at)
  replies_grow u t (l ∷ ls) h i r at =
      let one = line_grown u l i r at in
      grown_twice t.replies i r one.more (replies_grow (tell_trimmed n u l) t ls h.1 i (record r { proofs = r.proofs ++ one.more }) one.is)

  -- ---- entries that are told later have numbers that the answers before reach

  reached_trans : (o : Option ReplyData) (a b : ℕ) → IsReached o a → a ≤ b → IsReached o b
  reached_trans None a b h le = tt
  reached_trans (Some r) a b h le = omega (arith, h, le)

  pub due_reached : (ss : List Step) (rs : List ReplyData) (j k : ℕ) → IsDue j (last_in rs) → IsReached (last_in (with_proof ss rs)) k
      → IsReached (last_in rs) k
  due_reached ss rs j k due h = by (last_in rs) refl due
    where
      by : (o : Option ReplyData) → last_in rs ≡ o → IsDue j o → IsReached o k
      by None e d = tt
      by (Some r) e d = subst (λ o. IsReached o k) (proof_added ss rs r e) h

  other_later : (u : Told) (l : Line) (k : ℕ) → OtherMayFollow n u l → (tell_other n u l).end ≡ None → IsReached (last_reply (tell_other n u l)) k
      → (u.end ≡ None) × IsReached (last_reply u) k
  other_later u (lines.Entry number made vector) k may none h = absurd may
  other_later u lines.Seal k may none h = (none, h)
  other_later u (lines.Live session number front q v) k may none h =
      let reached : front ≤ k = subst (λ o. IsReached o k) (last_added u.replies _) h in
      (none, reached_trans (last_reply u) front k may.1.2 reached)
  other_later u (lines.Proof subject steps) k may none h = (none, due_reached steps u.replies subject k may h)
  other_later u (lines.End end) k may none h = absurd (none_some (sym none))
  other_later u (lines.Close session number q v) k may none h = absurd (some_end u.end may.0.0 none)
  other_later u lines.Done k may none h = (none, h)

  pub later : (u t : Told) (ls : List TrimmedLine) → TellIn (Trimmed n) u ls t → (j k : ℕ) → length u.from ≤ j → slice_get t.from j ≡ Some k
      → (u.end ≡ None) × IsReached (last_reply u) k
  later u t [] h j k le at =
      let within : j < length u.from = slice_get_within u.from j k (subst (λ (x : Told). slice_get x.from j ≡ Some k) (sym h) at) in
      absurd (omega (arith, le, within))
  later u t (Entry number from made vector ∷ ls) h j k le at =
      let told : Told = tell_trimmed n u (Entry number from made vector) in
      let longer : length (u.from ++ from ∷ []) ≡ length u.from + 1 = length-append u.from (from ∷ []) in
      by told (nat_lt (length u.from) j) refl (λ above. later told t ls h.1 j k (omega (arith, above, longer)) at)
      (at_seam u.from from t.from (from_grows told t ls h.1))
    where
      by : (told : Told) (b : Bool) → nat_lt (length u.from) j ≡ b → (length u.from < j → (u.end ≡ None) × IsReached (last_reply u) k)
          → slice_get t.from (length u.from) ≡ Some from → (u.end ≡ None) × IsReached (last_reply u) k
      by told true e above own = above (grind arith)
      by told false e above own =
          let below : j ≤ length u.from = grind arith in
          let here : length u.from ≡ j = omega (arith, le, below) in
          let same : from ≡ k = some_same (sym own ∙ (ap (slice_get t.from) here ∙ at)) in
          (h.0.0.0, subst (IsReached (last_reply u)) same h.0.2.3)
  later u t (Other l ∷ ls) h j k le at =
      let more = later (tell_trimmed n u (Other l)) t ls h.1 j k (let e = ap length (other_from u l h.0) in omega (arith, le, e)) at in
      other_later u l k h.0 more.0 more.1
