-- The text of a whole report, piece by piece.
use Rattle.std.proofs.Common.{◌≡◌, ℕ, List, [], ◌∷◌, ◌++◌, Option, Result, Ok, Err, sym, ap, subst, ◌∙◌, append_assoc, append-nil}
use Rattle.std.specs.Prelude.{OnOk}
use Rattle.mb_io.specs.Shelf.{TakesPrefix}
use Rattle.session_core.specs.Sessions.{SessionState}
use Rattle.report_lines.specs.declared.lines.Line.TheVariants as lines
use Rattle.report_lines.specs.Texts.{title, pres_line, lines_text}
use Rattle.report_text.specs.declared.faults.WriteFault.{WriteFault}
use Rattle.report_text.specs.Writing.{Stops, Puts}
use Rattle.report_text.specs.Histories.{History, told_from, item_lines, closing_of, lines_of}
use Rattle.report_text.specs.Logs.{LogItems}
use Rattle.report_text.specs.Reports.{Reported, reported_of, IsHistoryOf, text_of}
use Rattle.report_text.proofs.Orders.{line_piece}
use Rattle.report_text.proofs.Written.{Goes, goes_from, goes_more, goes_stops, goes_puts, lines_append}

abbrev pub head_piece : Reported → List ℕ
head_piece r = (title ++ 10 ∷ []) ++ (pres_line r.pres ++ 10 ∷ [])

abbrev pub items_piece : Reported → History → List ℕ
items_piece r h = lines_text r.pres (told_from h.sessions 0 (item_lines r.entries r.seal))

abbrev pub closing_piece : Reported → History → List ℕ
closing_piece r h = lines_text r.pres (closing_of h.sessions)

abbrev pub pieces : Reported → History → List ℕ
pieces r h = head_piece r ++ (items_piece r h ++ (line_piece r.pres (lines.End r.end) ++ (closing_piece r h ++ (line_piece r.pres lines.Done ++ []))))

head_split : (a b t : List ℕ) → a ++ 10 ∷ (b ++ 10 ∷ t) ≡ ((a ++ 10 ∷ []) ++ (b ++ 10 ∷ [])) ++ t
head_split a b t =
    sym (append_assoc (a ++ 10 ∷ []) (b ++ 10 ∷ []) t
    ∙ append_assoc a (10 ∷ []) ((b ++ 10 ∷ []) ++ t)
    ∙ ap (λ x. a ++ 10 ∷ x) (append_assoc b (10 ∷ []) t))

pub text_split : (r : Reported) (h : History) → IsHistoryOf r h → text_of r h ≡ pieces r h
text_split r h is =
    let items : lines_text r.pres (told_from h.sessions 0 (item_lines h.entries h.seal)) ≡ items_piece r h =
    ap (λ es. lines_text r.pres (told_from h.sessions 0 (item_lines es h.seal))) is.entries
    ∙ ap (λ s. lines_text r.pres (told_from h.sessions 0 (item_lines r.entries s))) is.seal in
    let tail : lines_text r.pres (lines.End h.end ∷ (closing_of h.sessions ++ lines.Done ∷ []))
    ≡ line_piece r.pres (lines.End r.end) ++ (closing_piece r h ++ (line_piece r.pres lines.Done ++ [])) =
    ap (λ e. line_piece r.pres (lines.End e) ++ lines_text r.pres (closing_of h.sessions ++ lines.Done ∷ [])) is.end
    ∙ ap (λ t. line_piece r.pres (lines.End r.end) ++ t) (lines_append r.pres (closing_of h.sessions) (lines.Done ∷ [])) in
    head_split title (pres_line r.pres) (lines_text r.pres (lines_of h))
    ∙ ap (λ t. head_piece r ++ t)
    (lines_append r.pres (told_from h.sessions 0 (item_lines h.entries h.seal)) (lines.End h.end ∷ (closing_of h.sessions ++ lines.Done ∷ []))
    ∙ ap (λ t. t ++ lines_text r.pres (lines.End h.end ∷ (closing_of h.sessions ++ lines.Done ∷ []))) items
    ∙ ap (λ t. items_piece r h ++ t) tail)

pub begins : (r : Reported) (h : History) → IsHistoryOf r h → (o : Option (List ℕ)) → Goes o (text_of r h) (pieces r h) o
begins r h is o = subst (λ t. Goes o (text_of r h) t o) (text_split r h is) (goes_from o (text_of r h))

-- ---- one piece behind another

module _ (r : Reported) (h : History) (is : IsHistoryOf r h) (o : Option (List ℕ)) where
  module _ (a : Option (List ℕ)) where
    pub head_stops : Stops o (head_piece r) a → Stops o (text_of r h) a
    head_stops s = goes_stops o o a (text_of r h) (head_piece r) (items_piece r h
        ++ (line_piece r.pres (lines.End r.end) ++ (closing_piece r h ++ (line_piece r.pres lines.Done ++ [])))) (begins r h is o) s

    module _ (head : TakesPrefix o (head_piece r) a) where
      pub behind_head : Goes o (text_of r h) (items_piece r h ++ (line_piece r.pres (lines.End r.end)
          ++ (closing_piece r h ++ (line_piece r.pres lines.Done ++ [])))) a
      behind_head = goes_more o o a (text_of r h) (head_piece r) (items_piece r h
          ++ (line_piece r.pres (lines.End r.end) ++ (closing_piece r h ++ (line_piece r.pres lines.Done ++ [])))) (begins r h is o) head

      module _ (b : Option (List ℕ)) where
        pub items_stop : Stops a (items_piece r h) b → Stops o (text_of r h) b
        items_stop s = goes_stops o a b (text_of r h) (items_piece r h) (line_piece r.pres (lines.End r.end)
            ++ (closing_piece r h ++ (line_piece r.pres lines.Done ++ []))) behind_head s

        module _ (items : TakesPrefix a (items_piece r h) b) where
          pub behind_items : Goes o (text_of r h) (line_piece r.pres (lines.End r.end) ++ (closing_piece r h ++ (line_piece r.pres lines.Done ++ []))) b
          behind_items = goes_more o a b (text_of r h) (items_piece r h) (line_piece r.pres (lines.End r.end)
              ++ (closing_piece r h ++ (line_piece r.pres lines.Done ++ []))) behind_head items

          module _ (c : Option (List ℕ)) where
            pub end_stops : Stops b (line_piece r.pres (lines.End r.end)) c → Stops o (text_of r h) c
            end_stops s = goes_stops o b c (text_of r h) (line_piece r.pres (lines.End r.end)) (closing_piece r h ++ (line_piece r.pres lines.Done ++ []))
                behind_items s

            module _ (ended : TakesPrefix b (line_piece r.pres (lines.End r.end)) c) where
              pub behind_end : Goes o (text_of r h) (closing_piece r h ++ (line_piece r.pres lines.Done ++ [])) c
              behind_end = goes_more o b c (text_of r h) (line_piece r.pres (lines.End r.end)) (closing_piece r h ++ (line_piece r.pres lines.Done ++ []))
                  behind_items ended

              module _ (d : Option (List ℕ)) where
                pub closings_halt : Stops c (closing_piece r h) d → Stops o (text_of r h) d
                closings_halt s = goes_stops o c d (text_of r h) (closing_piece r h) (line_piece r.pres lines.Done ++ []) behind_end s

                module _ (closings : TakesPrefix c (closing_piece r h) d) where
                  pub behind_closings : Goes o (text_of r h) (line_piece r.pres lines.Done ++ []) d
                  behind_closings = goes_more o c d (text_of r h) (closing_piece r h) (line_piece r.pres lines.Done ++ []) behind_end closings

                  pub done_puts : (e : Option (List ℕ)) (result : Result (Unit {0}) WriteFault) → Puts d (line_piece r.pres lines.Done) result e
                      → Puts o (text_of r h) result e
                  done_puts e result puts =
                      goes_puts o d e (text_of r h) (line_piece r.pres lines.Done ++ []) result behind_closings
                      (subst (λ t. Puts d t result e) (sym (append-nil (line_piece r.pres lines.Done))) puts)

-- what is reported of the log of a report is that report
pub of_log : (r : Reported) (log : LogItems) (ss : List SessionState) → log ≡ record { pres = r.pres; entries = r.entries; seal = r.seal } → ss ≡ r.sessions
    → reported_of log r.end ss ≡ r
of_log r log ss x sessions = λ i. record { pres = (x i).pres; entries = (x i).entries; seal = (x i).seal; end = r.end; sessions = sessions i }

pub ok_weaker : {P Q : Type 0} (r : Result (Unit {0}) WriteFault) → (P → Q) → OnOk r P → OnOk r Q
ok_weaker (Ok u) f h = f h
ok_weaker (Err e) f h = tt
