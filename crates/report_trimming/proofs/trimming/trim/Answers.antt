use Rattle.std.proofs.Common.{◌≡◌, Some, slice_get, refl, sym, subst}
use Rattle.report_trimming.specs.Kept.{kept_by}
use Rattle.report_trimming.specs.Used.{NamedInProof}
use Rattle.report_trimming.specs.Trimming.{Pairwise, IsKeptEntry, IsReplyRenamed}
use Rattle.report_trimming.proofs.Keeping.{rising, used_kept, closed_kept, shown_kept, kept_used}
use Rattle.report_trimming.proofs.trimming.trim.Goals as goal

pub kept_entries-requires-clause-closed : goal.kept_entries-requires-clause-closed
kept_entries-requires-clause-closed c = λ j k e m is n.
    let used = used_kept c.args.report c.in_ok-used_entries.field-0.items c.in_ok-kept.kept c.in_ok-kept.ensures c.in_ok-used_entries.ensures.is in
    closed_kept c.args.report c.in_ok-kept.kept used j k e m (subst (λ es. slice_get es j ≡ Some e) c.into_list.ensures is) n

pub renamed_replies-requires : goal.renamed_replies-requires
renamed_replies-requires c = λ k n.
    let used = used_kept c.args.report c.in_ok-used_entries.field-0.items c.in_ok-kept.kept c.in_ok-kept.ensures c.in_ok-used_entries.ensures.is in
    shown_kept c.args.report c.in_ok-kept.kept used k (subst (λ rs. NamedInProof rs k) c.into_list-2.ensures n)

pub returns : goal.returns
returns c =
    let used = used_kept c.args.report c.in_ok-used_entries.field-0.items c.in_ok-kept.kept c.in_ok-kept.ensures c.in_ok-used_entries.ensures.is in
    let kept = kept_by c.in_ok-kept.kept in
    record {
      kept = kept_by c.in_ok-kept.kept;
      rising = rising c.in_ok-kept.kept;
      used = kept_used c.args.report c.in_ok-kept.kept used;
      version = refl;
      items = refl;
      from = subst (Pairwise (λ k f. slice_get c.args.report.from k ≡ Some f) kept) (sym c.of-2.ensures)
          (subst (λ fs. Pairwise (λ k f. slice_get fs k ≡ Some f) kept c.in_ok-from.from.items) c.numbers.ensures c.in_ok-from.ensures);
      entries = subst (Pairwise (IsKeptEntry c.args.report.entries kept) kept) (sym c.of-3.ensures)
          (subst (λ es. Pairwise (IsKeptEntry es kept) kept c.in_ok-entries.entries.items) c.into_list.ensures c.in_ok-entries.ensures);
      replies = subst (Pairwise (IsReplyRenamed kept) c.args.report.replies) (sym c.of-4.ensures)
          (subst (λ rs. Pairwise (IsReplyRenamed kept) rs c.in_ok-replies.replies.items) c.into_list-2.ensures c.in_ok-replies.ensures);
      end = refl;
    }
