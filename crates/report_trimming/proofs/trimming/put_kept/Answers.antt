use Rattle.std.proofs.Common.{sym, ◌∙◌}
use Rattle.report_trimming.specs.Kept.{kept_by}
use Rattle.report_trimming.specs.Trimming.{IsKeptEntry}
use Rattle.report_trimming.proofs.Pairing.{kept_pushed, kept_skipped}
use Rattle.report_trimming.proofs.trimming.put_kept.Goals as goal

pub returns-then-not-holds : goal.returns-then-not-holds
returns-then-not-holds c = λ es is h.
    kept_skipped (IsKeptEntry es (kept_by c.args.kept.now)) c.args.kept.now c.args.at c.args.made.now.items c.requires.within
    (λ m. let wrong = sym (c.holds.ensures.1 m) ∙ c.if-not-holds.true in cc) h

pub returns : goal.returns
returns c = λ es is h.
    kept_pushed (IsKeptEntry es (kept_by c.args.kept.now)) c.args.kept.now c.args.at c.in_ok-renamed_entry.field-0 c.args.made.now.items
    c.push.new.self.items (c.holds.ensures.0 c.if-not-holds.false) h c.in_ok-push.ensures.items
    (record { entry = c.args.entry; is = is; renamed = c.in_ok-renamed_entry.ensures })
