use Rattle.std.proofs.Common.{◌≡◌, ◌∙◌, List, sym, ap, subst}
use Rattle.std.specs.Prelude.{Some}
use Rattle.free_words.specs.declared.letter.Letter.{Letter}
use Rattle.module_vec.specs.declared.steps.Step.{Step}
use Rattle.report_reading.specs.declared.replies.ReplyData.{ReplyData}
use Rattle.check_commands.specs.Replies.{proof_in}
use Rattle.check_commands.proofs.FlatLeads.{Asked, asked_shown, asked_leads}
use Rattle.check_commands.proofs.flat.shown.Goals as goal

pub certificate-requires-clause-proof : goal.certificate-requires-clause-proof
certificate-requires-clause-proof c =
    let asked : Asked c.args.p.now c.args.at.now c.args.report.now c.requires c.entries.result.now c.steps.result.now = record {
      word = c.in-Some.ensures.0;
      found = ap (λ (rs : List ReplyData). proof_in c.args.at.now rs) (sym c.replies.ensures) ∙ c.in-Some.ensures.1
          ∙ ap (λ (ss : List Step). Some (c.in-Some.ensures.0, ss)) (sym c.steps.ensures);
      entries = c.entries.ensures;
    } in
    (asked_shown c.args.p.now c.args.at.now c.args.report.now c.requires c.entries.result.now c.steps.result.now asked).proof

pub returns-in-Some-clause-leads : goal.returns-in-Some-clause-leads
returns-in-Some-clause-leads c =
    let asked : Asked c.args.p.now c.args.at.now c.args.report.now c.requires c.entries.result.now c.steps.result.now = record {
      word = c.in-Some.ensures.0;
      found = ap (λ (rs : List ReplyData). proof_in c.args.at.now rs) (sym c.replies.ensures) ∙ c.in-Some.ensures.1
          ∙ ap (λ (ss : List Step). Some (c.in-Some.ensures.0, ss)) (sym c.steps.ensures);
      entries = c.entries.ensures;
    } in
    asked_leads c.args.p.now c.args.at.now c.args.report.now c.requires c.entries.result.now c.steps.result.now asked c.certificate.result
    c.certificate.ensures.leads
