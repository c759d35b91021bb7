use Rattle.std.proofs.Common.{◌∙◌, ap}
use Rattle.flat_cert.specs.Texts.{certificate_text}
use Rattle.check_commands.proofs.FlatLeads.{made_leads}
use Rattle.check_commands.proofs.flat.certificate.Goals as goal

pub returns-in_ok-text_of-in-Ok-clause-leads : goal.returns-in_ok-text_of-in-Ok-clause-leads
returns-in_ok-text_of-in-Ok-clause-leads c w shown =
    made_leads c.args.p.now c.args.entries.now w c.args.proof.now c.in-Ok.list c.in_ok-text_of-in-Ok.field-0.items c.new.result c.in-Ok.ensures.exact
    c.in-Ok.ensures.certificate c.in-Ok.ensures.sum shown c.new.ensures
    (c.in_ok-text_of-in-Ok.ensures ∙ ap (certificate_text c.args.p.now.names) c.deref.ensures.value)
