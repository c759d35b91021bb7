use Rattle.std.proofs.Common.{◌≡◌, ◌∙◌, ap, List, ℕ, map, string_bytes, subst, sym, true, refl}
use Rattle.clap.specs.Words.{app_of}
use Rattle.clap.specs.Simple.{App}
use Rattle.clap.specs.Faults.{fault_of, is_simple_and_free}
use Rattle.clap.specs.Kinds.{HasKind}
use Rattle.clap.specs.declared.error.kind.ErrorKind.TheVariants as kind
use Rattle.command_floor.specs.Parsing.{declared}
use Rattle.command_floor.specs.Settings.{option_name}
use Rattle.command_floor.proofs.Found.{none_parsed}
use Rattle.command_floor.proofs.parsing.parse.Goals as goal

pub returns-else-eq : goal.returns-else-eq
returns-else-eq c =
    let app : App = declared c.args.name.now (map option_name c.args.options.now) in
    let words : List (List ℕ) = map string_bytes c.args.words.now in
    let is : app_of c.in_ok-command.field-0 ≡ app = c.in_ok-command.ensures in
    let kinds : HasKind (fault_of (app_of c.in_ok-command.field-0) words) c.in-Err.error = c.in-Err.ensures.kinds (ap is_simple_and_free is ∙ c.requires) in
    sym (none_parsed app words c.in-Err.error (subst (λ (a : App). HasKind (fault_of a words) c.in-Err.error) is kinds)
    (λ e. let same : c.kind.result ≡ kind.OutOfMemory = c.kind.ensures ∙ e in let both : c.eq.result ≡ true = c.eq.ensures ∙ rw same refl in absurd cc))
