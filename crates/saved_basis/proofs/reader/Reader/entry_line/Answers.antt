use Rattle.std.proofs.Common.{rules, ◌≡◌, Some, None, subst}
use Rattle.spelling.specs.Spelling.{IsRead}
use Rattle.presentation.specs.Presented.{Presented, IsPresented}
use Rattle.report_lines.specs.Lines.{IsLineOf}
use Rattle.report_lines.specs.Texts.{line_text}
use Rattle.saved_basis.proofs.Making.{same_count}
use Rattle.saved_basis.proofs.NextLines.{unread, other_line, cant_stand}
use Rattle.saved_basis.proofs.reader.Reader.entry_line.Goals as goal

pub returns-in_default-clause-line : goal.returns-in_default-clause-line
returns-in_default-clause-line c = λ gens are.
    let source : c.deref-2.result.now ≡ c.args.self.now.source = search rules in
    let none : IsRead (line_text c.deref-2.result.now) (IsLineOf c.deref-2.result.now) c.args.bytes.now None =
    subst (λ o. IsRead (line_text c.deref-2.result.now) (IsLineOf c.deref-2.result.now) c.args.bytes.now o) c.in_default.is c.in_ok-read.ensures in
    unread c.args.self.now gens c.args.bytes.now c.requires
    (same_count c.args.self.now.source c.args.self.now.generators c.known-2.ensures.base gens are)
    (subst (λ (p : Presented). IsRead (line_text p) (IsLineOf p) c.args.bytes.now None) source none)

pub returns-in_default-of-clause-line : goal.returns-in_default-of-clause-line
returns-in_default-of-clause-line c = λ gens are.
    let source : c.deref-2.result.now ≡ c.args.self.now.source = search rules in
    let known : IsPresented c.args.self.now.source = search rules in
    let some : IsRead (line_text c.args.self.now.source) (IsLineOf c.args.self.now.source) c.args.bytes.now (Some c.in-Some.read) =
    subst (λ (p : Presented). IsRead (line_text p) (IsLineOf p) c.args.bytes.now (Some c.in-Some.read)) source
    (subst (λ o. IsRead (line_text c.deref-2.result.now) (IsLineOf c.deref-2.result.now) c.args.bytes.now o) c.in-Some.is c.in_ok-read.ensures) in
    other_line c.args.self.now gens c.args.bytes.now c.requires
    (same_count c.args.self.now.source c.args.self.now.generators c.known-2.ensures.base gens are)
    c.in-Some.read known some.0 some.1 (λ made v is may. c.in_default-of.ensures _ made v is)

pub returns-then-not-may_stand-clause-line : goal.returns-then-not-may_stand-clause-line
returns-then-not-may_stand-clause-line c = λ gens are.
    let source : c.deref-2.result.now ≡ c.args.self.now.source = search rules in
    let known : IsPresented c.args.self.now.source = search rules in
    let some : IsRead (line_text c.args.self.now.source) (IsLineOf c.args.self.now.source) c.args.bytes.now (Some c.in-Some.read) =
    subst (λ (p : Presented). IsRead (line_text p) (IsLineOf p) c.args.bytes.now (Some c.in-Some.read)) source
    (subst (λ o. IsRead (line_text c.deref-2.result.now) (IsLineOf c.deref-2.result.now) c.args.bytes.now o) c.in-Some.is c.in_ok-read.ensures) in
    other_line c.args.self.now gens c.args.bytes.now c.requires
    (same_count c.args.self.now.source c.args.self.now.generators c.known-2.ensures.base gens are)
    c.in-Some.read known some.0 some.1
    (cant_stand gens c.args.self.now.entries c.in-Some-of.line.number c.in-Some-of.line.made c.in-Some-of.line.vector c.in-Some.read c.in-Some-of.ensures
    c.may_stand.result (c.may_stand.ensures gens are) c.if-not-may_stand.true)
