use Rattle.std.proofs.Common.{◌≡◌, ◌-◌, List, Some, length, slice_get, sym, ap, ◌∙◌}
use Rattle.std.specs.Option.{option_copied}
use Rattle.session_core.specs.declared.kept.Kept.{Kept}
use Rattle.session_core.specs.Sessions.{SessionState, last_front, front_after}
use Rattle.session_core.proofs.Keeping.{front_of_last}
use Rattle.session_core.proofs.sessions.Session.front.Goals as goal

pub returns-in-Some : goal.returns-in-Some
returns-in-Some c =
    let ks : List Kept = c.deref.result.now in
    let read : slice_get ks (length ks - 1) ≡ Some c.in-Some.kept.now = sym c.last.ensures.value ∙ ap option_copied c.in-Some.is in
    sym (front_of_last c.self.inside.base ks c.in-Some.kept.now read) ∙ ap (front_after c.self.inside.base) c.deref.ensures.value
    ∙ ap (λ (s : SessionState). last_front s) c.self.view_is
