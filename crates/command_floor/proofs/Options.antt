-- A command that gets one option after another.
use Rattle.std.proofs.Common.{◌≡◌, ℕ, ◌+◌, ◌<◌, List, [], ◌∷◌, ◌++◌, map, take, length, get_or, ap, sym, ◌∙◌}
use Rattle.std.proofs.lemmas.List.{take_more, map-append, append_assoc}
use Rattle.clap.specs.Walk.{Rule}
use Rattle.clap.specs.Simple.{App, on_top, with_rule}
use Rattle.command_floor.specs.Parsing.{with_options, option_rule}
use Rattle.command_floor.specs.declared.settings.Setting.{Setting}
use Rattle.command_floor.specs.Settings.{option_name}

more_options : (app : App) (os ps : List (List ℕ)) (o : List ℕ) → ps ≡ os ++ o ∷ [] → with_rule (with_options app os) (option_rule o) ≡ with_options app ps
more_options app os ps o e =
    let rules : (app.top.rules ++ map option_rule os) ++ option_rule o ∷ [] ≡ app.top.rules ++ map option_rule ps =
    append_assoc app.top.rules (map option_rule os) (option_rule o ∷ [])
    ∙ ap (λ (r : List Rule). app.top.rules ++ r) (sym (ap (map option_rule) e ∙ map-append option_rule os (o ∷ []))) in
    ap (λ (r : List Rule). on_top (λ s. record s { rules = r }) app) rules

-- the option at i is the next one
pub add_option : (app : App) (xs : List Setting) (i : ℕ) (x : Setting) (o : List ℕ) → i < length xs → o ≡ option_name (get_or xs i x)
    → with_rule (with_options app (map option_name (take i xs))) (option_rule o) ≡ with_options app (map option_name (take (i + 1) xs))
add_option app xs i x o lt is =
    more_options app (map option_name (take i xs)) (map option_name (take (i + 1) xs)) o
    (ap (map option_name) (take_more xs i x lt) ∙ map-append option_name (take i xs) (get_or xs i x ∷ [])
    ∙ ap (λ (n : List ℕ). map option_name (take i xs) ++ n ∷ []) (sym is))
