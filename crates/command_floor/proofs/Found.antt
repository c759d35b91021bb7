-- What a parse found, by its rows.
use Rattle.std.proofs.Common.{◌≡◌, ℕ, List, [], ◌∷◌, Option, Some, None, refl, ap, ◌∙◌, option_map, unwrap_or, inl, inr}
use Rattle.std.specs.Prelude.{codes}
use Rattle.clap.specs.Words.{rows_of, matched_of, raw_values}
use Rattle.clap.specs.Walk.{Row}
use Rattle.clap.specs.Simple.{App, matches_of}
use Rattle.clap.specs.Faults.{fault_of}
use Rattle.clap.specs.Kinds.{Kinds, HasKind, IsAmong}
use Rattle.clap.specs.Values.{kind_of}
use Rattle.clap.specs.declared.parser.matches.Found.{Found}
use Rattle.clap.specs.declared.error.Error.{Error}
use Rattle.clap.specs.declared.error.kind.ErrorKind.TheVariants as kind
use Rattle.clap.proofs.WalkLemmas.{raw_values-rows}
use Rattle.command_floor.specs.Parsing.{parsed, parsed_where, names_in}

among_some : (k : _) (kinds : Kinds) (rows : List Row) → IsAmong k kinds → parsed_where kinds rows ≡ None
among_some k [] rows h = absurd h
among_some k (x ∷ xs) rows h = refl

-- a parse that fails for another cause than memory finds nothing
pub none_parsed : (app : App) (words : List (List ℕ)) (e : Error) → HasKind (fault_of app words) e → (kind_of e ≡ kind.OutOfMemory → ⊥)
    → parsed app words ≡ None
none_parsed app words e (inl h) not_memory = absurd (not_memory h)
none_parsed app words e (inr h) not_memory = among_some (kind_of e) (fault_of app words) (matches_of app words) h

-- a parse that succeeds finds the rows
pub some_parsed : (app : App) (words : List (List ℕ)) (rows : List Row) → fault_of app words ≡ [] → rows ≡ matches_of app words → Some rows ≡ parsed app words
some_parsed app words rows no_fault is = rw (no_fault, is) refl

-- the words that belong to no option, as the code finds them
pub names_found : (f : Found) (vs : Option (List (List ℕ))) → vs ≡ option_map raw_values (matched_of f (codes "names")) → unwrap_or vs [] ≡ names_in (rows_of f)
names_found f vs e = ap (λ o. unwrap_or o []) (e ∙ raw_values-rows f (codes "names"))
