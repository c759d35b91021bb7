-- What stands inside a book.
use Rattle.std.specs.Prelude.{◌≡◌}
use Rattle.std.specs.Arc.{arc_value}
use Rattle.pair_book.specs.declared.book.Book.TheInside.{Inside}
use Rattle.pair_book.specs.LogEntries.{IsLogged, terms_of, steps_of}
use Rattle.pair_book.specs.Books.{Held, IsBook, seal_value}

-- what callers see
abbrev pub held_of : Inside → Held
held_of b = record {
  source = b.source.value;
  limits = b.limits;
  base = b.base;
  entries = b.log.entries;
  tasks = b.tasks;
  commits = b.commits;
  seal = seal_value arc_value b.seal;
}

pub record IsKept (b : Inside) : Type 0 where
  pub book : IsBook (held_of b)
  pub logged : IsLogged b.log
  pub room : b.log.room ≡ b.limits.entries
  pub terms : b.terms ≡ terms_of b.log.entries
  pub steps : b.steps ≡ steps_of b.log.entries
